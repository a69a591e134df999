use Rattle.std.proofs.Common.{rules}
use Rattle.saved_parts.specs.Telling.{kept_of}
use Rattle.saved_reading.proofs.Words.{told_fault, unnamed, unknown_word}
use Rattle.saved_reading.proofs.threads.kept_named.Goals as goal

pub returns-in_default : goal.returns-in_default
returns-in_default c =
    let none = unnamed c.args.word.now (search rules) (search rules) (search rules) (search rules) (search rules) (search rules) (search rules) (search rules) in
    told_fault kept_of _ _ _ c.fault_of_word.ensures (unknown_word c.args.word.now c.args.place.now _ none)
