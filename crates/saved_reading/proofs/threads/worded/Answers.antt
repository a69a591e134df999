use Rattle.std.proofs.Common.{sym}
use Rattle.saved_parts.specs.Telling.{kept_of}
use Rattle.saved_reading.proofs.Words.{told_fault, worded-word, worded-no_text}
use Rattle.saved_reading.proofs.threads.worded.Goals as goal

pub returns-in-Some : goal.returns-in-Some
returns-in-Some c = rw (worded-word _ _ _ _ c.in-len1-up.len_at_least c.first-item.is (sym c.in-Some.ensures)) c.kept_named.ensures

pub returns-in-None : goal.returns-in-None
returns-in-None c = told_fault kept_of _ _ _ c.fault_of_word.ensures (worded-no_text c.args.place.now c.args.items.now _ c.in-len1-up.len_at_least c.first-item.is (sym c.in-None.ensures))
