use Rattle.std.proofs.Common.{◌≡◌, drop}
use Rattle.project_json.specs.Reading.{after_word}
use Rattle.project_json.proofs.scanner.after_word.Given as goal

abbrev pub invariant-loop-w : goal.invariant-loop-w
invariant-loop-w l = after_word (drop l.w-index l.word) l.rest ≡ after_word l.word l.bytes
