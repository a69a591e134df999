use Rattle.std.proofs.Common.{◌≡◌, ◌++◌, take, drop}
use Rattle.project_json.specs.Reading.{digits, after_digits}
use Rattle.project_json.proofs.numbers.digit_count.Given as goal

abbrev pub invariant-loop-i : goal.invariant-loop-i
invariant-loop-i l = record {
  front : take l.i l.bytes ++ digits (drop l.i l.bytes) ≡ digits l.bytes;
  rest : after_digits (drop l.i l.bytes) ≡ after_digits l.bytes;
}
