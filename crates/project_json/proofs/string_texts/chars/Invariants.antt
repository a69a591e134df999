use Rattle.std.proofs.Common.{◌≡◌, ◌-◌, length, [], None}
use Rattle.project_json.specs.Joining.{IsWaiting}
use Rattle.project_json.specs.Reading.{pieces_at}
use Rattle.project_json.proofs.Joins.{joins}
use Rattle.project_json.proofs.string_texts.chars.Given as goal

abbrev pub invariant-loop : goal.invariant-loop
invariant-loop l = record {
  waits : IsWaiting l.high;
  read : joins l.buffer.items l.high (pieces_at (length l.bytes - l.counter) l.rest) ≡ joins [] None (pieces_at (length l.bytes) l.bytes);
}
