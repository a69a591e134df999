use Rattle.std.proofs.Common.{◌≡◌, ◌++◌, drop}
use Rattle.std.specs.Prelude.{flat_map}
use Rattle.machine_spec.specs.FrameText.{escaped}
use Rattle.quoted_text.proofs.quotes.push_inner.Given as goal

-- the bytes so far, and then those that are left
abbrev pub invariant-loop-byte : goal.invariant-loop-byte
invariant-loop-byte l = l.out.items ++ flat_map escaped (drop l.byte-index l.byte-items) ≡ l.fn.out.items ++ flat_map escaped l.byte-items
