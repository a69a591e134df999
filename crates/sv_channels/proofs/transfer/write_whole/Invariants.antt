use Rattle.std.proofs.Common.{◌≡◌, List, ℕ, ◌++◌}
use Rattle.std.specs.Io.KnownBytes.{Appends}
use Rattle.sv_channels.proofs.transfer.write_whole.Given as goal

-- a first part is written, and the rest is left
abbrev pub invariant-loop : goal.invariant-loop
invariant-loop g l =
    (done : List ℕ) × (done ++ l.rest ≡ l.fn.bytes) × Appends (g.W.Write.contents l.fn.writer) (g.W.Write.contents l.writer) done
