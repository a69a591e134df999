use Rattle.std.proofs.Common.{◌≤◌, length}
use Rattle.std.specs.Io.KnownBytes.{Consumes}
use Rattle.sv_channels.proofs.transfer.read_up_to.Given as goal

-- what was read is kept, and is not too much
abbrev pub invariant-loop : goal.invariant-loop
invariant-loop g l = record {
  bound : length l.bytes.items ≤ l.most;
  taken : Consumes (g.F.Read.remaining l.initial.file) (g.F.Read.remaining l.file) l.bytes.items;
}
