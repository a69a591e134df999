use Rattle.std.proofs.Common.{◌≡◌, drop}
use Rattle.sv_channels.specs.Pairs.{second_of}
use Rattle.sv_channels.proofs.numbers.second_of.Given as goal

-- what is left answers as all do
abbrev pub invariant-loop-number : goal.invariant-loop-number
invariant-loop-number l = second_of (drop l.number-index l.number-items) l.first ≡ second_of l.number-items l.first
