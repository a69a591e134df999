use Rattle.std.proofs.Common.{map}
use Rattle.target_records.specs.Records.{records_in}
use Rattle.name_resolving.specs.Blocks.{flag_of}
use Rattle.name_resolving.proofs.TargetsPassed.{PassesTargets}
use Rattle.name_resolving.proofs.resolution.resolve.Given as goal

abbrev pub invariant-loop-t : goal.invariant-loop-t
invariant-loop-t l =
    PassesTargets l.scope (flag_of l.checked) (map (λ t. t.blocks) l.tables) l.t (records_in l.initial.records) (records_in l.records) l.all
