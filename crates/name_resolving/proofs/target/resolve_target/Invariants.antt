use Rattle.target_records.specs.Records.{records_in}
use Rattle.name_resolving.specs.Blocks.{flag}
use Rattle.name_resolving.proofs.BlocksPassed.{PassesFirst}
use Rattle.name_resolving.proofs.target.resolve_target.Given as goal

abbrev pub invariant-loop-i : goal.invariant-loop-i
invariant-loop-i l =
    PassesFirst l.initial.scope l.scope (flag l.checked) l.blocks l.i (records_in l.initial.records) (records_in l.records) l.all
