use Rattle.std.proofs.Common.{◌≡◌, drop}
use Rattle.project_spec.specs.Linked.{named}
use Rattle.block_table.proofs.by_name.named.Given as goal

abbrev pub invariant-loop-other : goal.invariant-loop-other
invariant-loop-other g l = named l.name l.items ≡ named l.name (drop l.other-index l.items)
