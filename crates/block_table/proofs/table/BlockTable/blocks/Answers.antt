use Rattle.std.proofs.Common.{subst}
use Rattle.project_spec.specs.Linked.{IsClosed}
use Rattle.block_table.specs.Short.{HaveShortFields}
use Rattle.block_table.specs.Table.{Numbered}
use Rattle.block_table.proofs.table.BlockTable.blocks.Goals as goal

pub returns-clause-closed : goal.returns-clause-closed
returns-clause-closed c = subst (λ (v : Numbered). IsClosed v.blocks) c.self.view_is c.self.invariant.closed

pub returns-clause-short : goal.returns-clause-short
returns-clause-short c = subst (λ (v : Numbered). HaveShortFields v.blocks) c.self.view_is c.self.invariant.short
