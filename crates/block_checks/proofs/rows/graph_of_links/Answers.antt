use Rattle.block_checks.proofs.Bridges.{closed_links}
use Rattle.block_checks.proofs.rows.graph_of_links.Goals as goal

pub unreachable-requires : goal.unreachable-requires
unreachable-requires c = closed_links c.args.table.now.blocks c.in-Err.field-0.block c.in-Err.field-0.to c.blocks-2.ensures.closed (rw (c.in_ok-rows.ensures, c.blocks-2.ensures.blocks) at c.in-Err.ensures.dangling)
