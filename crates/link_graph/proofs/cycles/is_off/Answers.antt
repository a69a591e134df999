use Rattle.link_graph.proofs.Chains.{not_cyclic}
use Rattle.link_graph.proofs.cycles.is_off.Goals as goal

pub returns-then-steady : goal.returns-then-steady
returns-then-steady c = λ t r. not_cyclic c.args.graph.now c.args.numbers.now c.args.block (c.requires.steady c.if-steady.true) (c.fall_at.ensures t) r
