use Rattle.link_graph.proofs.Chains.{no_cycle}
use Rattle.link_graph.proofs.laws.ranks_rule_out_cycles.Goals as goal

pub returns : goal.returns
returns c = no_cycle
