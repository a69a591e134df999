use Rattle.link_graph.proofs.Chains.{serves}
use Rattle.link_graph.proofs.laws.ranks_serve_a_part.Goals as goal

pub returns : goal.returns
returns c = serves
