use Rattle.std.proofs.Common.{Vec, Global, ℕ, arith}
use Rattle.std.proofs.lemmas.List.{length-map}
use Rattle.link_graph.proofs.graph.Graph.new.Goals as goal

pub invariant_of-result : goal.invariant_of-result
invariant_of-result c = record {
  closed = rw c.deref.ensures.value at c.in-None.ensures;
  small = (let n = length-map c.args.rows.items (λ (v : Vec ℕ Global). v.items) in let h = c.requires in omega arith);
}

pub returns-in-None-clause-closed : goal.returns-in-None-clause-closed
returns-in-None-clause-closed c = rw c.deref.ensures.value at c.in-None.ensures
