use Rattle.std.proofs.Common.{arith}
use Rattle.shared_stacks.proofs.Chains.{top_there, values-popped, Moves-popped}
use Rattle.shared_stacks.proofs.pool.Pool.pop.Goals as goal

pub remove-value-requires : goal.remove-value-requires
remove-value-requires g c = top_there c.args.self.now c.args.stack.now c.requires (omega arith)

pub returns-clause-values : goal.returns-clause-values
returns-clause-values g c =
    values-popped c.args.self.now _ c.args.stack.now c.remove-value.result (omega arith) c.requires c.remove-value.ensures.value c.remove-value.ensures.updates

pub returns-clause-moved : goal.returns-clause-moved
returns-clause-moved g c =
    Moves-popped c.args.self.now _ c.args.stack.now c.remove-value.result (omega arith) c.requires c.remove-value.ensures.value c.remove-value.ensures.updates
    c.remove-value.ensures.len c.remove-value.ensures.capacity
