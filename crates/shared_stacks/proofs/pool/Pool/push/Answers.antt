use Rattle.std.proofs.Common.{refl}
use Rattle.shared_stacks.proofs.Chains.{values-pushed, Moves-pushed}
use Rattle.shared_stacks.proofs.pool.Pool.push.Goals as goal

pub returns-clause-values : goal.returns-clause-values
returns-clause-values g c =
    values-pushed c.args.self.now _ c.args.stack.now _ c.args.value refl c.requires.there c.insert_reserved-stack.ensures.was_vacant c.insert_reserved-stack.ensures.updates

pub returns-clause-moved : goal.returns-clause-moved
returns-clause-moved g c =
    Moves-pushed c.args.self.now _ c.args.stack.now _ c.args.value refl c.requires.there c.insert_reserved-stack.ensures.was_vacant c.insert_reserved-stack.ensures.updates
    c.insert_reserved-stack.ensures.len c.insert_reserved-stack.ensures.capacity
