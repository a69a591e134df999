use Rattle.shared_stacks.proofs.Chains.{top_there}
use Rattle.shared_stacks.proofs.pool.Pool.top_mut.Goals as goal

pub index_mut-requires : goal.index_mut-requires
index_mut-requires g c = top_there c.args.self.now c.args.stack c.requires.there c.requires.some
