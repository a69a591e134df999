use Rattle.std.proofs.Common.{arith}
use Rattle.shared_stacks.proofs.Chains.{top_there}
use Rattle.shared_stacks.proofs.pool.Pool.top.Goals as goal

pub index-requires : goal.index-requires
index-requires g c = top_there c.args.self.now c.args.stack c.requires (omega arith)
