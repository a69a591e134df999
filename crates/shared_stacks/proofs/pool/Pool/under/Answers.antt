use Rattle.std.proofs.Common.{arith}
use Rattle.shared_stacks.proofs.Chains.{top_there, IsIn-under}
use Rattle.shared_stacks.proofs.pool.Pool.under.Goals as goal

pub index-requires : goal.index-requires
index-requires g c = top_there c.args.self.now c.args.stack c.requires (omega arith)

pub returns-clause-there : goal.returns-clause-there
returns-clause-there g c = IsIn-under c.args.self.now c.args.stack c.index.result.now c.requires (omega arith) c.index.ensures
