-- The block was looked for.
use Rattle.std.proofs.Common.{sym, ◌∙◌}
use Rattle.executions.proofs.state.State.step.Goals as goal

pub step_at-requires-clause-block : goal.step_at-requires-clause-block
step_at-requires-clause-block g c = sym c.block_of.ensures ∙ c.in-Some.is
