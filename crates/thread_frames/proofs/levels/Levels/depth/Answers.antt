use Rattle.std.proofs.Common.{◌∙◌, sym, ap, length}
use Rattle.shared_stacks.proofs.Chains.{length-values}
use Rattle.thread_frames.proofs.levels.Levels.depth.Goals as goal

pub returns : goal.returns
returns c = c.depth.ensures ∙ sym (length-values _ _ c.self.invariant) ∙ ap length c.self.view_is
