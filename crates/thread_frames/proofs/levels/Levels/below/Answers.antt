use Rattle.std.proofs.Common.{◌≡◌, sym, ap, ◌∙◌, add-one, arith, drop}
use Rattle.shared_stacks.specs.Chains.{values, without_top}
use Rattle.shared_stacks.proofs.Chains.{without_top-drop}
use Rattle.thread_frames.proofs.levels.Levels.below.Goals as goal

pub loop-step-preserved : goal.loop-step-preserved
loop-step-preserved c = record {
  there = c.under-rest.ensures.there;
  below = c.under-rest.ensures.values ∙ ap without_top c.loop-step.invariant.below ∙ sym (rw add-one (sym (without_top-drop (values c.self.inside.pool.now c.self.inside.stack) c.loop-step.step)));
}

pub returns : goal.returns
returns c =
    let ended : c.loop-step.step ≡ c.args.count = omega arith in
    c.new.ensures ∙ c.loop-step.invariant.below ∙ ap (λ n. drop n (values c.self.inside.pool.now c.self.inside.stack)) ended ∙ ap (drop c.args.count) c.self.view_is
