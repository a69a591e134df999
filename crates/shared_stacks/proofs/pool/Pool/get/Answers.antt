use Rattle.std.proofs.Common.{◌≡◌, sym, ap, ◌∙◌, add-one, arith}
use Rattle.std.specs.Prelude.{slice_get}
use Rattle.std.proofs.lemmas.Option.{slice_get_past}
use Rattle.shared_stacks.specs.Chains.{values, without_top}
use Rattle.shared_stacks.proofs.Chains.{length-values, without_top-drop, first-drop}
use Rattle.shared_stacks.proofs.pool.Pool.get.Goals as goal

pub returns-then-from_top-stack : goal.returns-then-from_top-stack
returns-then-from_top-stack g c =
    sym (slice_get_past (values c.args.self.now c.args.stack) c.args.from_top (omega (arith, length-values c.args.self.now c.args.stack c.requires, c.if-from_top-stack.true)))

pub loop-step-preserved : goal.loop-step-preserved
loop-step-preserved g c = record {
  there = c.under-rest.ensures.there;
  below = c.under-rest.ensures.values ∙ ap without_top c.loop-step.invariant.below ∙ sym (rw add-one (sym (without_top-drop (values c.args.self.now c.args.stack) c.loop-step.step)));
}

pub returns : goal.returns
returns g c =
    let vs = values c.args.self.now c.args.stack in
    let ended : c.loop-step.step ≡ c.args.from_top = omega arith in
    c.top.ensures ∙ ap (λ ws. slice_get ws 0) c.loop-step.invariant.below ∙ first-drop vs c.loop-step.step ∙ ap (slice_get vs) ended
