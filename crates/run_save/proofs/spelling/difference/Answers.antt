use Rattle.std.proofs.Common.{◌∙◌, sym, inl, inr, arith}
use Rattle.run_save.proofs.Differences.{goes_on, stops, ends_together, ends_apart}
use Rattle.run_save.proofs.spelling.difference.Goals as goal
use Rattle.run_save.proofs.spelling.difference.Goals.{then-loop-at-test+else-at-right, else-loop-at-test}

pub returns-then-left-at : goal.returns-then-left-at
returns-then-left-at c = sym (c.loop-at.invariant.same ∙ stops c.args.left.now c.args.right.now c.loop-at.at c.loop-at-test.true c.if-at-right.true c.if-left-at.true)

pub loop-at-preserved : goal.loop-at-preserved
loop-at-preserved c = record {
  left = omega (arith, c.loop-at-test.true);
  right = omega (arith, c.if-at-right.true);
  same = c.loop-at.invariant.same ∙ goes_on c.args.left.now c.args.right.now c.loop-at.at c.loop-at-test.true c.if-at-right.true c.if-left-at.false;
}

pub returns-then-left-right : goal.returns-then-left-right
returns-then-left-right c = sym (c.loop-at.invariant.same ∙ ends_together c.args.left.now c.args.right.now c.loop-at.at c.loop-at.invariant.left c.loop-at.invariant.right (elim c.loop-at-test.branch [ then-loop-at-test+else-at-right w ↦ inr (omega (arith, w.if-at-right.false)) | else-loop-at-test w ↦ inl (omega (arith, w.loop-at-test.false)) ]) c.if-left-right.true)

pub returns-else-left-right : goal.returns-else-left-right
returns-else-left-right c = sym (c.loop-at.invariant.same ∙ ends_apart c.args.left.now c.args.right.now c.loop-at.at c.loop-at.invariant.left c.loop-at.invariant.right (elim c.loop-at-test.branch [ then-loop-at-test+else-at-right w ↦ inr (omega (arith, w.if-at-right.false)) | else-loop-at-test w ↦ inl (omega (arith, w.loop-at-test.false)) ]) c.if-left-right.false)
