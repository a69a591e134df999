-- The hat is the head of that number among those of the target.
use Rattle.std.proofs.Common.{sym, ◌∙◌, arith}
use Rattle.saved_levels.proofs.Heads.{some_hat, other_block, no_block, no_target}
use Rattle.saved_levels.proofs.reader.hat.Goals as goal

pub returns-then-target-target_count-clause-under : goal.returns-then-target-target_count-clause-under
returns-then-target-target_count-clause-under c = sym (no_target c.args.project.now c.args.target c.args.number (omega arith))

pub returns-then-is_hat-clause-under : goal.returns-then-is_hat-clause-under
returns-then-is_hat-clause-under c = sym (some_hat c.args.project.now c.args.target c.args.number (omega arith) c.in-Some.block.now (sym c.in-Some.ensures.block) (sym c.is_hat.ensures ∙ c.if-is_hat.true))

pub returns-else-is_hat-clause-under : goal.returns-else-is_hat-clause-under
returns-else-is_hat-clause-under c = sym (other_block c.args.project.now c.args.target c.args.number (omega arith) c.in-Some.block.now (sym c.in-Some.ensures.block) (sym c.is_hat.ensures ∙ c.if-is_hat.false))

pub returns-in-None-clause-under : goal.returns-in-None-clause-under
returns-in-None-clause-under c = sym (no_block c.args.project.now c.args.target c.args.number (omega arith) (sym c.in-None.ensures.block))
