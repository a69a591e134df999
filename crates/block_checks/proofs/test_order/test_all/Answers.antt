use Rattle.block_checks.specs.Kept.{blocks_in}
use Rattle.block_checks.proofs.Orders.{all_pass}
use Rattle.block_checks.proofs.test_order.test_all.Goals as goal

pub returns-clause-passes : goal.returns-clause-passes
returns-clause-passes c =
    all_pass (blocks_in c.args.tables.now) c.in_ok-test_all_loose.ensures.passes c.in_ok-test_all_loose-2.ensures.passes c.in_ok-links.ensures.passes
    c.in_ok-test_all_linked.ensures.passes c.in_ok-test_all_linked-2.ensures.passes c.in_ok-test_all_linked-3.ensures.passes c.in_ok-test_all_linked-4.ensures.passes
