use Rattle.block_checks.proofs.loose_blocks.test_block.Goals as goal

pub returns-in-Mutations-clause-passes : goal.returns-in-Mutations-clause-passes
returns-in-Mutations-clause-passes c = rw c.in-Mutations.is c.test_mutation.ensures.passes

pub returns-in-Mutations-clause-stop : goal.returns-in-Mutations-clause-stop
returns-in-Mutations-clause-stop c = rw c.in-Mutations.is c.test_mutation.ensures.stop

pub returns-in-Links-clause-passes : goal.returns-in-Links-clause-passes
returns-in-Links-clause-passes c = rw c.in-Links.is c.test_links.ensures.passes
