use Rattle.block_checks.proofs.test_order.test_target.Goals as goal

pub returns-in-Places-clause-passes : goal.returns-in-Places-clause-passes
returns-in-Places-clause-passes c = rw c.in-Places.is c.test_places.ensures.passes

pub returns-in-Inputs-clause-passes : goal.returns-in-Inputs-clause-passes
returns-in-Inputs-clause-passes c = rw c.in-Inputs.is c.test_inputs.ensures.passes

pub returns-in-Fields-clause-passes : goal.returns-in-Fields-clause-passes
returns-in-Fields-clause-passes c = rw c.in-Fields.is c.test_fields.ensures.passes

pub returns-in-Depth-clause-passes : goal.returns-in-Depth-clause-passes
returns-in-Depth-clause-passes c = rw c.in-Depth.is c.test_depth.ensures.passes
