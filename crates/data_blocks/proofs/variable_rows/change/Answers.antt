use Rattle.data_blocks.proofs.Named.{raised_is}
use Rattle.data_blocks.proofs.variable_rows.change.Goals as goal

pub returns-clause-new : goal.returns-clause-new
returns-clause-new c =
    raised_is c.held_at-variable.result.of _ c.held_at-variable.result.index _ c.number.result _ c.args.variables.now c.change.new.self
    c.change.ensures.new c.held_at-variable.ensures.of c.held_at-variable.ensures.index c.number.ensures
