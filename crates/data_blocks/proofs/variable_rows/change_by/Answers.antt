use Rattle.data_blocks.proofs.Named.{raised_is}
use Rattle.data_blocks.proofs.variable_rows.change_by.Goals as goal

pub returns-clause-new : goal.returns-clause-new
returns-clause-new c =
    raised_is c.place_of-variable.result.of _ c.place_of-variable.result.index _ c.number_of.result _ c.args.variables.now c.change.new.self
    c.change.ensures.new c.place_of-variable.ensures.of c.place_of-variable.ensures.index c.number_of.ensures
