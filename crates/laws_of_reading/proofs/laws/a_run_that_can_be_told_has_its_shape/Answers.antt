use Rattle.laws_of_reading.proofs.Runs.{run_read}
use Rattle.laws_of_reading.proofs.laws.a_run_that_can_be_told_has_its_shape.Goals as goal

pub returns : goal.returns
returns c = run_read
