use Rattle.laws_of_devices.proofs.Reading.{reading_good}
use Rattle.laws_of_devices.proofs.laws.a_line_that_is_read_is_good.Goals as goal

pub returns : goal.returns
returns c = reading_good
