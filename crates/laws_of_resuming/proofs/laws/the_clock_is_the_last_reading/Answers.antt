use Rattle.laws_of_resuming.proofs.Readings.{last_is_read}
use Rattle.laws_of_resuming.proofs.laws.the_clock_is_the_last_reading.Goals as goal

pub returns : goal.returns
returns c p n w v xs lines e = last_is_read p n w v xs lines e
