use Rattle.std.proofs.Common.{arith}
use Rattle.scratch_number.proofs.Sines.{sine_at-rises}
use Rattle.scratch_number.proofs.angles.step_at.Goals as goal

pub overflow_sub-result : goal.overflow_sub-result
overflow_sub-result c = omega (arith, sine_at-rises c.args.k (omega arith))

pub returns-clause-rises : goal.returns-clause-rises
returns-clause-rises c = omega (arith, sine_at-rises c.args.k (omega arith))
