use Rattle.std.proofs.Common.{arith, refl}
use Rattle.scratch_number.specs.Angles.{sine_at, sines}
use Rattle.scratch_number.proofs.Sines.{sine_at-small}
use Rattle.scratch_number.proofs.angles.sine_at.Goals as goal

pub returns-clause-value : goal.returns-clause-value
unfolding sine_at sines
returns-clause-value c = refl

pub returns-clause-small : goal.returns-clause-small
unfolding sine_at sines
returns-clause-small c = sine_at-small c.args.k (omega arith)
