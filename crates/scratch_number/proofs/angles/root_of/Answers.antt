use Rattle.std.proofs.Common.{arith}
use Rattle.std.proofs.lemmas.Int.{ints}
use Rattle.scratch_number.proofs.Roots.{sqrt-is, IsSquareRoot-is}
use Rattle.scratch_number.proofs.angles.root_of.Goals as goal

pub returns-clause-value : goal.returns-clause-value
returns-clause-value c = sqrt-is c.args.x c.isqrt.result _ (omega (arith, ints)) (omega (arith, ints)) (omega (arith, ints)) c.of_size.ensures

pub returns-clause-largest : goal.returns-clause-largest
returns-clause-largest c = IsSquareRoot-is c.args.x c.isqrt.result _ (omega (arith, ints)) (omega (arith, ints)) (omega (arith, ints)) (omega (arith, ints)) c.of_size.ensures
