use Rattle.std.proofs.Common.{arith}
use Rattle.scratch_number.proofs.Texts.{pow_ten_pos, pow_ten_small}
use Rattle.scratch_number.proofs.number_text.power_of_ten.Goals as goal

pub pow-requires : goal.pow-requires
pow-requires c = omega (arith, pow_ten_small c.args.exponent c.requires)

pub returns-clause-positive : goal.returns-clause-positive
returns-clause-positive c = omega (arith, pow_ten_pos c.args.exponent, c.pow.ensures)
