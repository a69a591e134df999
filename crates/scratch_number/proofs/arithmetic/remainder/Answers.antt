use Rattle.std.proofs.Common.{◌≡◌, arith, pos, ℤ, ◌-ℤ◌, neg_ℤ, to_z, of_z, w64}
use Rattle.std.specs.Int.{int_rem_euclid, w128}
use Rattle.std.proofs.lemmas.Int.{ints}
use Rattle.scratch_number.proofs.Remainders.{finite_modulo-down}
use Rattle.scratch_number.proofs.arithmetic.remainder.Goals as goal

pub returns : goal.returns
returns c =
    let passed : ℤ → ℤ = λ (z : ℤ). to_z w64 (of_z w64 (pos 0 -ℤ to_z w64 (of_z w64 z))) in
    let x : passed c.get-a.result ≡ neg_ℤ c.args.x = omega (arith, ints) in
    let y : passed c.get-b.result ≡ neg_ℤ c.args.y = omega (arith, ints) in
    let left : c.rem_euclid-2.result ≡ int_rem_euclid (passed c.get-a.result) (passed c.get-b.result) = c.rem_euclid-2.ensures.value in
    let turned : ℤ = to_z w128 (of_z w128 (pos 0 -ℤ to_z w128 (of_z w128 (to_z w64 (of_z w64 c.rem_euclid-2.result))))) in
    finite_modulo-down _ turned (passed c.get-a.result) (passed c.get-b.result) c.args.x c.args.y c.of_millionths-2.ensures x y (omega (arith, ints)) (omega (arith, ints)) (omega (arith, ints, left))
