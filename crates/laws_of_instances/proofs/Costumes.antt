-- Which costume a value names.
use Rattle.std.proofs.Common.{◌≡◌, ℕ, zero, suc, ◌+◌, ◌-◌, ◌*◌, ◌/◌, ◌%◌, ◌^◌, ◌<◌, ◌==◌, Bool, true, false, if◌then◌else◌, List, length, Option, Some, None, refl, sym, subst, arith}
use Rattle.std.specs.Prelude.{ℤ, pos, negsuc, ◌+ℤ◌, ◌*ℤ◌, IfSome, nat_le}
use Rattle.std.proofs.lemmas.Int.{ints}
use Rattle.std.proofs.lemmas.Bool.Decides.{nat_tests}
use Rattle.std.proofs.lemmas.Nat.{mod_below, div-add-mod', mul-le}
use Rattle.scratch_number.specs.declared.number.Num.{Num}
use Rattle.scratch_number.specs.declared.number.Num.TheVariants.{Fixed, Inf, NegInf, Nan}
use Rattle.scratch_number.specs.Number.{number, floor_quotient}
use Rattle.scratch_number.specs.Arithmetic.{million, remainder, finite_modulo, modulo, round}
use Rattle.scratch_number.proofs.Remainders.{number-small}
use Rattle.scratch_values.specs.declared.value.Value.{Value}
use Rattle.machine_spec.specs.Costume.{Choice, Stays, To, Another, choice, whole_index, costume_index, skipping, chosen, switched}
use Rattle.machine_spec.specs.Outcome.{IfGoes, then_do}
use Rattle.machine_spec.specs.Words.{Words, undrawn, made_of, draw}
use Rattle.laws_of_threads.proofs.RowFits.{goes_then}

-- a remainder by a divisor above 0 is from 0 to below it
pub record IsBelow (m : ℕ) (z : ℤ) : Type 0 where
  pub n : ℕ
  pub is : z ≡ pos n
  pub below : n < m

remainder_below : (a : ℤ) (d : ℕ) → 0 < d → IsBelow d (remainder a (pos d))
remainder_below (pos a) d h = record { n = a % d; is = (let e = div-add-mod' a d in omega (arith, ints, e)); below = mod_below a d h }
remainder_below (negsuc a) d h = record { n = d - 1 - a % d; is = (let e = div-add-mod' a d in let b = mod_below a d h in omega (arith, ints, e, b)); below = omega arith }

index_below : (count : ℕ) (z : ℤ) → IsBelow (count * 1000000) z → whole_index (Fixed z) < count
index_below count z h = subst (λ y. whole_index (Fixed y) < count) (sym h.is) (let b = h.below in omega (arith, b))

modulo_below : (count m : ℕ) (a : ℤ) → 0 < count → m ≡ count * 1000000 → whole_index (finite_modulo a (pos m)) < count
modulo_below count zero a some e = absurd (omega (arith, e, some))
modulo_below count (suc m) a some e = index_below count (remainder a (pos (suc m))) (subst (λ k. IsBelow k (remainder a (pos (suc m)))) e (remainder_below a (suc m) (omega arith)))

rounded_below : (count : ℕ) (n : Num) → 0 < count → whole_index (modulo (round n) (Fixed (pos (count * 1000000)))) < count
rounded_below count (Fixed z) some = modulo_below count (count * 1000000) (floor_quotient (z +ℤ pos 500000) million *ℤ million) some refl
rounded_below count Inf some = some
rounded_below count NegInf some = some
rounded_below count Nan some = some

pub costume_below : (count : ℕ) (n : Num) → 0 < count → count < 2 ^ 32 → costume_index count n < count
costume_below count n some few =
    let e : number (pos (count * 1000000)) ≡ Fixed (pos (count * 1000000)) = number-small (pos (count * 1000000)) (omega arith) in
    subst (λ m. whole_index (modulo (round n) m) < count) (sym e) (rounded_below count n some)

-- one of the others
skipping_below : (count now r : ℕ) → r + 1 < count → (c : Bool) → (if c then r + 1 else r) < count
skipping_below count now r h true = h
skipping_below count now r h false = omega arith

part_below : (count word : ℕ) → 1 < count → word < 2 ^ 32 → word * (count - 1) / 2 ^ 32 + 1 < count
part_below count word some small =
    let m = mul-le (word + 1) (count - 1) (2 ^ 32) (count - 1) (omega arith) (omega arith) in
    let b : word * (count - 1) / 2 ^ 32 < count - 1 = omega (arith, m) in
    omega (arith, b)

abbrev pub IsCostume : ℕ → Option ℕ → Type 0
IsCostume count o = IfSome o (λ k. k < count)

module _ (draws : (w : Words) → Type 0) (small : (w : Words) → draws w → IfGoes (draw w) (λ d. d.value < 2 ^ 32)) where
  another_by : (c : Bool) (count now : ℕ) (w : Words) → (count == 1) ≡ c → 0 < count → draws w
      → IfGoes (if c then undrawn w None else then_do (draw w) (made_of (λ word. Some (skipping now (word * (count - 1) / 2 ^ 32))))) (λ d. IsCostume count d.value)
  another_by true count now w e some h = tt
  another_by false count now w e some h =
      let more : 1 < count = grind (arith, nat_tests) in
      goes_then (draw w) (made_of (λ word. Some (skipping now (word * (count - 1) / 2 ^ 32)))) (λ d. d.value < 2 ^ 32) (λ d. IsCostume count d.value) (small w h)
      (λ d b. skipping_below count now (d.value * (count - 1) / 2 ^ 32) (part_below count d.value more b) (nat_le now (d.value * (count - 1) / 2 ^ 32)))

  chosen_below : (c : Choice) (count now : ℕ) (w : Words) → 0 < count → count < 2 ^ 32 → draws w → IfGoes (chosen c count now w) (λ d. IsCostume count d.value)
  chosen_below Stays count now w some few h = tt
  chosen_below (To n) count now w some few h = costume_below count n some few
  chosen_below Another count now w some few h = another_by (count == 1) count now w refl some h

  pub switched_below : (backdrop : Bool) (names : List (List ℕ)) (now : ℕ) (v : Value) (w : Words) → 0 < length names → length names < 2 ^ 32 → draws w → IfGoes (switched backdrop names now v w) (λ d. IsCostume (length names) d.value)
  switched_below backdrop names now v w some few h = chosen_below (choice backdrop names now v) (length names) now w some few h
