-- A whole index of a costume, wrapped to the number of costumes.
use Rattle.std.proofs.Common.{◌≡◌, ℕ, zero, suc, ◌+◌, ◌-◌, ◌*◌, ◌/◌, ◌%◌, ◌^◌, ◌<◌, ◌≤◌, sym, ap, ◌∙◌, arith}
use Rattle.std.specs.Prelude.{pos, ◌-ℤ◌, unsigned_abs}
use Rattle.std.proofs.lemmas.Int.{ints}
use Rattle.std.proofs.lemmas.Nat.{div-mul-add}
use Rattle.std.proofs.Math.Nat.{mod-eq-sub-mul-div, mod-eq_of_lt, mul-div-le, mul-div_cancel, mul-mod_left}
use Rattle.std.proofs.Math.Arith.{mod-mul}
use Rattle.scratch_number.specs.declared.number.Num.TheVariants.{Fixed}
use Rattle.scratch_number.specs.Arithmetic.{finite_modulo, modulo, round}
use Rattle.scratch_number.proofs.Remainders.{number-small}
use Rattle.machine_spec.specs.Costume.{costume_index, whole_index}
use Rattle.machine_spec.specs.Numbers.{whole}

less_pos : (a c : ℕ) → c ≤ a → unsigned_abs (pos a -ℤ pos c) ≡ a - c
less_pos a c h = omega (arith, ints)

-- what is left of millionths, as a whole number
left_whole : (a b : ℕ) → 0 < b → whole_index (finite_modulo (pos a) (pos b)) ≡ a % b / 1000000
left_whole a zero h = absurd (omega arith)
left_whole a (suc b) h =
    ap (λ n. n / 1000000) (less_pos a (suc b * (a / suc b)) (mul-div-le a (suc b)) ∙ sym (mod-eq-sub-mul-div a (suc b)))

-- millionths of whole numbers
million_mod : (k count : ℕ) → 0 < count → (k * 1000000) % (count * 1000000) / 1000000 ≡ k % count
million_mod k count h =
    ap (λ n. n / 1000000) (mod-mul (k * 1000000) {m = count} {c = 1000000} h (omega arith))
    ∙ ap (λ n. ((n % count) * 1000000 + (k * 1000000) % 1000000) / 1000000) (mul-div_cancel k {n = 1000000} (omega arith))
    ∙ ap (λ n. ((k % count) * 1000000 + n) / 1000000) (mul-mod_left k 1000000)
    ∙ div-mul-add (k % count) 1000000 0 (omega arith)

whole_is : (k : ℕ) → k ≤ 2 ^ 33 → whole (pos k) ≡ Fixed (pos (k * 1000000))
whole_is k h = number-small (pos (k * 1000000)) (omega arith)

rounded : (k : ℕ) → round (Fixed (pos (k * 1000000))) ≡ Fixed (pos (k * 1000000))
rounded k = ap (λ n. Fixed (pos (n * 1000000))) (div-mul-add k 1000000 500000 (omega arith))

-- a whole index is wrapped
pub index_wraps : (k count : ℕ) → k ≤ 2 ^ 32 → 0 < count → count < 2 ^ 32 → costume_index count (whole (pos k)) ≡ k % count
index_wraps k count small some few =
    ap (λ n. whole_index (modulo (round n) (whole (pos count)))) (whole_is k (omega arith))
    ∙ ap (λ n. whole_index (modulo n (whole (pos count)))) (rounded k)
    ∙ ap (λ n. whole_index (modulo (Fixed (pos (k * 1000000))) n)) (whole_is count (omega arith))
    ∙ left_whole (k * 1000000) (count * 1000000) (omega arith)
    ∙ million_mod k count some

-- and one that is a place stays
pub place_stays : (k count : ℕ) → k < count → count < 2 ^ 32 → costume_index count (whole (pos k)) ≡ k
place_stays k count lt few = index_wraps k count (omega arith) (omega arith) few ∙ mod-eq_of_lt lt
