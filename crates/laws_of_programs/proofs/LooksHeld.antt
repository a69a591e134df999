-- What is kept of a size, a direction and the number of a costume.
use Rattle.std.proofs.Common.{◌≡◌, ℕ, suc, ◌+◌, ◌-◌, ◌*◌, ◌/◌, ◌^◌, ◌<◌, ◌≤◌, Bool, true, false, cond, refl, sym, subst, arith}
use Rattle.std.specs.Prelude.{ℤ, pos, negsuc, ◌+ℤ◌, ◌-ℤ◌, ◌*ℤ◌, ◌≤ℤ◌, int_le, neg_ℤ, unsigned_abs}
use Rattle.std.specs.Ordering.{int_cmp, is_lt}
use Rattle.std.proofs.lemmas.Int.{ints}
use Rattle.std.proofs.lemmas.Nat.{mod_below}
use Rattle.std.proofs.Math.Nat.{mod-eq-sub-mul-div, mul-div-le}
use Rattle.scratch_number.specs.declared.number.Num.{Num}
use Rattle.scratch_number.specs.declared.number.Num.TheVariants.{Fixed, Inf, NegInf, Nan}
use Rattle.scratch_number.specs.Number.{number, floor_by, floor_quotient, IsWithin}
use Rattle.scratch_number.specs.Arithmetic.{remainder, modulo, round}
use Rattle.scratch_number.proofs.Remainders.{number-small}
use Rattle.machine_spec.specs.Costume.{costume_index, whole_index}
use Rattle.machine_spec.specs.Numbers.{whole, direction_after}
use Rattle.machine_spec.specs.Looks.{size_kept}
use Rattle.laws_of_threads.specs.Playable.{IsBetween, IsSize, IsDirection}
use Rattle.laws_of_programs.proofs.Finite.{IsOne}

not_under : (a b : ℤ) → is_lt (int_cmp a b) ≡ false → int_le b a ≡ true
not_under a b h = grind (arith, ints)

-- Sizes

size_high : (c : Bool) (z : ℤ) → is_lt (int_cmp (pos 10000000000) z) ≡ c → int_le (pos 0) z ≡ true → IsSize (cond c (Fixed (pos 10000000000)) (Fixed z))
size_high true z e low = (refl, refl)
size_high false z e low = (low, not_under (pos 10000000000) z e)

size_low : (c : Bool) (z : ℤ) → is_lt (int_cmp z (pos 0)) ≡ c → IsSize (cond c (Fixed (pos 0)) (cond (is_lt (int_cmp (pos 10000000000) z)) (Fixed (pos 10000000000)) (Fixed z)))
size_low true z e = (refl, refl)
size_low false z e = size_high (is_lt (int_cmp (pos 10000000000) z)) z refl (not_under z (pos 0) e)

pub size_is_kept : (n : Num) → IsOne n → IsSize (size_kept n)
size_is_kept (Fixed z) h = size_low (is_lt (int_cmp z (pos 0))) z refl
size_is_kept Inf h = (refl, refl)
size_is_kept NegInf h = (refl, refl)
size_is_kept Nan h = absurd h

-- Directions

le_true : (a b : ℤ) → a ≤ℤ b → int_le a b ≡ true
le_true a b h = grind (arith, ints)

turned_by : (d e : ℤ) → d +ℤ pos 179000000 ≡ e → (negsuc 178999999 ≤ℤ (d -ℤ (pos 360000000 *ℤ floor_by e 360000000))) × ((d -ℤ (pos 360000000 *ℤ floor_by e 360000000)) ≤ℤ pos 180999999)
turned_by d (pos n) h = (omega (arith, ints), omega (arith, ints))
turned_by d (negsuc n) h = (omega (arith, ints), omega (arith, ints))

within_small : (z : ℤ) → negsuc 178999999 ≤ℤ z → z ≤ℤ pos 180999999 → IsDirection (number z)
within_small z low high = subst IsDirection (sym (number-small z (omega (arith, ints)))) (le_true (negsuc 178999999) z low, le_true z (pos 180999999) high)

pub direction_is_kept : (n now : Num) → IsDirection now → IsDirection (direction_after n now)
direction_is_kept (Fixed d) now h = let t = turned_by d (d +ℤ pos 179000000) refl in within_small (d -ℤ (pos 360000000 *ℤ floor_by (d +ℤ pos 179000000) 360000000)) t.0 t.1
direction_is_kept Inf now h = h
direction_is_kept NegInf now h = h
direction_is_kept Nan now h = h

-- Costumes

less_pos : (a c d : ℕ) → c ≤ a → a < c + d → unsigned_abs (pos a -ℤ pos c) < d
less_pos a c d h g = omega (arith, ints)

less_negsuc : (n m d : ℕ) → n < m → m ≤ n + d → unsigned_abs (negsuc n -ℤ neg_ℤ (pos m)) < d
less_negsuc n m d h g = omega (arith, ints)

product : (b q : ℕ) → suc b * suc q ≡ suc b * q + suc b
product b q = omega arith

below : (a : ℤ) (b : ℕ) → unsigned_abs (remainder a (pos (suc b))) < suc b
below (pos n) b =
    let e = mod-eq-sub-mul-div n (suc b) in
    let l = mod_below n (suc b) (omega arith) in
    let k = mul-div-le n (suc b) in
    less_pos n (suc b * (n / suc b)) (suc b) k (omega (arith, e, l, k))
below (negsuc n) b =
    let e = mod-eq-sub-mul-div n (suc b) in
    let l = mod_below n (suc b) (omega arith) in
    let k = mul-div-le n (suc b) in
    let p = product b (n / suc b) in
    less_negsuc n (suc b * suc (n / suc b)) (suc b) (omega (arith, e, l, k, p)) (omega (arith, e, l, k, p))

million_of : (count : ℕ) → count < 2 ^ 32 → whole (pos count) ≡ Fixed (pos (count * 1000000))
million_of count h = number-small (pos (count * 1000000)) (omega arith)

index_by : (a : ℤ) (count k : ℕ) → count * 1000000 ≡ suc k → whole_index (modulo (Fixed a) (Fixed (pos (count * 1000000)))) < count
index_by a count k e =
    subst (λ (m : ℕ). whole_index (modulo (Fixed a) (Fixed (pos m))) < count) (sym e) (let r = below a k in omega (arith, r))

index_some : (count : ℕ) (n : Num) → 0 < count → whole_index (modulo (round n) (Fixed (pos (count * 1000000)))) < count
index_some count (Fixed z) h = index_by (floor_quotient (z +ℤ pos 500000) (pos 1000000) *ℤ pos 1000000) count (count * 1000000 - 1) (omega arith)
index_some count Inf h = h
index_some count NegInf h = h
index_some count Nan h = h

-- a costume that is there, where there is one
pub costume_is_there : (count : ℕ) (n : Num) → 0 < count → count < 2 ^ 32 → costume_index count n < count
costume_is_there count n some few = subst (λ (m : Num). whole_index (modulo (round n) m) < count) (sym (million_of count few)) (index_some count n some)

-- Numbers within the limit

pub between_within : (low high : ℤ) (n : Num) → unsigned_abs low ≤ 10000000000 → unsigned_abs high ≤ 10000000000 → IsBetween low high n → IsWithin n
between_within low high (Fixed z) a b h = by_int low high z a b h.0 h.1
  where
    by_int : (low high z : ℤ) → unsigned_abs low ≤ 10000000000 → unsigned_abs high ≤ 10000000000 → int_le low z ≡ true → int_le z high ≡ true → unsigned_abs z ≤ 9000000000000000000
    by_int low high z a b g h = grind (arith, ints)
between_within low high Inf a b h = tt
between_within low high NegInf a b h = tt
between_within low high Nan a b h = tt
