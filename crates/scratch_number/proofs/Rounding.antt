-- Fractions of powers of ten, rounded, and numbers past the limit.
use Rattle.std.proofs.Common.{◌≡◌, ℕ, zero, suc, ◌+◌, ◌-◌, ◌*◌, ◌/◌, ◌%◌, ◌^◌, ◌<◌, ◌≤◌, min, inl, inr, sym, ap, ◌∙◌, arith}
use Rattle.std.specs.Prelude.{pos, Bool, true, false}
use Rattle.std.proofs.lemmas.Bool.{cases_lt}
use Rattle.std.proofs.lemmas.Bool.Decides.{nat_tests}
use Rattle.std.proofs.lemmas.Nat.{pow-add, mul-le, mod_below, div-add-mod'}
use Rattle.std.proofs.Math.Nat.{pow-suc, pow-le-pow_right, div-eq_of_lt-le}
use Rattle.scratch_number.specs.Number.{near_size, number}
use Rattle.scratch_number.specs.Grammar.{decimal_size}
use Rattle.scratch_number.proofs.Texts.{pow_ten_pos}

-- a quotient is known by its bounds
quotient-is : (k n m : ℕ) → k * n ≤ m → m < (k + 1) * n → m / n ≡ k
quotient-is k n m low high = div-eq_of_lt-le {k = k} n {m = m} low high

-- n · p·j / p is n · j
near-whole : (n p j : ℕ) → 0 < p → near_size (n * (p * j)) p ≡ n * j
near-whole n p j some = quotient-is (n * j) (2 * p) (2 * (n * (p * j)) + p) (omega arith) (omega arith)

pub near-up : (n raise lower : ℕ) → lower ≤ raise → near_size (n * 10 ^ raise) (10 ^ lower) ≡ n * 10 ^ (raise - lower)
near-up n raise lower small =
    let sum : raise ≡ lower + (raise - lower) = omega arith in
    let power : 10 ^ raise ≡ 10 ^ lower * 10 ^ (raise - lower) = ap (λ (k : ℕ). 10 ^ k) sum ∙ pow-add 10 lower (raise - lower) in
    ap (λ (x : ℕ). near_size (n * x) (10 ^ lower)) power ∙ near-whole n (10 ^ lower) (10 ^ (raise - lower)) (pow_ten_pos lower)

-- n·p / p·t·10 needs of n only its whole part by t
near-part : (n p t m r q s : ℕ) → 0 < p → n ≡ m * t + r → r < t → m + 5 ≡ q * 10 + s → s < 10 → near_size (n * p) (p * (t * 10)) ≡ q
near-part n p t m r q s some whole rest tens ones =
    let part : p * r < p * t = omega (arith, mul-le p (r + 1) p t (omega arith) (omega arith)) in
    let digit : p * t * s ≤ p * t * 9 = mul-le (p * t) s (p * t) 9 (omega arith) (omega arith) in
    let scaled : n * p ≡ (m * t + r) * p = ap (λ (x : ℕ). x * p) whole in
    let places : p * t * (m + 5) ≡ p * t * (q * 10 + s) = ap (λ (x : ℕ). p * t * x) tens in
    let room : 0 < p * t = omega (arith, mul-le 1 1 p t (omega arith) (omega arith)) in
    quotient-is q (2 * (p * (t * 10))) (2 * (n * p) + p * (t * 10)) (omega arith) (omega arith)

pub near-down : (n raise lower : ℕ) → raise < lower → near_size (n * 10 ^ raise) (10 ^ lower) ≡ (n / 10 ^ (lower - raise - 1) + 5) / 10
near-down n raise lower above =
    let k : ℕ = lower - raise - 1 in
    let sum : lower ≡ raise + suc k = omega arith in
    let power : 10 ^ lower ≡ 10 ^ raise * (10 ^ k * 10) = ap (λ (i : ℕ). 10 ^ i) sum ∙ pow-add 10 raise (suc k) ∙ ap (λ (x : ℕ). 10 ^ raise * x) (pow-suc 10 k) in
    let m : ℕ = n / 10 ^ k in
    ap (λ (x : ℕ). near_size (n * 10 ^ raise) x) power
    ∙ near-part n (10 ^ raise) (10 ^ k) m (n % 10 ^ k) ((m + 5) / 10) ((m + 5) % 10) (pow_ten_pos raise) (sym (div-add-mod' n (10 ^ k))) (mod_below n (10 ^ k) (pow_ten_pos k)) (omega arith) (omega arith)

-- past the limit all numbers are one
pub number-large : (m n : ℕ) → 9000000000000000000 < m → 9000000000000000000 < n → number (pos m) ≡ number (pos n)
number-large m n large other = grind (arith, nat_tests)

-- a number that is cut at the cap, times the same
pub number-capped : (m k : ℕ) → number (pos (min m 100000000000000000000 * k)) ≡ number (pos (m * k))
number-capped m k = elim (cases_lt 100000000000000000000 m) [
  | inl large ↦ elim (cases_lt 0 k) [
    | inl some ↦
        let least : min m 100000000000000000000 ≡ 100000000000000000000 = omega arith in
        ap (λ (x : ℕ). number (pos (x * k))) least
        ∙ number-large (100000000000000000000 * k) (m * k) (omega arith) (omega (arith, mul-le 100000000000000000000 1 m k (omega arith) (omega arith)))
    | inr none ↦
        let nothing : k ≡ 0 = omega arith in
        let product : min m 100000000000000000000 * 0 ≡ m * 0 = omega arith in
        ap (λ (x : ℕ). number (pos (min m 100000000000000000000 * x))) nothing ∙ ap (λ (x : ℕ). number (pos x)) product ∙ sym (ap (λ (x : ℕ). number (pos (m * x))) nothing)
  ]
  | inr small ↦ let same : min m 100000000000000000000 ≡ m = omega arith in ap (λ (x : ℕ). number (pos (x * k))) same
]

-- the same for the rounding of a digit behind
pub number-capped_part : (m : ℕ) → number (pos ((min m 100000000000000000000 + 5) / 10)) ≡ number (pos ((m + 5) / 10))
number-capped_part m = elim (cases_lt 100000000000000000000 m) [
  | inl large ↦ number-large ((min m 100000000000000000000 + 5) / 10) ((m + 5) / 10) (omega arith) (omega arith)
  | inr small ↦ let same : min m 100000000000000000000 ≡ m = omega arith in ap (λ (x : ℕ). number (pos ((x + 5) / 10))) same
]

-- a positive number times ten to a power of 19 and more is past the limit
pub number-scaled_far : (m zeros : ℕ) → 0 < m → 19 ≤ zeros → number (pos 100000000000000000000) ≡ number (pos (m * 10 ^ zeros))
number-scaled_far m zeros some far =
    let power : 10 ^ 19 ≤ 10 ^ zeros = pow-le-pow_right {n = 10} (omega arith) far in
    number-large 100000000000000000000 (m * 10 ^ zeros) (omega arith) (omega (arith, mul-le 1 10000000000000000000 m (10 ^ zeros) some power))

-- ---- an exponent that is cut
number-up_far : (n places size : ℕ) → 0 < n → places + 20 ≤ size → number (pos (near_size (n * 10 ^ (size + 6)) (10 ^ places))) ≡ number (pos 100000000000000000000)
number-up_far n places size some far =
    ap (λ (x : ℕ). number (pos x)) (near-up n (size + 6) places (omega arith)) ∙ sym (number-scaled_far n (size + 6 - places) some (omega arith))

near-zero : (n d : ℕ) → 2 * n < d → near_size n d ≡ 0
near-zero n d small = quotient-is 0 (2 * d) (2 * n + d) (omega arith) (omega arith)

near-down_far : (n count places size : ℕ) → n < 10 ^ count → count + 20 ≤ size → near_size (n * 10 ^ 6) (10 ^ (places + size)) ≡ 0
near-down_far n count places size small far =
    let power : 10 ^ (count + 7) ≤ 10 ^ (places + size) = pow-le-pow_right {n = 10} (omega arith) (omega arith) in
    near-zero (n * 10 ^ 6) (10 ^ (places + size)) (omega (arith, power, pow-add 10 count 7))

near-nothing : (x d : ℕ) → 0 < d → near_size (0 * x) d ≡ 0
near-nothing x d some = near-zero (0 * x) d (omega arith)

-- an exponent as large as the cap and more gives one number, whatever its size
pub decimal_size-far : (n count places e f : ℕ) (down : Bool) → n < 10 ^ count → count + 20 ≤ e → places + 20 ≤ e → count + 20 ≤ f → places + 20 ≤ f → number (pos (decimal_size n places down e)) ≡ number (pos (decimal_size n places down f))
decimal_size-far n count places e f true small far far_places other other_places =
    ap (λ (x : ℕ). number (pos x)) (near-down_far n count places e small far ∙ sym (near-down_far n count places f small other))
decimal_size-far zero count places e f false small far far_places other other_places =
    ap (λ (x : ℕ). number (pos x)) (near-nothing (10 ^ (e + 6)) (10 ^ places) (pow_ten_pos places) ∙ sym (near-nothing (10 ^ (f + 6)) (10 ^ places) (pow_ten_pos places)))
decimal_size-far (suc n) count places e f false small far far_places other other_places =
    number-up_far (suc n) places e (omega arith) far_places ∙ sym (number-up_far (suc n) places f (omega arith) other_places)
