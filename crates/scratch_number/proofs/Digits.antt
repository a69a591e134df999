-- The numbers that digits write, cut at the cap, and the first digits of a number.
use Rattle.std.proofs.Common.{◌≡◌, ℕ, zero, suc, ◌+◌, ◌-◌, ◌*◌, ◌/◌, ◌^◌, ◌<◌, ◌≤◌, min, List, [], ◌∷◌, ◌++◌, length, take, drop, get_or, inl, inr, refl, sym, ap, ◌∙◌, arith}
use Rattle.std.specs.Char.{digit_value}
use Rattle.std.specs.Str.Parse.{AllDigits, digits_value, digits_value_after}
use Rattle.std.proofs.lemmas.Bool.{cases_lt}
use Rattle.std.proofs.lemmas.Int.Digits.{digits_value-lt}
use Rattle.std.proofs.lemmas.List.{take_more, length-drop, take-append-drop, take_min}
use Rattle.std.proofs.lemmas.Nat.{mul-le, div-mul-add}
use Rattle.std.proofs.Math.Nat.{pow-suc, pow-zero, pow-le-pow_right, div-eq_of_lt}

pub value_after-append : (base n : ℕ) (xs ys : List ℕ) → digits_value_after base n (xs ++ ys) ≡ digits_value_after base (digits_value_after base n xs) ys
value_after-append base n [] ys = refl
value_after-append base n (x ∷ xs) ys = value_after-append base (n * base + digit_value x) xs ys

-- one more digit
pub value_after-more : (base n : ℕ) (ds : List ℕ) (i : ℕ) → i < length ds → digits_value_after base n (take (i + 1) ds) ≡ digits_value_after base n (take i ds) * base + digit_value (get_or ds i 0)
value_after-more base n ds i h =
    ap (λ (xs : List ℕ). digits_value_after base n xs) (take_more ds i 0 h) ∙ value_after-append base n (take i ds) (get_or ds i 0 ∷ [])

-- a number that is cut at the cap, and one more digit
pub cut-more : (m base d : ℕ) → 0 < base → min (min m 100000000000000000000 * base + d) 100000000000000000000 ≡ min (m * base + d) 100000000000000000000
cut-more m base d some = elim (cases_lt 100000000000000000000 m) [
  | inl large ↦
      let least : min m 100000000000000000000 ≡ 100000000000000000000 = omega arith in
      ap (λ (x : ℕ). min (x * base + d) 100000000000000000000) least
      ∙ omega (arith, mul-le 1 1 base base some some, mul-le 100000000000000000000 1 m base (omega arith) some)
  | inr small ↦
      let same : min m 100000000000000000000 ≡ m = omega arith in
      ap (λ (x : ℕ). min (x * base + d) 100000000000000000000) same
]

-- the step of a loop over digits, from a value that is cut at the cap
pub cut-step : (base start : ℕ) (ds : List ℕ) (i value d next : ℕ) → 0 < base → i < length ds → value ≡ min (digits_value_after base start (take i ds)) 100000000000000000000 → d ≡ digit_value (get_or ds i 0) → next ≡ min (value * base + d) 100000000000000000000 → next ≡ min (digits_value_after base start (take (i + 1) ds)) 100000000000000000000
cut-step base start ds i value d next some within cut digit known =
    known
    ∙ ap (λ (x : ℕ). min (x * base + d) 100000000000000000000) cut
    ∙ cut-more (digits_value_after base start (take i ds)) base d some
    ∙ ap (λ (x : ℕ). min (digits_value_after base start (take i ds) * base + x) 100000000000000000000) digit
    ∙ ap (λ (x : ℕ). min x 100000000000000000000) (sym (value_after-more base start ds i within))

-- some digits behind a number that is cut at the cap
pub cut-after : (base m : ℕ) (ds : List ℕ) → 0 < base → min (digits_value_after base (min m 100000000000000000000) ds) 100000000000000000000 ≡ min (digits_value_after base m ds) 100000000000000000000
cut-after base m [] some = omega arith
cut-after base m (d ∷ ds) some =
    sym (cut-after base (min m 100000000000000000000 * base + digit_value d) ds some)
    ∙ ap (λ (x : ℕ). min (digits_value_after base x ds) 100000000000000000000) (cut-more m base (digit_value d) some)
    ∙ cut-after base (m * base + digit_value d) ds some

scale-more : (base m k rest : ℕ) → m * base * base ^ k + rest ≡ m * base ^ suc k + rest
scale-more base m k rest =
    let product : m * base ^ suc k ≡ m * (base ^ k * base) = ap (λ (x : ℕ). m * x) (pow-suc base k) in
    omega (arith, product)

-- digits behind a sum
after-sum : (base m n : ℕ) (ds : List ℕ) → digits_value_after base (m + n) ds ≡ m * base ^ length ds + digits_value_after base n ds
after-sum base m n [] =
    let product : m * base ^ length {A = ℕ} [] ≡ m * 1 = ap (λ (x : ℕ). m * x) (pow-zero base) in
    omega (arith, product)
after-sum base m n (d ∷ ds) =
    let moved : (m + n) * base + digit_value d ≡ m * base + (n * base + digit_value d) = omega arith in
    ap (λ (x : ℕ). digits_value_after base x ds) moved
    ∙ after-sum base (m * base) (n * base + digit_value d) ds
    ∙ scale-more base m (length ds) (digits_value_after base (n * base + digit_value d) ds)

pub value_after-is : (base n : ℕ) (ds : List ℕ) → digits_value_after base n ds ≡ n * base ^ length ds + digits_value base ds
value_after-is base n ds = ap (λ (x : ℕ). digits_value_after base x ds) (omega arith) ∙ after-sum base n 0 ds

pub AllDigits-drop : (base k : ℕ) (ds : List ℕ) → AllDigits base ds → AllDigits base (drop k ds)
AllDigits-drop base zero ds h = h
AllDigits-drop base (suc k) [] h = h
AllDigits-drop base (suc k) (d ∷ ds) h = AllDigits-drop base k ds h.1

pub AllDigits-append : (base : ℕ) (xs ys : List ℕ) → AllDigits base xs → AllDigits base ys → AllDigits base (xs ++ ys)
AllDigits-append base [] ys g h = h
AllDigits-append base (x ∷ xs) ys g h = (g.0, AllDigits-append base xs ys g.1 h)

-- the first digits of a number are its quotient by a power of ten
pub digits_value-take : (ds : List ℕ) (k : ℕ) → AllDigits 10 ds → digits_value 10 ds / 10 ^ k ≡ digits_value 10 (take (length ds - k) ds)
digits_value-take ds k all = elim (cases_lt (length ds) k) [
  | inl long ↦
      let none : length ds - k ≡ 0 = omega arith in
      let power : 10 ^ length ds ≤ 10 ^ k = pow-le-pow_right {n = 10} (omega arith) (omega arith) in
      div-eq_of_lt (omega (arith, digits_value-lt 10 ds all, power)) ∙ sym (ap (λ (n : ℕ). digits_value 10 (take n ds)) none)
  | inr short ↦
      let m : ℕ = length ds - k in
      let rest : length (drop m ds) ≡ k = omega (arith, length-drop m ds) in
      let parts : digits_value 10 ds ≡ digits_value 10 (take m ds) * 10 ^ k + digits_value 10 (drop m ds) =
      ap (λ (xs : List ℕ). digits_value 10 xs) (sym (take-append-drop m ds))
      ∙ value_after-append 10 0 (take m ds) (drop m ds)
      ∙ value_after-is 10 (digits_value 10 (take m ds)) (drop m ds)
      ∙ ap (λ (n : ℕ). digits_value 10 (take m ds) * 10 ^ n + digits_value 10 (drop m ds)) rest in
      let below : digits_value 10 (drop m ds) < 10 ^ k =
      rw rest at (digits_value-lt 10 (drop m ds) (AllDigits-drop 10 m ds all)) in
      ap (λ (n : ℕ). n / 10 ^ k) parts ∙ div-mul-add (digits_value 10 (take m ds)) (10 ^ k) (digits_value 10 (drop m ds)) below
]

take_past : (ds fs : List ℕ) (count : ℕ) → length ds ≤ count → take count (ds ++ fs) ≡ ds ++ take (count - length ds) fs
take_past [] fs count long = ap (λ (n : ℕ). take n fs) (omega arith)
take_past (d ∷ ds) fs zero long = absurd (omega arith)
take_past (d ∷ ds) fs (suc count) long = ap (λ (xs : List ℕ). d ∷ xs) (take_past ds fs count (omega arith) ∙ ap (λ (n : ℕ). ds ++ take n fs) (omega arith))

-- the first digits of two lists, from values that are cut at the cap
pub cut-front : (ds fs : List ℕ) (count behind first value : ℕ) → length ds ≤ count → behind ≡ min (count - length ds) (length fs) → first ≡ min (digits_value_after 10 0 ds) 100000000000000000000 → value ≡ min (digits_value_after 10 first (take behind fs)) 100000000000000000000 → value ≡ min (digits_value 10 (take count (ds ++ fs))) 100000000000000000000
cut-front ds fs count behind first value long cut one two =
    let front : take count (ds ++ fs) ≡ ds ++ take behind fs = take_past ds fs count long ∙ ap (λ (xs : List ℕ). ds ++ xs) (sym (take_min (count - length ds) fs) ∙ ap (λ (n : ℕ). take n fs) (sym cut)) in
    two
    ∙ ap (λ (x : ℕ). min (digits_value_after 10 x (take behind fs)) 100000000000000000000) one
    ∙ cut-after 10 (digits_value_after 10 0 ds) (take behind fs) (omega arith)
    ∙ ap (λ (x : ℕ). min x 100000000000000000000) (sym (value_after-append 10 0 ds (take behind fs)))
    ∙ ap (λ (xs : List ℕ). min (digits_value 10 xs) 100000000000000000000) (sym front)
