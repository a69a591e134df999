-- A text cut at its first space, and a script cut at its first line end.
use Rattle.std.proofs.Common.{◌≡◌, ℕ, zero, suc, ◌+◌, ◌-◌, ◌<◌, ◌≤◌, Bool, true, false, cond, eqb, ltb, None, Some, List, [], ◌∷◌, length, take, drop, refl, sym, ap, ◌∙◌, arith, length-drop}
use Rattle.std.specs.Prelude.{not}
use Rattle.std.proofs.lemmas.List.{take_all}
use Rattle.std.proofs.lemmas.List.Sums.{prefix_len-le-length}
use Rattle.std.proofs.Math.Seq.{drop-length}
use Rattle.std.proofs.lemmas.Iterator.Adapters.{position_from-zero}
use Rattle.std.proofs.lemmas.Bool.Decides.{nat_tests}
use Rattle.std.specs.List.{position_from, position_or_len, before_first, after_first, slice_split, onto_first}
use Rattle.machine_spec.specs.ScriptText.{with_byte, lines_of}

split_one : (b : Bool) (x : ℕ) (xs : List ℕ) (n : ℕ) (parts : List (List ℕ)) → cond (not b) (1 + n) 0 ≡ length (x ∷ xs) → (n ≡ length xs → parts ≡ xs ∷ []) → cond b ([] ∷ parts) (onto_first x parts) ≡ (x ∷ xs) ∷ []
split_one true x xs n parts h k = absurd (omega arith)
split_one false x xs n parts h k = ap (onto_first x) (k (omega arith))

-- where no element passes, the list is the one part
pub split_none : (p : ℕ → Bool) (xs : List ℕ) → position_or_len p xs ≡ length xs → slice_split p xs ≡ xs ∷ []
split_none p [] h = refl
split_none p (x ∷ xs) h = split_one (p x) x xs (position_or_len p xs) (slice_split p xs) h (split_none p xs)

line_one : (b : Bool) (x : ℕ) (xs : List ℕ) (n : ℕ) (lines : List (List ℕ)) → cond (not b) (1 + n) 0 ≡ length (x ∷ xs) → (n ≡ length xs → with_byte x lines ≡ (x ∷ xs) ∷ []) → cond b ([] ∷ lines) (with_byte x lines) ≡ (x ∷ xs) ∷ []
line_one true x xs n lines h k = absurd (omega arith)
line_one false x xs n lines h k = k (omega arith)

-- a script with no line end is one line
pub lines_none : (x : ℕ) (xs : List ℕ) → position_or_len (λ b. eqb b 10) (x ∷ xs) ≡ length (x ∷ xs) → lines_of (x ∷ xs) ≡ (x ∷ xs) ∷ []
lines_none x [] h = line_one (eqb x 10) x [] 0 [] h (λ e. refl)
lines_none x (y ∷ ys) h = line_one (eqb x 10) x (y ∷ ys) (position_or_len (λ b. eqb b 10) (y ∷ ys)) (lines_of (y ∷ ys)) h (λ e. ap (with_byte x) (lines_none y ys e))

line_first : (b : Bool) (x : ℕ) (xs : List ℕ) (n : ℕ) → cond (not b) (1 + n) 0 < length (x ∷ xs) → (n < length xs → lines_of xs ≡ take n xs ∷ lines_of (drop (n + 1) xs))
    → cond b ([] ∷ lines_of xs) (with_byte x (lines_of xs)) ≡ take (cond (not b) (1 + n) 0) (x ∷ xs) ∷ lines_of (drop (cond (not b) (1 + n) 0 + 1) (x ∷ xs))
line_first true x xs n h k = refl
line_first false x xs n h k =
    let one : 1 + n ≡ suc n = omega arith in
    let two : 1 + n + 1 ≡ suc (n + 1) = omega arith in
    let front : take (1 + n) (x ∷ xs) ≡ x ∷ take n xs = ap (λ i. take i (x ∷ xs)) one in
    let back : lines_of (drop (1 + n + 1) (x ∷ xs)) ≡ lines_of (drop (n + 1) xs) = ap (λ i. lines_of (drop i (x ∷ xs))) two in
    let rest : with_byte x (lines_of xs) ≡ (x ∷ take n xs) ∷ lines_of (drop (n + 1) xs) = ap (with_byte x) (k (omega arith)) in
    cc

-- the first line and the lines after it
pub lines_first : (xs : List ℕ) → position_or_len (λ b. eqb b 10) xs < length xs → lines_of xs ≡ before_first (λ b. eqb b 10) xs ∷ lines_of (after_first (λ b. eqb b 10) xs)
lines_first [] h = absurd (omega arith)
lines_first (x ∷ xs) h = line_first (eqb x 10) x xs (position_or_len (λ b. eqb b 10) xs) h (lines_first xs)

rest_all : (xs : List ℕ) (n k : ℕ) → length xs ≤ n + k → take n (drop k xs) ≡ drop k xs
rest_all xs n k h = take_all n (drop k xs) (omega (arith, length-drop k xs))

-- the script is cut at its first line end
pub cut_line : (xs : List ℕ) (n : ℕ) → n ≡ position_or_len (λ b. eqb b 10) xs → n < length xs → lines_of xs ≡ take n xs ∷ lines_of (take (length xs - (n + 1)) (drop (n + 1) xs))
cut_line xs n e h =
    let first : lines_of xs ≡ take n xs ∷ lines_of (drop (n + 1) xs) = rw e (lines_first xs (rw (← e) h)) in
    let rest = rest_all xs (length xs - (n + 1)) (n + 1) (omega arith) in
    cc

take_nil : (n : ℕ) → take {A = ℕ} n [] ≡ []
take_nil zero = refl
take_nil (suc n) = refl

-- the script is one line
pub whole_line : (xs : List ℕ) (n : ℕ) → 0 < length xs → n ≡ position_or_len (λ b. eqb b 10) xs → length xs ≤ n → lines_of xs ≡ xs ∷ lines_of (take (length xs - length xs) (drop (length xs) xs))
whole_line [] n s e h = absurd (omega arith)
whole_line (x ∷ xs) n s e h =
    let none : take (length (x ∷ xs) - length (x ∷ xs)) (drop (length (x ∷ xs)) (x ∷ xs)) ≡ [] = ap (take (length (x ∷ xs) - length (x ∷ xs))) (drop-length (x ∷ xs)) ∙ take_nil (length (x ∷ xs) - length (x ∷ xs)) in
    lines_none x xs (omega (arith, prefix_len-le-length (λ b. not (eqb b 10)) (x ∷ xs))) ∙ ap (λ ys. (x ∷ xs) ∷ lines_of ys) (sym none)

-- the place of the first element that passes, or the length

no_place : (n : ℕ) → None ≡ Some n → ⊥
no_place n e = cc

at_place : (b : Bool) (n at : ℕ) → cond b (Some n) None ≡ Some at → at ≡ n
at_place true n at h = let e : Some n ≡ Some at = h in cc
at_place false n at h = let e : None ≡ Some at = h in absurd (no_place at e)

at_end : (b : Bool) (n : ℕ) → cond b (Some n) None ≡ None → b ≡ false
at_end true n h = absurd (no_place n (sym h))
at_end false n h = refl

pub len_at : (p : ℕ → Bool) (xs : List ℕ) (at : ℕ) → Some at ≡ position_from p 0 xs → at ≡ position_or_len p xs
len_at p xs at h = at_place (ltb (position_or_len p xs) (length xs)) (position_or_len p xs) at (position_from-zero p xs ∙ sym h)

pub len_all : (p : ℕ → Bool) (xs : List ℕ) → None ≡ position_from p 0 xs → length xs ≡ position_or_len p xs
len_all p xs h =
    let none = at_end (ltb (position_or_len p xs) (length xs)) (position_or_len p xs) (position_from-zero p xs ∙ sym h) in
    let most = prefix_len-le-length (λ b. not (p b)) xs in
    grind (arith, nat_tests)
