-- A digest is written in 64 digits.
use Rattle.std.proofs.Common.{◌≡◌, ℕ, zero, suc, ◌/◌, ◌%◌, ◌<◌, ◌==◌, Bool, true, false, ◌&&◌, List, [], ◌∷◌, slice_index, refl, arith}
use Rattle.std.specs.List.{list_all}
use Rattle.std.proofs.lemmas.Bool.Decides.{nat_tests}
use Rattle.hex.specs.Hex.{encode_lower, encode_with, lower_digits}
use Rattle.hex.proofs.HexLemmas.{length-encode_with}
use Rattle.laws_of_threads.specs.Lists.{Each}
use Rattle.laws_of_threads.proofs.Numbers.{equal}
use Rattle.saved_spec.specs.RunShapes.{is_digit, is_digest}
use Rattle.laws_of_saving.specs.Good.{IsDigest}
use Rattle.laws_of_saving.proofs.Tests.{both_true, same_true, each_of}

-- each of the first n places of a list is a digit
abbrev are_digits : List ℕ → ℕ → Bool
are_digits t zero = true
are_digits t (suc n) = is_digit (slice_index t n) && are_digits t n

first_of : (a b : Bool) → (a && b) ≡ true → a ≡ true
first_of true b e = refl
first_of false b e = absurd (cc e)

second_of : (a b : Bool) → (a && b) ≡ true → b ≡ true
second_of true b e = e
second_of false b e = absurd (cc e)

digit_by : (t : List ℕ) (n k : ℕ) (c : Bool) → (k == n) ≡ c → is_digit (slice_index t n) ≡ true → (k < n → is_digit (slice_index t k) ≡ true) → k < suc n → is_digit (slice_index t k) ≡ true
digit_by t n k true e top rest l = let same : k ≡ n = equal k n e in rw same top
digit_by t n k false e top rest l = rest (grind (arith, nat_tests))

digit_at : (t : List ℕ) (n k : ℕ) → are_digits t n ≡ true → k < n → is_digit (slice_index t k) ≡ true
digit_at t zero k h l = absurd (omega arith)
digit_at t (suc n) k h l = digit_by t n k (k == n) refl (first_of (is_digit (slice_index t n)) (are_digits t n) h) (digit_at t n k (second_of (is_digit (slice_index t n)) (are_digits t n) h)) l

lower : (k : ℕ) → k < 16 → is_digit (slice_index lower_digits k) ≡ true
lower k l = digit_at lower_digits 16 k refl l

digits : (bytes : List ℕ) → Each (λ byte. byte < 256) bytes → list_all is_digit (encode_with lower_digits bytes) ≡ true
unfolding encode_with
digits [] h = refl
digits (byte ∷ bytes) h = let small = h.0 in
    both_true _ _ (lower (byte / 16) (omega arith)) (both_true _ _ (lower (byte % 16) (omega arith)) (digits bytes h.1))

pub digest_written : (digest : List ℕ) → IsDigest digest → is_digest (encode_lower digest) ≡ true
digest_written digest h =
    let e = length-encode_with lower_digits digest in
    let size = h.size in
    both_true _ _ (same_true _ _ (omega (arith, e, size))) (digits digest (each_of (λ byte. byte < 256) digest h.bytes))
