-- What `parse` says of a whole number.
use Rattle.std.proofs.Common.{◌≡◌, ℕ, ◌<◌, ◌≤◌, ◌^◌, min, Bool, true, false, List, [], ◌∷◌, length, Some, Err, refl, ap, sym, ◌∙◌, ⊎_elim, arith}
use Rattle.std.specs.Prelude.{◌&&◌, option_map}
use Rattle.std.specs.Char.{is_ascii_digit}
use Rattle.std.specs.List.{list_all}
use Rattle.std.specs.Str.{all_ascii_digits}
use Rattle.std.specs.Str.Parse.{digits_value, ParsesUnsigned}
use Rattle.std.proofs.lemmas.Str.Parse.{IsNumeralModel, numerals_by_value, tells_all_ascii_digits, parse_digits}
use Rattle.std.proofs.lemmas.Bool.{cases_lt}
use Rattle.machine_spec.specs.ScriptText.{whole_number}
use Rattle.input_script.specs.Kept.{is_whole}

-- digits, tested one by one
pub digits_same : (ds : List ℕ) → list_all is_ascii_digit ds ≡ all_ascii_digits ds
digits_same [] = refl
digits_same (d ∷ ds) = ap (λ b. is_ascii_digit d && b) (digits_same ds)

pub as_numeral : IsNumeralModel (λ ds. all_ascii_digits ds ≡ true) (digits_value 10)
as_numeral = numerals_by_value _ tells_all_ascii_digits

and_first : (a b : Bool) → (a && b) ≡ true → a ≡ true
and_first true b h = refl
and_first false b h = h

pub whole_digits : (word : List ℕ) → is_whole word ≡ true → (0 < length word) × (all_ascii_digits word ≡ true)
whole_digits [] h = absurd (cc)
whole_digits (d ∷ ds) h = (omega arith, and_first (all_ascii_digits (d ∷ ds)) _ h)

-- a word of digits is the number that they write
pub whole_is : (word : List ℕ) → is_whole word ≡ true → whole_number word ≡ Some (digits_value 10 word)
whole_is [] h = absurd (cc)
whole_is (d ∷ ds) h = rw h refl

-- a number of no 64 bits is past every bound of 64 bits
pub unparsed : {E : Type 0} (most : ℕ) (word : List ℕ) (e : E) → most < 2 ^ 64 → is_whole word ≡ true → ParsesUnsigned 64 10 word (Err e) → Some most ≡ option_map (min most) (whole_number word)
unparsed most word e small w h =
    let d = whole_digits word w in
    let not_small = parse_digits as_numeral 64 word (Err e) h d.1 in
    let far : most ≤ digits_value 10 word = ⊎_elim (λ p. absurd (not_small (d.0, p))) (λ p. omega arith) (cases_lt (digits_value 10 word) (2 ^ 64)) in
    let least : min most (digits_value 10 word) ≡ most = omega (arith, far) in
    ap Some (sym least) ∙ sym (ap (option_map (min most)) (whole_is word w))
