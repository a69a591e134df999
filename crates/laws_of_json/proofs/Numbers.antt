-- The texts of whole numbers are numbers of JSON, and are read back.
use Rattle.std.proofs.Common.{◌≡◌, ℕ, suc, ◌^◌, ◌<◌, ◌==◌, pos, negsuc, List, [], ◌∷◌, length, drop, false, cond, Some, option_and_then, decimal, sym, ap, ◌∙◌, arith, ne_eqb}
use Rattle.std.proofs.lemmas.Fmt.{decimal_is_IsNumeral, decimal_nonempty}
use Rattle.std.specs.Char.{digit_value}
use Rattle.std.specs.Str.Parse.{AllDigits}
use Rattle.json.specs.Print.{IsNumber}
use Rattle.json.specs.Word.{head, after_whole, after_fraction, after_exponent, after_number}
use Rattle.json.proofs.Printed.Decimals.{IsNumber-decimal}
use Rattle.serde_json.specs.Data.{Num, unsigned, negative, float}
use Rattle.serde_json.specs.Read.{number_of}
use Rattle.serde_json.specs.Written.{number_text}
use Rattle.serde_json.proofs.Numbers.{number_of-decimal, number_of-negative}
use Rattle.laws_of_json.specs.Plain.{IsWhole}

no_minus : (ds : List ℕ) → AllDigits 10 ds → 0 < length ds → head ds ≡ 45 → ⊥
no_minus [] h some e = omega arith
no_minus (d ∷ ds) h some e = let digit : digit_value d < 10 = h.0 in let is : d ≡ 45 = e in grind arith

-- a number that begins with no minus is a number behind one
behind_minus : (ds : List ℕ) → (head ds == 45) ≡ false → IsNumber ds → IsNumber (45 ∷ ds)
unfolding after_number
behind_minus ds e h = ap (λ b. option_and_then after_exponent (option_and_then after_fraction (after_whole (cond b (drop 1 ds) ds)))) (sym e) ∙ h

pub IsNumber-number_text : (n : Num) → IsWhole n → IsNumber (number_text n)
IsNumber-number_text (unsigned n) h = IsNumber-decimal n h
IsNumber-number_text (negative (pos n)) h = absurd h
IsNumber-number_text (negative (negsuc n)) h =
    let fits : suc n < 2 ^ 64 = omega arith in
    let digits = (decimal_is_IsNumeral (suc n) fits).0.1 in
    behind_minus (decimal (suc n)) (ne_eqb _ 45 (no_minus (decimal (suc n)) digits (decimal_nonempty (suc n) fits))) (IsNumber-decimal (suc n) fits)
IsNumber-number_text (float x) h = absurd h

pub number_of-number_text : (n : Num) → IsWhole n → number_of (number_text n) ≡ Some n
number_of-number_text (unsigned n) h = number_of-decimal n h
number_of-number_text (negative (pos n)) h = absurd h
number_of-number_text (negative (negsuc n)) h = number_of-negative n h
number_of-number_text (float x) h = absurd h
