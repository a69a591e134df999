-- The text of a number: a minus where it is negative, the whole part and, where there is a fraction,
-- a point and its digits without zeros at the end, never with an exponent.
use Rattle.std.specs.Prelude.{ℕ, zero, suc, ◌+◌, ◌/◌, ◌%◌, ◌^◌, ◌==◌, pos, negsuc, if◌then◌else◌, List, [], ◌∷◌, ◌++◌, codes}
use Rattle.std.specs.Fmt.{decimal}
use Rattle.scratch_number.specs.declared.number.Num.{Num}
use Rattle.scratch_number.specs.declared.number.Num.TheVariants.{Fixed, Inf, NegInf, Nan}

-- the digits of f / 10^places behind the point, up to the last that is not 0, for f below 10^places
unfoldable pub fraction_digits : ℕ → ℕ → List ℕ
fraction_digits zero f = []
fraction_digits (suc places) f =
    if f == 0 then [] else (48 + f / 10 ^ places) ∷ fraction_digits places (f % 10 ^ places)

-- a point and the fraction of f millionths, or nothing where it is 0
unfoldable pub fraction_text : ℕ → List ℕ
fraction_text f = if f == 0 then [] else 46 ∷ fraction_digits 6 f

-- n millionths
unfoldable pub size_text : ℕ → List ℕ
size_text n = decimal (n / 1000000) ++ fraction_text (n % 1000000)

-- the text of a number
abbrev pub text_of : Num → List ℕ
text_of (Fixed (pos n)) = size_text n
text_of (Fixed (negsuc n)) = 45 ∷ size_text (suc n)
text_of Inf = codes "Infinity"
text_of NegInf = codes "-Infinity"
text_of Nan = codes "NaN"
