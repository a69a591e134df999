-- The number of a text as a function of the text. `Reads` of the file Grammar says what it gives. The
-- steps on the way and the cut sizes are helpers, which the contracts of private functions cite.
use Rattle.std.specs.Prelude.{ℕ, ◌+◌, ◌*◌, ◌==◌, nat_lt, min, pos, Bool, false, ◌&&◌, ◌||◌, if◌then◌else◌, Option, Some, None, List, [], ◌∷◌, ◌++◌, length, take, drop, slice_index, codes}
use Rattle.std.specs.Char.{digit_value}
use Rattle.std.specs.List.{prefix_len, list_all}
use Rattle.std.specs.Str.{bytes_eq, trim}
use Rattle.std.specs.Str.Parse.{digits_value}
use Rattle.scratch_number.specs.declared.number.Num.{Num}
use Rattle.scratch_number.specs.declared.number.Num.TheVariants.{Fixed, Inf, Nan}
use Rattle.scratch_number.specs.Number.{number}
use Rattle.scratch_number.specs.Grammar.{decimal_size, with_sign}

-- c is a digit in the base
abbrev pub is_digit : ℕ → ℕ → Bool
is_digit base c = nat_lt (digit_value c) base

-- at least one digit in the base, and nothing else
unfoldable pub is_numeral : ℕ → List ℕ → Bool
is_numeral base ds = nat_lt 0 (length ds) && list_all (is_digit base) ds

-- how many digits a text begins with
unfoldable pub digit_run : List ℕ → ℕ
digit_run t = prefix_len (is_digit 10) t

-- the digits that a text begins with, and what follows them
unfoldable pub digits_front : List ℕ → List ℕ
digits_front t = take (digit_run t) t

unfoldable pub after_digits : List ℕ → List ℕ
after_digits t = drop (digit_run t) t

-- the digits behind a point at the front of a text, and what follows them
unfoldable pub fraction_front : List ℕ → List ℕ
fraction_front [] = []
fraction_front (c ∷ cs) = if c == 46 then digits_front cs else []

unfoldable pub after_fraction : List ℕ → List ℕ
after_fraction [] = []
after_fraction (c ∷ cs) = if c == 46 then after_digits cs else c ∷ cs

-- a text begins with a minus
unfoldable pub has_minus : List ℕ → Bool
has_minus [] = false
has_minus (c ∷ cs) = c == 45

-- a text without a sign in front
unfoldable pub without_sign : List ℕ → List ℕ
without_sign [] = []
without_sign (c ∷ cs) = if c == 43 || c == 45 then cs else c ∷ cs

-- the sign and the size of an exponent that is the whole text; 0 where the text is empty
unfoldable pub exponent_of : List ℕ → Option (Bool × ℕ)
exponent_of [] = Some (false, 0)
exponent_of (c ∷ cs) =
    if (c == 101 || c == 69) && is_numeral 10 (without_sign cs)
    then Some (has_minus cs, digits_value 10 (without_sign cs))
    else None

-- the number of digits before and behind a point, and an exponent
unfoldable pub decimal_number : List ℕ → List ℕ → Option (Bool × ℕ) → Num
decimal_number ds fs None = Nan
decimal_number ds fs (Some e) =
    if nat_lt 0 (length ds + length fs)
    then number (pos (decimal_size (digits_value 10 (ds ++ fs)) (length fs) e.0 e.1))
    else Nan

-- the number of a text that has no sign and no base
unfoldable pub unsigned_number : List ℕ → Num
unsigned_number t =
    if bytes_eq t (codes "Infinity")
    then Inf
    else decimal_number (digits_front t) (fraction_front (after_digits t)) (exponent_of (after_fraction (after_digits t)))

-- the base that a letter names; 0 where it names none
unfoldable pub base_of_letter : ℕ → ℕ
base_of_letter c =
    if c == 120 || c == 88 then 16 else (if c == 98 || c == 66 then 2 else (if c == 111 || c == 79 then 8 else 0))

-- the base that a text begins with, as `0x` with 16; 0 where it begins with none
unfoldable pub base_of : List ℕ → ℕ
base_of t = if slice_index t 0 == 48 then base_of_letter (slice_index t 1) else 0

-- the number of digits in a base
unfoldable pub based_number : ℕ → List ℕ → Num
based_number base ds = if is_numeral base ds then number (pos (digits_value base ds * 1000000)) else Nan

-- the number of a text that has no white space at its ends
unfoldable pub trimmed_number : List ℕ → Num
trimmed_number [] = Fixed (pos 0)
trimmed_number (c ∷ cs) =
    if nat_lt 0 (base_of (c ∷ cs))
    then based_number (base_of (c ∷ cs)) (drop 2 (c ∷ cs))
    else with_sign (has_minus (c ∷ cs)) (unsigned_number (without_sign (c ∷ cs)))

-- the number of a text, and not a number where it is none
abbrev pub number_of : List ℕ → Num
number_of text = trimmed_number (trim text)

-- 10^20, above every finite number of millionths and every length
abbrev pub cap : ℕ
cap = 100000000000000000000

-- an exponent that is cut at the cap
abbrev pub capped_exponent : Option (Bool × ℕ) → Option (Bool × ℕ)
capped_exponent None = None
capped_exponent (Some e) = Some (e.0, min e.1 cap)
