-- Which texts are numbers, and which number each of them is. White space at both ends is gone.
use Rattle.std.specs.Prelude.{ℕ, ◌+◌, ◌*◌, ◌^◌, ◌≡◌, ◌⊎◌, pos, Bool, true, false, List, [], ◌∷◌, ◌++◌, length, codes}
use Rattle.std.specs.Str.Parse.{AllDigits, IsNumeral, digits_value}
use Rattle.scratch_number.specs.declared.number.Num.{Num}
use Rattle.scratch_number.specs.declared.number.Num.TheVariants.{Fixed, Inf, Nan}
use Rattle.scratch_number.specs.Number.{number, near_size, negated}

-- an optional sign, and whether it is a minus
pub data IsSign : List ℕ → Bool → Type 0 where
  unsigned : IsSign [] false
  plus : IsSign (43 ∷ []) false
  minus : IsSign (45 ∷ []) true

-- a digit form, with its digits before and behind the point: at least one digit; or at least one
-- digit, a point and any number of digits; or a point and at least one digit
pub data IsDigitForm : List ℕ → List ℕ → List ℕ → Type 0 where
  whole : (ds : List ℕ) → IsNumeral 10 ds → IsDigitForm ds ds []
  pointed : (ds fs : List ℕ) → IsNumeral 10 ds → AllDigits 10 fs → IsDigitForm (ds ++ 46 ∷ fs) ds fs
  fraction : (fs : List ℕ) → IsNumeral 10 fs → IsDigitForm (46 ∷ fs) [] fs

-- the letter of an exponent: `e` or `E`
pub data IsExponentLetter : ℕ → Type 0 where
  small : IsExponentLetter 101
  large : IsExponentLetter 69

-- an optional exponent, with its sign and its size: `e` or `E`, an optional sign, at least one digit
pub data IsExponent : List ℕ → Bool → ℕ → Type 0 where
  none : IsExponent [] false 0
  some : (letter : ℕ) (sign ds : List ℕ) (down : Bool) → IsExponentLetter letter → IsSign sign down → IsNumeral 10 ds → IsExponent (letter ∷ sign ++ ds) down (digits_value 10 ds)

-- the letter of a base: `0x`, `0b` and `0o`, in either case
pub data IsBaseLetter : ℕ → ℕ → Type 0 where
  hex : IsBaseLetter 120 16
  large_hex : IsBaseLetter 88 16
  binary : IsBaseLetter 98 2
  large_binary : IsBaseLetter 66 2
  octal : IsBaseLetter 111 8
  large_octal : IsBaseLetter 79 8

-- n / 10^places · 10^size, or by 10^size where the exponent is below 0: the exact fraction in
-- millionths, rounded once
abbrev pub decimal_size : ℕ → ℕ → Bool → ℕ → ℕ
decimal_size n places false size = near_size (n * 10 ^ (size + 6)) (10 ^ places)
decimal_size n places true size = near_size (n * 10 ^ 6) (10 ^ (places + size))

-- a number, or its negation after a minus
abbrev pub with_sign : Bool → Num → Num
with_sign false n = n
with_sign true n = negated n

-- the texts that are numbers
pub data IsNumber : List ℕ → Num → Type 0 where
  empty : IsNumber [] (Fixed (pos 0))
  infinity : (sign : List ℕ) (negative : Bool) → IsSign sign negative → IsNumber (sign ++ codes "Infinity") (with_sign negative Inf)
  decimal : (sign form ds fs exponent : List ℕ) (negative down : Bool) (size : ℕ) → IsSign sign negative → IsDigitForm form ds fs → IsExponent exponent down size → IsNumber (sign ++ (form ++ exponent)) (with_sign negative (number (pos (decimal_size (digits_value 10 (ds ++ fs)) (length fs) down size))))
  based : (letter base : ℕ) (ds : List ℕ) → IsBaseLetter letter base → IsNumeral base ds → IsNumber (48 ∷ letter ∷ ds) (number (pos (digits_value base ds * 1000000)))

-- what a text reads as: its number, and not a number where it is no case of the grammar
abbrev pub Reads : List ℕ → Num → Type 0
Reads text n = IsNumber text n ⊎ ((n ≡ Nan) × ((m : Num) → IsNumber text m → ⊥))
