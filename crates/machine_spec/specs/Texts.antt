-- Texts that blocks make of values.
use Rattle.std.specs.Prelude.{ℕ, ◌+◌, ◌-◌, ◌/◌, ◌%◌, ◌==◌, nat_le, pos, negsuc, ℤ, unsigned_abs, Bool, true, false, not, ◌&&◌, ◌||◌, if◌then◌else◌, List, [], ◌∷◌, ◌++◌, length, map, slice_get, chars, encode_utf8, Option, None, Some}
use Rattle.std.specs.Fmt.{decimal}
use Rattle.std.specs.List.{list_all, concat, join_with_byte}
use Rattle.scratch_number.specs.declared.number.Num.TheVariants.{Fixed}
use Rattle.scratch_number.specs.Number.{near}
use Rattle.scratch_number.specs.Text as numbers
use Rattle.scratch_values.specs.declared.value.Value.{Value}
use Rattle.scratch_values.specs.declared.value.Value.TheVariants.{Number, Truth, Text}
use Rattle.scratch_values.specs.declared.index.Index.{Index}
use Rattle.scratch_values.specs.declared.index.Index.TheVariants.{All, At, Invalid}
use Rattle.scratch_values.specs.Longest.{longest}
use Rattle.scratch_values.specs.Value.{text_of}
use Rattle.machine_spec.specs.Outcome.{Outcome, Goes, TooLong}
use Rattle.machine_spec.specs.BubbleText.{cut}

-- a text as a value, unless it is longer than a value may be
abbrev pub text_value : List ℕ → Outcome Value
text_value t = if nat_le (length t) longest then Goes (Text t) else TooLong (length t)

-- a text of one character; a number or a truth is none
abbrev pub is_letter : Value → Bool
is_letter (Number n) = false
is_letter (Truth b) = false
is_letter (Text t) = length (chars t) == 1

-- the contents of a list: joined with nothing where every item is a text of one character, else with one space
-- (scratch-vm, blocks/scratch3_data.js, getListContents)
abbrev pub contents_text : List Value → List ℕ
contents_text items = if list_all is_letter items then concat (map text_of items) else join_with_byte 32 (map text_of items)

-- the character of a text at a place, and the empty text at no place
abbrev pub char_text : Option ℕ → List ℕ
char_text None = []
char_text (Some c) = encode_utf8 c

abbrev pub letter_at : Index → List ℕ → List ℕ
letter_at All t = []
letter_at (At n) t = char_text (slice_get (chars t) (n - 1))
letter_at Invalid t = []

-- one text stands at the front of another, and somewhere within it
abbrev pub begins_with : List ℕ → List ℕ → Bool
begins_with [] whole = true
begins_with (c ∷ part) [] = false
begins_with (c ∷ part) (d ∷ whole) = c == d && begins_with part whole

abbrev pub has_part : List ℕ → List ℕ → Bool
has_part [] part = begins_with part []
has_part (c ∷ whole) part = begins_with part (c ∷ whole) || has_part whole part

-- hundredths, with two digits behind the point
abbrev pub hundredths : ℕ → List ℕ
hundredths n = decimal (n / 100) ++ 46 ∷ (48 + n % 100 / 10) ∷ (48 + n % 10) ∷ []

abbrev pub signed_hundredths : ℤ → List ℕ
signed_hundredths (pos n) = hundredths n
signed_hundredths (negsuc n) = 45 ∷ hundredths (n + 1)

-- a number in a bubble: with two decimals, half away from zero, where it is not whole and at least 0.01 in size
-- (scratch-vm, blocks/scratch3_looks.js, _formatBubbleText)
abbrev pub bubble_number : ℤ → List ℕ
bubble_number z =
    if nat_le 10000 (unsigned_abs z) && not (unsigned_abs z % 1000000 == 0)
    then signed_hundredths (near z (pos 10000))
    else numbers.text_of (Fixed z)

abbrev pub uncut_bubble_text : Value → List ℕ
uncut_bubble_text (Number (Fixed z)) = bubble_number z
uncut_bubble_text v = text_of v

-- what a bubble shows of a value
abbrev pub bubble_text : Value → List ℕ
bubble_text v = cut (uncut_bubble_text v)
