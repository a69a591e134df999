-- The text of an input script: its lines, and what each says. docs/formats.md has an example of each line.
use Rattle.std.specs.Prelude.{ℕ, ◌*◌, ◌^◌, ◌==◌, nat_lt, nat_le, ◌&&◌, ◌||◌, not, ℤ, pos, neg_ℤ, int_le, Bool, true, false, List, [], ◌∷◌, length, bytes_eq, codes, chars, Option, None, Some, option_map, if◌then◌else◌}
use Rattle.std.specs.List.{slice_split, after_first}
use Rattle.std.specs.Str.{is_utf8, all_ascii_digits}
use Rattle.std.specs.Str.Parse.{digits_value}
use Rattle.std.specs.Char.{to_ascii_uppercase, is_whitespace}
use Rattle.scratch_values.specs.Longest.{longest}
use Rattle.machine_spec.specs.declared.devices.Key.{Key}
use Rattle.machine_spec.specs.declared.devices.Key.TheVariants.{One}
use Rattle.machine_spec.specs.declared.lines.Budget.{Budget}
use Rattle.machine_spec.specs.declared.lines.Line.{Line}
use Rattle.machine_spec.specs.declared.lines.Line.TheVariants as line
use Rattle.machine_spec.specs.declared.lines.LineRefusal.{LineRefusal}
use Rattle.machine_spec.specs.declared.lines.LineRefusal.TheVariants as refusal
use Rattle.machine_spec.specs.Sensing.{key_named, key_or}

-- Lines

-- lines end by a line feed; the last may lack it
abbrev pub with_byte : ℕ → List (List ℕ) → List (List ℕ)
with_byte b [] = (b ∷ []) ∷ []
with_byte b (line ∷ lines) = (b ∷ line) ∷ lines

abbrev pub lines_of : List ℕ → List (List ℕ)
lines_of [] = []
lines_of (b ∷ bs) = if b == 10 then [] ∷ lines_of bs else with_byte b (lines_of bs)

-- a line as it is read
pub data Reading : Type 0 where
  Good : (l : Line) → Reading
  Refused : (r : LineRefusal) → Reading

-- Words and numbers

-- words are the pieces between single spaces, empty ones included
abbrev pub words_of : List ℕ → List (List ℕ)
words_of text = slice_split (λ b. b == 32) text

-- digits, without a leading zero unless it is 0
abbrev pub whole_number : List ℕ → Option ℕ
whole_number [] = None
whole_number (d ∷ ds) = if all_ascii_digits (d ∷ ds) && (not (d == 48) || length ds == 0) then Some (digits_value 10 (d ∷ ds)) else None

-- a minus may stand before a number that is not 0
abbrev pub negated_number : Option ℕ → Option ℤ
negated_number None = None
negated_number (Some n) = if n == 0 then None else Some (neg_ℤ (pos n))

abbrev pub signed_number : List ℕ → Option ℤ
signed_number [] = None
signed_number (b ∷ bs) = if b == 45 then negated_number (whole_number bs) else option_map pos (whole_number (b ∷ bs))

abbrev pub is_within : ℤ → ℤ → ℤ → Bool
is_within low high n = int_le low n && int_le n high

-- The rows, each with the number of its line

abbrev pub good_if : Bool → Line → ℕ → Reading
good_if true l n = Good l
good_if false l n = Refused (refusal.OutOfRange n)

abbrev pub unknown : ℕ → Reading
unknown n = Refused (refusal.UnknownLine n)

-- all words are tested to be numbers before any range
abbrev pub mouse_line : ℕ → Option ℤ → Option ℤ → Reading
mouse_line n (Some x) (Some y) = good_if (is_within (neg_ℤ (pos 240)) (pos 240) x && is_within (neg_ℤ (pos 180)) (pos 180) y) (line.Mouse x y) n
mouse_line n x y = Refused (refusal.BadNumber n)

abbrev pub click_line : ℕ → Option ℕ → Reading
click_line n (Some place) = good_if (nat_lt place (2 ^ 32)) (line.Click place) n
click_line n None = Refused (refusal.BadNumber n)

-- the bytes of a script file: 16 MiB
abbrev pub script_limit : ℕ
script_limit = 16 * 2 ^ 20

-- the last time that a clock can show, in milliseconds
abbrev pub last_clock : ℕ
last_clock = 9 * 10 ^ 12

-- the clock, the passes and the warp budget in their ranges
abbrev pub is_budget : Budget → Bool
is_budget b = nat_le b.clock last_clock && nat_le 1 b.passes && nat_le b.passes 10000 && nat_le b.warp 1000000

abbrev pub forward : (n last : ℕ) → Budget → Reading
forward n last b = if nat_lt b.clock last then Refused (refusal.ClockBack n last b.clock) else Good (line.Frame b)

abbrev pub budget_line : (n last : ℕ) → Budget → Reading
budget_line n last b = if is_budget b then forward n last b else Refused (refusal.OutOfRange n)

abbrev pub frame_line : (n last : ℕ) → Option ℕ → Option ℕ → Option ℕ → Reading
frame_line n last (Some clock) (Some passes) (Some warp) = budget_line n last (record { clock = clock; passes = passes; warp = warp })
frame_line n last clock passes warp = Refused (refusal.BadNumber n)

-- a key: a name, or one character that is no white space, an ASCII letter taken in upper case
abbrev pub one_key : List ℕ → Option Key
one_key (c ∷ []) = if is_whitespace c then None else Some (One (to_ascii_uppercase c))
one_key cs = None

abbrev pub key_line : (Key → Line) → ℕ → Option Key → Reading
key_line f n None = unknown n
key_line f n (Some key) = Good (f key)

abbrev pub key_of_rest : List ℕ → Option Key
key_of_rest text = key_or (key_named text) (one_key (chars text))

abbrev pub answer_line : ℕ → List ℕ → Reading
answer_line n text = good_if (nat_le (length text) longest) (line.Answer text) n

-- a line of one word
abbrev pub one_word : ℕ → List ℕ → Reading
one_word n word =
    if bytes_eq word (codes "flag") then Good line.Flag
    else (if bytes_eq word (codes "stop") then Good line.Stop
    else (if bytes_eq word (codes "answer") then Good (line.Answer [])
    else unknown n))

-- a line of two words whose second word is one of two
abbrev pub two_words : ℕ → (word other : List ℕ) → Reading
two_words n word other =
    if bytes_eq word (codes "turbo") && bytes_eq other (codes "on") then Good (line.Turbo true)
    else (if bytes_eq word (codes "turbo") && bytes_eq other (codes "off") then Good (line.Turbo false)
    else (if bytes_eq word (codes "button") && bytes_eq other (codes "down") then Good (line.Button true)
    else (if bytes_eq word (codes "button") && bytes_eq other (codes "up") then Good (line.Button false)
    else (if bytes_eq word (codes "click") then click_line n (whole_number other)
    else unknown n))))

abbrev pub by_words : (n last : ℕ) → List (List ℕ) → Reading
by_words n last (word ∷ []) = one_word n word
by_words n last (word ∷ other ∷ []) = two_words n word other
by_words n last (word ∷ x ∷ y ∷ []) = if bytes_eq word (codes "mouse") then mouse_line n (signed_number x) (signed_number y) else unknown n
by_words n last (word ∷ clock ∷ passes ∷ warp ∷ []) =
    if bytes_eq word (codes "frame") then frame_line n last (whole_number clock) (whole_number passes) (whole_number warp) else unknown n
by_words n last words = unknown n

-- a line whose first word takes the rest of the line as it is: a key or an answer; rest is what follows the first space
abbrev pub by_first_word : (n last : ℕ) → List ℕ → Option (List ℕ) → List ℕ → Reading
by_first_word n last word None text = by_words n last (words_of text)
by_first_word n last word (Some rest) text =
    if bytes_eq word (codes "down") then key_line line.KeyDown n (key_of_rest rest)
    else (if bytes_eq word (codes "up") then key_line line.KeyUp n (key_of_rest rest)
    else (if bytes_eq word (codes "answer") then answer_line n rest
    else by_words n last (words_of text)))

-- what follows the first space, if there is one
abbrev pub rest_of : List (List ℕ) → List ℕ → Option (List ℕ)
rest_of (word ∷ []) text = None
rest_of words text = Some (after_first (λ b. b == 32) text)

abbrev pub first_of : List (List ℕ) → List ℕ
first_of [] = []
first_of (word ∷ words) = word

-- a line of a text: one that is empty or begins with # is nothing
abbrev pub text_reading : (n last : ℕ) → List ℕ → Reading
text_reading n last [] = Good line.Nothing
text_reading n last (b ∷ bs) =
    if b == 35 then Good line.Nothing
    else by_first_word n last (first_of (words_of (b ∷ bs))) (rest_of (words_of (b ∷ bs)) (b ∷ bs)) (b ∷ bs)

-- line n, where the last clock reading is last; a line is UTF-8 (RFC 3629), a comment too
abbrev pub reading_of : (n last : ℕ) → List ℕ → Reading
reading_of n last bytes = if is_utf8 bytes then text_reading n last bytes else Refused (refusal.NotUtf8 n)

-- the last clock reading behind a line
abbrev pub clock_after : ℕ → Reading → ℕ
clock_after last (Good (line.Frame b)) = b.clock
clock_after last _ = last
