-- What blocks make of random words.
use Rattle.std.specs.Prelude.{ℕ, ◌+◌, ◌*◌, ◌/◌, ◌%◌, ◌^◌, ◌==◌, ℤ, pos, ◌+ℤ◌, ◌-ℤ◌, ◌*ℤ◌, unsigned_abs, Bool, true, false, not, ◌&&◌, if◌then◌else◌, Option, None, Some}
use Rattle.std.specs.List.{list_any}
use Rattle.std.specs.declared.cmp.Ordering.{Ordering}
use Rattle.std.specs.declared.cmp.Ordering.TheVariants.{Less, Equal, Greater}
use Rattle.scratch_number.specs.declared.number.Num.{Num}
use Rattle.scratch_number.specs.declared.number.Num.TheVariants.{Fixed, Inf, NegInf, Nan}
use Rattle.scratch_number.specs.Number.{number, floor_by, order}
use Rattle.scratch_number.specs.Arithmetic.{add, million}
use Rattle.scratch_values.specs.declared.value.Value.{Value}
use Rattle.scratch_values.specs.declared.value.Value.TheVariants.{Number, Truth, Text}
use Rattle.scratch_values.specs.declared.index.Index.{Index}
use Rattle.scratch_values.specs.Index.{index, needs_word}
use Rattle.scratch_values.specs.Casts as casts
use Rattle.machine_spec.specs.Outcome.{Outcome, then_do}
use Rattle.machine_spec.specs.Numbers.{whole}
use Rattle.machine_spec.specs.Words.{Words, Drawn, undrawn, made_of, draw}

-- a number looks whole where it is whole or not-a-number
abbrev pub number_looks_whole : Num → Bool
number_looks_whole (Fixed z) = unsigned_abs z % 1000000 == 0
number_looks_whole Inf = false
number_looks_whole NegInf = false
number_looks_whole Nan = true

-- a text looks whole where it has no point, a truth always (scratch-vm, util/cast.js, isInt)
abbrev pub looks_whole : Value → Bool
looks_whole (Number n) = number_looks_whole n
looks_whole (Truth b) = true
looks_whole (Text t) = not (list_any (λ c. c == 46) t)

-- the number that a word picks from low to high, by whole steps or by millionths
abbrev pub between_bounds : Bool → ℤ → ℤ → ℕ → Num
between_bounds true low high word = number (low +ℤ (million *ℤ floor_by (pos word *ℤ ((high -ℤ low) +ℤ million)) (2 ^ 32 * 1000000)))
between_bounds false low high word = number (low +ℤ floor_by (pos word *ℤ (high -ℤ low)) (2 ^ 32))

-- between two different numbers, the lower one first: an infinite bound gives their sum and draws no word
abbrev pub picked : Bool → Num → Num → Words → Outcome (Drawn Num)
picked by_whole (Fixed low) (Fixed high) w = then_do (draw w) (made_of (between_bounds by_whole low high))
picked by_whole low high w = undrawn w (add low high)

-- equal numbers are that number and draw no word
abbrev pub picked_by : Option Ordering → Bool → Num → Num → Words → Outcome (Drawn Num)
picked_by (Some Less) by_whole a b w = picked by_whole a b w
picked_by (Some Greater) by_whole a b w = picked by_whole b a w
picked_by (Some Equal) by_whole a b w = undrawn w a
picked_by None by_whole a b w = undrawn w a

-- pick random FROM to TO (scratch-vm, blocks/scratch3_operators.js, random)
abbrev pub pick_random : Value → Value → Words → Outcome (Drawn Num)
pick_random from to w =
    picked_by (order (casts.number from) (casts.number to)) (looks_whole from && looks_whole to) (casts.number from) (casts.number to) w

-- a whole number from −n/2 to n/2, for an even n: ⌊n·w / 2^32 + ½⌋ − n/2
abbrev pub scattered : ℕ → ℕ → Num
scattered n word = whole (pos ((n * word + 2 ^ 31) / 2 ^ 32) -ℤ pos (n / 2))

-- the place of a list of this length that a value names; a word is drawn exactly for `random` and `any` of a list that is
-- not empty
abbrev pub indexed : Value → ℕ → (all : Bool) → Words → Outcome (Drawn Index)
indexed v length all w =
    if needs_word v length then then_do (draw w) (made_of (index v length all)) else undrawn w (index v length all 0)
