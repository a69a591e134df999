-- The costume rule: which costume a value names (after scratch-vm, blocks/scratch3_looks.js, _setCostume, _setBackdrop).
use Rattle.std.specs.Prelude.{ℕ, ◌+◌, ◌-◌, ◌*◌, ◌/◌, ◌^◌, ◌==◌, nat_le, ℤ, pos, ◌+ℤ◌, ◌-ℤ◌, unsigned_abs, Bool, true, false, if◌then◌else◌, List, length, position, bytes_eq, codes, Option, None, Some}
use Rattle.scratch_number.specs.declared.number.Num.{Num}
use Rattle.scratch_number.specs.declared.number.Num.TheVariants.{Fixed, Inf, NegInf, Nan}
use Rattle.scratch_number.specs.Arithmetic.{sub, round, modulo}
use Rattle.scratch_values.specs.declared.value.Value.{Value}
use Rattle.scratch_values.specs.declared.value.Value.TheVariants.{Number}
use Rattle.scratch_values.specs.Value.{text_of}
use Rattle.scratch_values.specs.Casts.{one_number}
use Rattle.scratch_values.specs.Comparison.{numeric}
use Rattle.machine_spec.specs.Outcome.{Outcome, then_do}
use Rattle.machine_spec.specs.Numbers.{whole}
use Rattle.machine_spec.specs.Words.{Words, Drawn, undrawn, made_of, draw}

-- what a value asks for: nothing, an index that is still to be rounded and wrapped, or another one that a word picks
pub data Choice : Type 0 where
  Stays : Choice
  To : Num → Choice
  Another : Choice

-- an index counts from 0
abbrev pub to_index : ℤ → Choice
to_index i = To (whole i)

-- last: the number of the value, from 1, if it has one
abbrev pub by_number : Option Num → Choice
by_number None = Stays
by_number (Some n) = To (sub n one_number)

-- second: the words of the costume rule, and with true those of the backdrop rule
abbrev pub by_words : Bool → List ℕ → ℕ → Choice → Choice
by_words false t now next =
    if bytes_eq t (codes "next costume") then to_index (pos now +ℤ pos 1)
    else (if bytes_eq t (codes "previous costume") then to_index (pos now -ℤ pos 1)
    else next)
by_words true t now next =
    if bytes_eq t (codes "next backdrop") then to_index (pos now +ℤ pos 1)
    else (if bytes_eq t (codes "previous backdrop") then to_index (pos now -ℤ pos 1)
    else (if bytes_eq t (codes "random backdrop") then Another
    else next))

-- first: the first costume with exactly that name
abbrev pub by_name : Option ℕ → Choice → Choice
by_name None next = next
by_name (Some i) next = to_index (pos i)

-- the first rule that fits a text or a truth; a number n is the index n − 1
abbrev pub choice : (backdrop : Bool) → List (List ℕ) → ℕ → Value → Choice
choice backdrop names now (Number n) = To (sub n one_number)
choice backdrop names now v =
    by_name (position (λ name. bytes_eq name (text_of v)) names) (by_words backdrop (text_of v) now (by_number (numeric v)))

-- the whole number of a number that is not negative; what is not finite is 0
abbrev pub whole_index : Num → ℕ
whole_index (Fixed z) = unsigned_abs z / 1000000
whole_index Inf = 0
whole_index NegInf = 0
whole_index Nan = 0

-- an index of count costumes: rounded and wrapped
abbrev pub costume_index : ℕ → Num → ℕ
costume_index count n = whole_index (modulo (round n) (whole (pos count)))

-- one of the others, where there is one
abbrev pub skipping : ℕ → ℕ → ℕ
skipping now r = if nat_le now r then r + 1 else r

abbrev pub another : ℕ → ℕ → Words → Outcome (Drawn (Option ℕ))
another count now w =
    if count == 1 then undrawn w None
    else then_do (draw w) (made_of (λ word. Some (skipping now (word * (count - 1) / 2 ^ 32))))

abbrev pub chosen : Choice → ℕ → ℕ → Words → Outcome (Drawn (Option ℕ))
chosen Stays count now w = undrawn w None
chosen (To n) count now w = undrawn w (Some (costume_index count n))
chosen Another count now w = another count now w

-- the costume that a value chooses, if the rule changes anything; with true for the stage's backdrops
abbrev pub switched : (backdrop : Bool) → List (List ℕ) → ℕ → Value → Words → Outcome (Drawn (Option ℕ))
switched backdrop names now v w = chosen (choice backdrop names now v) (length names) now w
