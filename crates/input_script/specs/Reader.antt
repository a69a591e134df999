-- Where the reader of an input script stands, what it reads next, and what it answers. docs/formats.md has the lines.
use Rattle.std.specs.Prelude.{◌≡◌, ℕ, ◌==◌, ◌+◌, ◌≤◌, List, [], ◌∷◌, drop, Option, None, Some, Result, Ok, Err}
use Rattle.std.specs.List.{after_first, before_first}
use Rattle.machine_spec.specs.declared.lines.Budget.{Budget}
use Rattle.machine_spec.specs.declared.lines.Line.{Line}
use Rattle.machine_spec.specs.declared.lines.Line.TheVariants.{Frame}
use Rattle.machine_spec.specs.declared.lines.LineRefusal.{LineRefusal}
use Rattle.machine_spec.specs.declared.lines.LineRefusal.TheVariants.{NotUtf8, UnknownLine, BadNumber, OutOfRange, ClockBack, NoMemory}
use Rattle.machine_spec.specs.ScriptText.{Reading, Good, Refused, reading_of, clock_after, last_clock, lines_of}

-- the bytes that are left, the lines in them, how many were read, and the last clock reading
pub record Reader : Type 0 where
  pub rest : List ℕ
  pub lines : List (List ℕ)
  pub number : ℕ
  pub last : ℕ

-- the first of the lines, whose number is n, as it is read
abbrev pub first_reading : (n last : ℕ) → List (List ℕ) → Option Reading
first_reading n last [] = None
first_reading n last (line ∷ lines) = Some (reading_of n last line)

-- the next line as it is read, and none at the end
abbrev pub next_reading : Reader → Option Reading
next_reading s = first_reading (s.number + 1) s.last s.lines

-- the first line of these bytes, without its end
abbrev pub line_in : List ℕ → List ℕ
line_in bytes = before_first (λ b. b == 10) bytes

-- what stands behind it and its end
abbrev pub behind_line : List ℕ → List ℕ
behind_line bytes = after_first (λ b. b == 10) bytes

-- the lines of all these bytes are their first one, and then those of the rest
abbrev pub IsLineBefore : (all rest : List ℕ) → Type 0
IsLineBefore all rest = lines_of all ≡ line_in all ∷ lines_of rest

-- the reader behind a good line
abbrev pub behind : Line → Reader → Reader
behind l s = record { rest = behind_line s.rest; lines = drop 1 s.lines; number = s.number + 1; last = clock_after s.last (Good l) }

-- the reader behind what was read; at the end it stays
abbrev pub reader_after : Option Line → Reader → Reader
reader_after None s = s
reader_after (Some l) s = behind l s

-- a refusal is that of the reading; want of memory tells nothing
abbrev pub Refuses : {T : Type 0} → Result T LineRefusal → Option Reading → Type 0
Refuses (Ok x) r = Unit {0}
Refuses (Err NoMemory) r = Unit {0}
Refuses (Err (NotUtf8 n)) r = r ≡ Some (Refused (NotUtf8 n))
Refuses (Err (UnknownLine n)) r = r ≡ Some (Refused (UnknownLine n))
Refuses (Err (BadNumber n)) r = r ≡ Some (Refused (BadNumber n))
Refuses (Err (OutOfRange n)) r = r ≡ Some (Refused (OutOfRange n))
Refuses (Err (ClockBack n was is)) r = r ≡ Some (Refused (ClockBack n was is))

-- what a frame line hands in is in its ranges
pub record IsBudget (b : Budget) : Type 0 where
  pub clock : b.clock ≤ last_clock
  pub passes_low : 1 ≤ b.passes
  pub passes : b.passes ≤ 10000
  pub warp : b.warp ≤ 1000000

-- a frame line is in its ranges, and its clock is not below the last reading
abbrev pub IsForward : ℕ → Line → Type 0
IsForward last (Frame b) = (last ≤ b.clock) × IsBudget b
IsForward last l = Unit {0}
