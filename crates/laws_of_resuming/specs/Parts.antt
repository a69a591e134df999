-- The parts of a script, and what outputs may differ in that are told alike: the numbers of refused lines and redraw requests.
use Rattle.std.specs.Prelude.{◌≡◌, ℕ, ◌+◌, List, [], ◌∷◌}
use Rattle.machine_spec.specs.declared.lines.LineRefusal.{LineRefusal}
use Rattle.machine_spec.specs.declared.lines.LineRefusal.TheVariants.{NotUtf8, UnknownLine, BadNumber, OutOfRange, ClockBack, NoMemory}
use Rattle.machine_spec.specs.Output.{Ending, Whole, BadLine, Limited, Output, ends}
use Rattle.machine_spec.specs.ScriptText.{reading_of, clock_after}
use Rattle.machine_spec.specs.Tasks.{Task}
use Rattle.machine_spec.specs.World.{World, as_saved}

-- a text is empty or ends by a line feed
abbrev pub EndsALine : List ℕ → Type 0
EndsALine [] = Unit {0}
EndsALine (b ∷ []) = b ≡ 10
EndsALine (b ∷ c ∷ bytes) = EndsALine (c ∷ bytes)

-- the last clock reading behind lines, where the first of them has the number n and the last reading in front of it is last
abbrev pub clock_behind : (n last : ℕ) → List (List ℕ) → ℕ
clock_behind n last [] = last
clock_behind n last (bytes ∷ lines) = clock_behind (n + 1) (clock_after last (reading_of n last bytes)) lines

-- the refusal of a line where k more lines stand in front of it
abbrev pub moved_by : ℕ → LineRefusal → LineRefusal
moved_by k (NotUtf8 n) = NotUtf8 (k + n)
moved_by k (UnknownLine n) = UnknownLine (k + n)
moved_by k (BadNumber n) = BadNumber (k + n)
moved_by k (OutOfRange n) = OutOfRange (k + n)
moved_by k (ClockBack n was is) = ClockBack (k + n) was is
moved_by k NoMemory = NoMemory

-- the ending of lines where k more lines stand in front of them: a refused line has another number, and all else is the same
abbrev pub ending_moved : ℕ → Ending → Ending
ending_moved k (BadLine refusal) = BadLine (moved_by k refusal)
ending_moved k (Whole last) = Whole last
ending_moved k (Limited stop) = Limited stop

-- the output of lines where k more lines stand in front of them
abbrev pub moved_on : ℕ → Output → Output
moved_on k o = ends o.writes (ending_moved k o.ending)

-- worlds that differ in nothing but their redraw requests
abbrev pub AlikeButRedraw : World Task → World Task → Type 0
AlikeButRedraw w v = as_saved w ≡ as_saved v

-- endings that differ in nothing but the redraw request of the last world
abbrev pub EndAlike : Ending → Ending → Type 0
EndAlike (Whole w) (Whole v) = AlikeButRedraw w v
EndAlike e f = e ≡ f

-- outputs with the same writes and with endings that are alike
pub record AreAlike (o q : Output) : Type 0 where
  pub writes : o.writes ≡ q.writes
  pub ending : EndAlike o.ending q.ending
