-- Laws of scripts that are played in parts, as statements that public functions with empty bodies prove.
use Rattle.std.specs.Prelude.{◌≡◌, ℕ, ◌+◌, ◌-◌, ◌≤◌, List, ◌++◌, length}
use Rattle.machine_spec.specs.Output.{Whole, ends, in_front, played}
use Rattle.machine_spec.specs.Program.{Program}
use Rattle.machine_spec.specs.ScriptText.{lines_of}
use Rattle.machine_spec.specs.Tasks.{Task}
use Rattle.machine_spec.specs.World.{World}
use Rattle.laws_of_resuming.specs.Parts.{AlikeButRedraw, AreAlike, EndsALine, clock_behind, moved_on}

-- the lines of two texts together are those of the first and then those of the second, where the first ends a line
abbrev pub TextsJoin : Type 0
TextsJoin = (a b : List ℕ) → EndsALine a → lines_of (a ++ b) ≡ lines_of a ++ lines_of b

-- lines behind others are played from the last world, number and clock reading of those
abbrev pub LinesGoOn : Type 0
LinesGoOn =
    (p : Program) (n last : ℕ) (w v : World Task) (xs : List (List ℕ)) (lines more : List (List ℕ)) → played p n last w lines ≡ ends xs (Whole v)
    → played p n last w (lines ++ more) ≡ in_front xs (played p (n + length lines) (clock_behind n last lines) v more)

-- where k more lines stand in front, refused lines have other numbers, and nothing else differs
abbrev pub NumbersMove : Type 0
NumbersMove = (p : Program) (k n last : ℕ) (w : World Task) (lines : List (List ℕ)) → played p (k + n) last w lines ≡ moved_on k (played p n last w lines)

-- a redraw request changes nothing that is written, and no end but the redraw request of the last world
abbrev pub RedrawIsNotTold : Type 0
RedrawIsNotTold =
    (p : Program) (n last : ℕ) (w v : World Task) (lines : List (List ℕ)) → AlikeButRedraw w v
    → AreAlike (played p n last w lines) (played p n last v lines)

-- the clock of the last world is the last clock reading
abbrev pub ClockIsRead : Type 0
ClockIsRead =
    (p : Program) (n : ℕ) (w v : World Task) (xs : List (List ℕ)) (lines : List (List ℕ)) → played p n w.devices.clock w lines ≡ ends xs (Whole v)
    → v.devices.clock ≡ clock_behind n w.devices.clock lines

-- a script that goes on behind a part of it, which ends a line, writes what the part writes and then what the rest writes
-- from a world like the last one of the part; it ends as the rest does, its lines numbered on behind those of the part
abbrev pub PartsAreWhole : Type 0
PartsAreWhole =
    (p : Program) (n last : ℕ) (w v u : World Task) (xs : List (List ℕ)) (a b : List ℕ) → 1 ≤ n → EndsALine a
    → played p n last w (lines_of a) ≡ ends xs (Whole v) → AlikeButRedraw v u
    → AreAlike (played p n last w (lines_of (a ++ b))) (in_front xs (moved_on (n - 1 + length (lines_of a)) (played p 1 (clock_behind n last (lines_of a)) u (lines_of b))))

-- the same where the clock of each world is taken for the last reading in front of it
abbrev pub WorldsGoOn : Type 0
WorldsGoOn =
    (p : Program) (n : ℕ) (w v u : World Task) (xs : List (List ℕ)) (a b : List ℕ) → 1 ≤ n → EndsALine a
    → played p n w.devices.clock w (lines_of a) ≡ ends xs (Whole v) → AlikeButRedraw v u
    → AreAlike (played p n w.devices.clock w (lines_of (a ++ b))) (in_front xs (moved_on (n - 1 + length (lines_of a)) (played p 1 u.devices.clock u (lines_of b))))
