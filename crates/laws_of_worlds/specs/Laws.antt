-- Laws of the worlds of a run, as statements that public functions with empty bodies prove.
use Rattle.std.specs.Prelude.{◌≡◌, ℕ, List}
use Rattle.machine_spec.specs.declared.lines.Line.{Line}
use Rattle.machine_spec.specs.First.{first_world}
use Rattle.machine_spec.specs.Line.{after}
use Rattle.machine_spec.specs.Outcome.{Goes}
use Rattle.machine_spec.specs.Output.{Whole, played}
use Rattle.machine_spec.specs.Program.{Program}
use Rattle.machine_spec.specs.Tasks.{Task}
use Rattle.machine_spec.specs.Words.{Words}
use Rattle.machine_spec.specs.World.{World}
use Rattle.laws_of_worlds.specs.Runs.{IsGoodProgram, IsLegalRun, KeepsLegal, OpensLegal}

-- the first world of a run is legal
abbrev pub FirstIsLegal : Type 0
FirstIsLegal = (p : Program) (words : Words) → OpensLegal p (first_world p words)

-- every good line that reaches no limit, a frame too, keeps a legal world legal
abbrev pub LinesKeepLegal : Type 0
LinesKeepLegal = (p : Program) (l : Line) (w v : World Task) → after p l w ≡ Goes v → KeepsLegal p l w v

-- and so is the last world of a script that is played to its end
abbrev pub LastIsLegal : Type 0
LastIsLegal =
    (p : Program) (seed n : ℕ) (w v : World Task) (lines : List (List ℕ)) → IsGoodProgram p → IsLegalRun p seed w
    → (played p n w.devices.clock w lines).ending ≡ Whole v → IsLegalRun p seed v
