-- Laws of the numbers of a run, as statements that public functions with empty bodies prove.
use Rattle.std.specs.Prelude.{◌≡◌}
use Rattle.machine_spec.specs.declared.lines.Line.{Line}
use Rattle.machine_spec.specs.First.{first_world}
use Rattle.machine_spec.specs.Line.{after}
use Rattle.machine_spec.specs.Outcome.{Goes}
use Rattle.machine_spec.specs.Program.{Program}
use Rattle.machine_spec.specs.Tasks.{Task}
use Rattle.machine_spec.specs.Words.{Words}
use Rattle.machine_spec.specs.World.{World}
use Rattle.laws_of_threads.specs.Worlds.{IsLegalWorld}
use Rattle.laws_of_turns.specs.Within.{IsProgramWithin, IsWorldWithin}

-- the first world of a run has its numbers within the limit
abbrev pub FirstIsWithin : Type 0
FirstIsWithin = (p : Program) (words : Words) → IsProgramWithin p → IsWorldWithin (first_world p words)

-- every line that reaches no limit keeps them within it
abbrev pub LinesKeepWithin : Type 0
LinesKeepWithin =
    (p : Program) (l : Line) (w v : World Task) → IsProgramWithin p → IsLegalWorld p w → IsWorldWithin w → after p l w ≡ Goes v
    → IsWorldWithin v
