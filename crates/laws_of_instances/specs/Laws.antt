-- Laws of the instances of a run, as statements that public functions with empty bodies prove.
use Rattle.std.specs.Prelude.{◌≡◌, ℕ}
use Rattle.machine_spec.specs.declared.lines.Line.{Line}
use Rattle.machine_spec.specs.First.{first_world}
use Rattle.machine_spec.specs.Line.{after}
use Rattle.machine_spec.specs.Outcome.{Goes}
use Rattle.machine_spec.specs.Program.{Program}
use Rattle.machine_spec.specs.Tasks.{Task}
use Rattle.machine_spec.specs.World.{World}
use Rattle.laws_of_threads.specs.GoodLines.{IsGoodLine}
use Rattle.laws_of_threads.specs.Playable.{IsPlayable}
use Rattle.laws_of_threads.specs.Scripts.{IsProgram}
use Rattle.laws_of_threads.specs.Worlds.{IsLegalWorld}
use Rattle.machine_spec.specs.Words.{words_after}
use Rattle.laws_of_instances.specs.Instances.{IsLegalCast}

-- the first world of a run has legal instances
abbrev pub FirstIsLegal : Type 0
FirstIsLegal = (p : Program) (seed : ℕ) → IsPlayable p → IsLegalCast p seed (first_world p (words_after seed 0))

-- every line that reaches no limit keeps them legal
abbrev pub LinesKeep : Type 0
LinesKeep =
    (p : Program) (seed : ℕ) (l : Line) (w v : World Task) → IsProgram p → IsPlayable p → IsGoodLine w.devices.clock l → IsLegalWorld p w
    → IsLegalCast p seed w → after p l w ≡ Goes v → IsLegalCast p seed v
