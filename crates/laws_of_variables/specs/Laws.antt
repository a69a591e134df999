-- Laws of the variables of a run, as statements that public functions with empty bodies prove.
use Rattle.std.specs.Prelude.{◌≡◌}
use Rattle.machine_spec.specs.declared.lines.Line.{Line}
use Rattle.machine_spec.specs.First.{first_world}
use Rattle.machine_spec.specs.Line.{after}
use Rattle.machine_spec.specs.Outcome.{Goes}
use Rattle.machine_spec.specs.Program.{Program}
use Rattle.machine_spec.specs.Tasks.{Task}
use Rattle.machine_spec.specs.Words.{Words}
use Rattle.machine_spec.specs.World.{World}
use Rattle.laws_of_threads.specs.GoodLines.{IsGoodLine}
use Rattle.laws_of_threads.specs.Playable.{IsPlayable}
use Rattle.laws_of_threads.specs.Scripts.{IsProgram}
use Rattle.laws_of_threads.specs.Worlds.{IsLegalWorld}
use Rattle.laws_of_variables.specs.Variables.{IsLegalVariables}

-- the first world of a run has legal variables
abbrev pub FirstIsLegal : Type 0
FirstIsLegal = (p : Program) (words : Words) → IsPlayable p → IsLegalVariables p (first_world p words)

-- every line that reaches no limit keeps them legal
abbrev pub LinesKeep : Type 0
LinesKeep =
    (p : Program) (l : Line) (w v : World Task) → IsProgram p → IsPlayable p → IsGoodLine w.devices.clock l → IsLegalWorld p w
    → IsLegalVariables p w → after p l w ≡ Goes v → IsLegalVariables p v
