-- Laws of the devices and counters of a run, as statements that public functions with empty bodies prove.
use Rattle.std.specs.Prelude.{◌≡◌, ℕ, List}
use Rattle.machine_spec.specs.declared.lines.Line.{Line}
use Rattle.machine_spec.specs.First.{first_world}
use Rattle.machine_spec.specs.Line.{after}
use Rattle.machine_spec.specs.Outcome.{Goes}
use Rattle.machine_spec.specs.Program.{Program}
use Rattle.machine_spec.specs.ScriptText.{Good, reading_of}
use Rattle.machine_spec.specs.Tasks.{Task}
use Rattle.machine_spec.specs.Words.{Words}
use Rattle.machine_spec.specs.World.{World}
use Rattle.laws_of_threads.specs.GoodLines.{IsGoodLine}
use Rattle.laws_of_threads.specs.Playable.{IsPlayable}
use Rattle.laws_of_threads.specs.Scripts.{IsProgram}
use Rattle.laws_of_threads.specs.Worlds.{IsLegalWorld}
use Rattle.laws_of_devices.specs.Devices.{IsLegalDesk}

-- the first world of a run has legal devices
abbrev pub FirstIsLegal : Type 0
FirstIsLegal = (p : Program) (words : Words) → IsPlayable p → IsLegalDesk p (first_world p words)

-- every line that reaches no limit keeps them legal
abbrev pub LinesKeep : Type 0
LinesKeep =
    (p : Program) (l : Line) (w v : World Task) → IsProgram p → IsPlayable p → IsGoodLine w.devices.clock l → IsLegalWorld p w
    → IsLegalDesk p w → after p l w ≡ Goes v → IsLegalDesk p v

-- a line that is read where the clock stands at `last` is a good one
abbrev pub ReadLinesAreGood : Type 0
ReadLinesAreGood = (n last : ℕ) (bytes : List ℕ) (l : Line) → reading_of n last bytes ≡ Good l → IsGoodLine last l
