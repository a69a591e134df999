-- Which worlds a run may be in between two lines of a script, reached or not, and which programs keep their runs so.
use Rattle.std.specs.Prelude.{◌≡◌, ℕ}
use Rattle.machine_spec.specs.declared.lines.Line.{Line}
use Rattle.machine_spec.specs.Program.{Program}
use Rattle.machine_spec.specs.Tasks.{Task}
use Rattle.machine_spec.specs.World.{World}
use Rattle.laws_of_threads.specs.GoodLines.{IsGoodLine}
use Rattle.laws_of_threads.specs.Playable.{IsPlayable}
use Rattle.laws_of_threads.specs.Scripts.{IsProgram}
use Rattle.laws_of_threads.specs.Worlds.{IsLegalWorld}
use Rattle.machine_spec.specs.Words.{words_after}
use Rattle.laws_of_instances.specs.Instances.{IsLegalCast}
use Rattle.laws_of_variables.specs.Variables.{IsLegalVariables}
use Rattle.laws_of_devices.specs.Devices.{IsLegalDesk}
use Rattle.laws_of_turns.specs.Within.{IsProgramWithin, IsWorldWithin}

-- a program whose runs stay legal: its statements stand in their targets, its targets can be played, its numbers are within
-- the limit
pub record IsGoodProgram (p : Program) : Type 0 where
  pub scripts : IsProgram p
  pub targets : IsPlayable p
  pub numbers : IsProgramWithin p

-- a legal world of a run of a program, under a seed: its threads, instances, variables and devices are legal, its words
-- those of the seed, its numbers within the limit
pub record IsLegalRun (p : Program) (seed : ℕ) (w : World Task) : Type 0 where
  pub threads : IsLegalWorld p w
  pub instances : IsLegalCast p seed w
  pub variables : IsLegalVariables p w
  pub devices : IsLegalDesk p w
  pub numbers : IsWorldWithin w

-- this world is legal, where its words are those of a seed, none drawn, and the program is good
abbrev pub OpensLegal : Program → World Task → Type 0
OpensLegal p w = (seed : ℕ) → IsGoodProgram p → w.words ≡ words_after seed 0 → IsLegalRun p seed w

-- behind this line the world is legal, where it was so before, and line and program are good
abbrev pub KeepsLegal : Program → Line → (before behind : World Task) → Type 0
KeepsLegal p l w v = (seed : ℕ) → IsGoodProgram p → IsGoodLine w.devices.clock l → IsLegalRun p seed w → IsLegalRun p seed v
