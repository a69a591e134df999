-- The parts of the world that the rows of each group may change, and the update of a bubble.
use Rattle.std.specs.Prelude.{ℕ, ◌+◌, List, is_some, if◌then◌else◌}
use Rattle.script_words.specs.declared.stops.CounterKind.TheVariants as counter
use Rattle.machine_spec.specs.Outcome.{Outcome, Goes, with_number}
use Rattle.machine_spec.specs.Words.{Words}
use Rattle.machine_spec.specs.Stores.{Instance, Say, Variables, Devices, live, on_instance}

-- of motion
pub record MotionParts : Type 0 where
  pub targets : List Instance
  pub words : Words

-- of control, events, procedures and sensing
pub record Scene : Type 0 where
  pub targets : List Instance
  pub devices : Devices

-- of looks and sound
pub record LooksParts : Type 0 where
  pub scene : Scene
  pub words : Words

-- of data
pub record DataParts : Type 0 where
  pub variables : Variables
  pub words : Words

-- a bubble with a new usage number
abbrev pub bubble_set : ℕ → Say → List ℕ → Scene → Scene
bubble_set here kind text s = record {
  targets = on_instance here (λ i. record i { bubble = record { kind = kind; text = text; usage = s.devices.usage } }) s.targets;
  devices = record s.devices { usage = s.devices.usage + 1 };
}

-- one update of the bubble of an instance; one that is no longer live has none
abbrev pub bubble_updated : ℕ → Say → List ℕ → Scene → Outcome Scene
bubble_updated here kind text s =
    if is_some (live here s.targets)
    then with_number counter.Bubble s.devices.usage (Goes (bubble_set here kind text s))
    else Goes s
