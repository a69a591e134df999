-- What a view shows of a run.
use Rattle.std.specs.Prelude.{◌≡◌}
use Rattle.machine_spec.specs.FrameText.{Stage}
use Rattle.machine_spec.specs.World.{World}
use Rattle.stage_frame.specs.declared.frame.View.{View}

-- a view of this world: its number of the frame, its count of words that were drawn, and its stores
pub record IsSeen {T : Type 0} (v : View) (w : World T) : Type 0 where
  pub frame : w.frame ≡ v.frame
  pub words : w.words.drawn ≡ v.words
  pub targets : w.targets ≡ v.targets.now
  pub variables : w.variables ≡ v.variables.now
  pub devices : w.devices ≡ v.devices.now

-- what monitors read of it
abbrev pub seen_stage : View → Stage
seen_stage v = record { targets = v.targets.now; variables = v.variables.now; devices = v.devices.now }
