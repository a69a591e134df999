-- The number of a frame and its clock.
use Rattle.std.specs.Prelude.{◌≡◌}
use Rattle.machine_spec.specs.Tasks.{Task}
use Rattle.machine_spec.specs.World.{World}

-- the frame of a world and its clock are those of another
pub record IsSameTime (w v : World Task) : Type 0 where
  pub frame : v.frame ≡ w.frame
  pub clock : v.devices.clock ≡ w.devices.clock
