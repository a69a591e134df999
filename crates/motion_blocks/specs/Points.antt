-- The points of this crate's code as those of the reference machine.
use Rattle.machine_spec.specs.Motion as machine
use Rattle.motion_blocks.specs.declared.instance.Point.{Point}

abbrev pub point : Point → machine.Point
point q = record { x = q.x; y = q.y }
