-- The lines of a frame and the text of the reference machine.
use Rattle.std.proofs.Common.{◌≡◌, refl}
use Rattle.machine_spec.specs.Program.{Program, Records}
use Rattle.machine_spec.specs.Tasks.{Task}
use Rattle.machine_spec.specs.World.{World}
use Rattle.machine_spec.specs.FrameText.{frame_text}
use Rattle.stage_frame.specs.declared.frame.View.{View}
use Rattle.stage_frame.specs.Lines.{frame_lines}
use Rattle.stage_frame.specs.Seen.{IsSeen}

-- the lines of a view of a world are the text of its frame
pub lines_are : (records : Records) (v : View) (p : Program) (w : World Task) → p.records ≡ records → IsSeen v w → frame_lines records v ≡ frame_text p w
lines_are records v p w e s = rw (← e, ← s.frame, ← s.words, ← s.targets, ← s.variables, ← s.devices) refl
