-- Which lines are frames.
use Rattle.std.specs.Prelude.{Bool, true, false}
use Rattle.machine_spec.specs.declared.lines.Line.{Line}
use Rattle.machine_spec.specs.declared.lines.Line.TheVariants.{Frame}

abbrev pub is_frame : Line → Bool
is_frame (Frame b) = true
is_frame _ = false
