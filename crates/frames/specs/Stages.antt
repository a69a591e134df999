-- The stages of a frame, as the code makes them; the contracts of private functions alone cite this file.
use Rattle.std.specs.Prelude.{true, false}
use Rattle.machine_spec.specs.declared.lines.Budget.{Budget}
use Rattle.machine_spec.specs.Outcome.{Outcome, then_do}
use Rattle.machine_spec.specs.Program.{Program}
use Rattle.machine_spec.specs.Tasks.{Task}
use Rattle.machine_spec.specs.World.{World}
use Rattle.machine_spec.specs.Frame.{edges, edges_passed, passes, numbered}

-- edge hats, of which a list is made first
abbrev pub edges_tried : Program → World Task → Outcome (World Task)
edges_tried p w = edges_passed p (edges p w) w

-- passes, before which no redraw is requested
abbrev pub passes_made : Program → Budget → World Task → Outcome (World Task)
passes_made p b w = passes p b.warp b.passes true true (record w { redraw = false })

-- passes, and the number of the frame
abbrev pub threads_run : Program → Budget → World Task → Outcome (World Task)
threads_run p b w = then_do (passes_made p b w) numbered

-- edge hats, passes, and the number of the frame
abbrev pub scripts_run : Program → Budget → World Task → Outcome (World Task)
scripts_run p b w = then_do (edges_tried p w) (threads_run p b)
