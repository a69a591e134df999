-- A run as the reference machine sees it: the world, with each thread's levels as what it has still to do.
use Rattle.std.specs.Prelude.{ℕ}
use Rattle.rand_core.specs.Stream.{Stream}
use Rattle.machine_spec.specs.Places.{Places, shown_by}
use Rattle.machine_spec.specs.Tasks.{Task}
use Rattle.machine_spec.specs.Words.{seen_words}
use Rattle.machine_spec.specs.World.{World}
use Rattle.project_spec.specs.Trees.{Sheet}
use Rattle.thread_frames.specs.Reading.{task}
use Rattle.thread_frames.specs.Threads.{Thread}
use Rattle.project_check.specs.declared.project.Project.{Project}
use Rattle.project_check.specs.Loaded.{sheet_at}
use Rattle.executions.specs.declared.state.State.{State}

-- the blocks of each target, and what they name
abbrev pub sheets : Project → ℕ → Sheet
sheets p t = sheet_at t p

abbrev pub seen_threads : Project → Places Thread → Places Task
seen_threads p ts = shown_by (task (sheets p)) ts

abbrev pub seen : {R : Type 0} → (R → Stream) → Project → State R → World Task
seen stream p r = record {
  frame = r.frame;
  words = seen_words stream r.words;
  next_thread = r.next_thread;
  next_instance = r.next_instance;
  redraw = r.redraw;
  targets = r.targets;
  variables = r.variables;
  devices = r.devices;
  threads = seen_threads p r.threads;
}
