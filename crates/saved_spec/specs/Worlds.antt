-- The world that a saved run tells: what the run was when it was saved.
use Rattle.std.specs.Prelude.{List, [], map, Bool, false, None, unwrap_or}
use Rattle.std.specs.Option.{option_map_or}
use Rattle.machine_spec.specs.Legal.{warp_on}
use Rattle.machine_spec.specs.Pending.{Item}
use Rattle.machine_spec.specs.Tasks.{Task}
use Rattle.machine_spec.specs.World.{World}
use Rattle.machine_spec.specs.Words.{words_after}
use Rattle.project_spec.specs.Basis.{Basis, script_under}
use Rattle.saved_spec.specs.Kept.{SavedThread}
use Rattle.saved_spec.specs.Levels.{left_of}
use Rattle.saved_spec.specs.RunShapes.{Told}
use Rattle.saved_spec.specs.Rules.{target_of}

-- what a thread has still to do
abbrev pub items_told : Basis → Told → SavedThread → List Item
items_told b t x = unwrap_or (left_of b t x) []

-- whether it runs without screen refresh: so does its place
abbrev pub warp_told : Basis → Told → SavedThread → Bool
warp_told b t x = option_map_or (λ hat. warp_on b.program hat (items_told b t x)) (script_under (target_of t x) x.hat b) false

abbrev pub task_told : Basis → Told → SavedThread → Task
task_told b t x = record {
  serial = x.serial;
  of = x.of;
  hat = x.hat;
  status = x.status;
  warp = warp_told b t x;
  items = items_told b t x;
}

-- no thread is detached, and no redraw is requested
abbrev pub world_told : Basis → Told → World Task
world_told b t = record {
  frame = t.run.frame;
  words = words_after t.run.seed t.run.drawn;
  next_thread = t.run.next_thread;
  next_instance = t.run.next_instance;
  redraw = false;
  targets = t.run.targets;
  variables = t.run.variables;
  devices = t.run.devices;
  threads = record { list = map (task_told b t) t.run.threads; detached = None };
}
