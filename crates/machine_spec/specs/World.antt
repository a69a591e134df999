-- The world of a run, whatever a thread is: a task for the machine, a stack of levels for the code.
use Rattle.std.specs.Prelude.{ℕ, List, Bool, false}
use Rattle.machine_spec.specs.Words.{Words}
use Rattle.machine_spec.specs.Stores.{Instance, Variables, Devices}
use Rattle.machine_spec.specs.Places.{Places, shown_by}

-- `targets` are the instances in executable order; `next_thread` and `next_instance` are the numbers that are given next
pub record World (T : Type 0) : Type 0 where
  pub frame : ℕ
  pub words : Words
  pub next_thread : ℕ
  pub next_instance : ℕ
  pub redraw : Bool
  pub targets : List Instance
  pub variables : Variables
  pub devices : Devices
  pub threads : Places T

-- the same world with each thread as f shows it
abbrev pub seen_world : {A B : Type 0} → (A → B) → World A → World B
seen_world f w = record {
  frame = w.frame;
  words = w.words;
  next_thread = w.next_thread;
  next_instance = w.next_instance;
  redraw = w.redraw;
  targets = w.targets;
  variables = w.variables;
  devices = w.devices;
  threads = shown_by f w.threads;
}

-- a world but for what a saved run does not tell of it: a redraw request, which lasts no longer than a frame
abbrev pub as_saved : {T : Type 0} → World T → World T
as_saved w = record w { redraw = false }
