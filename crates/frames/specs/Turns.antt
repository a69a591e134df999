-- Which threads get a turn, and when there are more of them; the contracts of private functions alone cite these.
use Rattle.std.specs.Prelude.{◌≡◌, ℕ, Bool, false, not, ◌&&◌, ◌||◌, Option, Some, None, slice_get}
use Rattle.machine_spec.specs.Threads.{is_done, is_running}
use Rattle.machine_spec.specs.Places.{Places, running}
use Rattle.machine_spec.specs.Slice as machine
use Rattle.machine_spec.specs.Frame.{is_empty}
use Rattle.thread_frames.specs.Threads.{Thread}
use Rattle.project_check.specs.declared.project.Project.{Project}
use Rattle.executions.specs.declared.state.State.{State}
use Rattle.executions.specs.Ready.{IsKept}

-- the thread of slot i is not done
pub record IsAlive (i : ℕ) (ts : Places Thread) : Type 0 where
  pub thread : Thread
  pub found : slice_get ts.list i ≡ Some thread
  pub alive : is_done thread.status ≡ false

-- while slot i is visited the running thread is not done
pub record CanTurn {R : Type 0} (p : Project) (i : ℕ) (s : State R) : Type 0 where
  pub thread : Thread
  pub found : running i s.threads ≡ Some thread
  pub alive : is_done thread.status ≡ false
  pub kept : IsKept p s

-- a thread that is there is running
abbrev pub is_active : Option Thread → Bool
is_active None = false
is_active (Some t) = is_running t.status

-- a thread that is there gets a slice, in the first pass of a frame or in a later one
abbrev pub gets_slice : (first : Bool) → Option Thread → Bool
gets_slice first None = false
gets_slice first (Some t) = machine.gets_slice first t.status

-- a frame has one more pass
abbrev pub passes_go_on : {R : Type 0} → (active : Bool) → State R → Bool
passes_go_on active s = not (is_empty s.threads.list) && active && (s.devices.turbo || not s.redraw)
