-- What a run keeps between executions.
use Rattle.std.specs.Prelude.{◌≡◌, ℕ, ◌≤◌, ◌<◌, ◌^◌, Bool, true, false, List, length, Some, None}
use Rattle.targets.specs.Live.{HasOneEach, IsLive, target_of}
use Rattle.machine_spec.specs.Stores.{Variables, live}
use Rattle.machine_spec.specs.Threads.{is_done}
use Rattle.machine_spec.specs.Places.{Places, running, Everyone}
use Rattle.machine_spec.specs.declared.instance.Instance.{Instance}
use Rattle.machine_spec.specs.declared.threads.Report.{Report}
use Rattle.variables.specs.Held.{HasNoStore}
use Rattle.thread_frames.specs.Fit.{Fits, IsReadyAt}
use Rattle.thread_frames.specs.Threads.{Thread}
use Rattle.thread_moves.specs.Standing.{is_ended}
use Rattle.project_check.specs.declared.project.Project.{Project}
use Rattle.project_check.specs.Loaded.{program_of}
use Rattle.executions.specs.declared.state.State.{State}
use Rattle.executions.specs.Seen.{sheets}

-- the same instances are live, each of the same target
abbrev pub HasSameTargets : (old new : List Instance) → Type 0
HasSameTargets old new = (n : ℕ) → target_of n new ≡ target_of n old

-- each thread has levels that it can have
pub record AllFit (p : Project) (ts : Places Thread) : Type 0 where
  pub all : Everyone (Fits (sheets p)) ts

-- originals are live, each instance is of a target, and none has the next number, a later one, or that of another
pub record ArePeopled (p : Project) (next : ℕ) (is : List Instance) : Type 0 where
  pub few : next < 2 ^ 62
  pub originals : (n : ℕ) → n < length (program_of p).records.targets → IsLive n is
  pub homes : (n t : ℕ) → target_of n is ≡ Some t → t < length (program_of p).records.targets
  pub fresh : (n : ℕ) → next ≤ n → live n is ≡ None
  pub one_each : HasOneEach is

-- nor has such an instance variables
abbrev pub HasNoneFrom : ℕ → Variables → Type 0
HasNoneFrom next vs = (n : ℕ) → next ≤ n → HasNoStore n vs

-- a thread that is not done is of a live instance
abbrev pub IsOfLive : List Instance → Thread → Type 0
IsOfLive is t = is_done t.status ≡ false → IsLive t.of is

-- between executions
pub record IsKept {R : Type 0} (p : Project) (s : State R) : Type 0 where
  pub threads : AllFit p s.threads
  pub few : s.next_thread < 2 ^ 62
  pub people : ArePeopled p s.next_instance s.targets
  pub living : Everyone (IsOfLive s.targets) s.threads
  pub free : HasNoneFrom s.next_instance s.variables

-- the running thread, while slot i is visited, is about to execute a block
pub record IsReady {R : Type 0} (p : Project) (i : ℕ) (s : State R) : Type 0 where
  pub thread : Thread
  pub found : running i s.threads ≡ Some thread
  pub alive : is_done thread.status ≡ false
  pub ready : IsReadyAt (sheets p thread.target) thread.levels
  pub kept : IsKept p s

abbrev pub IsReadyUnless : {R : Type 0} → (ended : Bool) → Project → (i : ℕ) → State R → Type 0
IsReadyUnless true p i s = IsKept p s
IsReadyUnless false p i s = IsReady p i s

-- after an execution: the running thread has ended, or is about to execute a block
abbrev pub IsAfter : {R : Type 0} → Project → (i : ℕ) → Report → State R → Type 0
IsAfter p i report s = IsReadyUnless (is_ended report) p i s
