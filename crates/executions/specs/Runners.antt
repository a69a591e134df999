-- The running thread, and where it stands in the list of threads.
use Rattle.std.specs.Prelude.{◌≡◌, ℕ, ◌<◌, Bool, true, false, length, Some}
use Rattle.machine_spec.specs.declared.threads.Report.{Report}
use Rattle.machine_spec.specs.Places.{at_place, place}
use Rattle.thread_frames.specs.Threads.{Thread}
use Rattle.thread_moves.specs.Standing.{is_ended}
use Rattle.project_check.specs.declared.project.Project.{Project}
use Rattle.project_check.specs.Loaded.{blocks_at, tables_of}
use Rattle.executions.specs.declared.runner.Runner.{Runner}
use Rattle.executions.specs.declared.state.State.{State}
use Rattle.executions.specs.declared.execution.Next.{Next}
use Rattle.executions.specs.Nexts.{next_of}
use Rattle.executions.specs.Ready.{IsKept, IsReady}

-- the runner tells of this thread
pub record IsWho (r : Runner) (t : Thread) : Type 0 where
  pub target_is : r.target ≡ t.target
  pub here_is : r.here ≡ t.of
  pub serial_is : r.serial ≡ t.serial

-- the runner is the thread that runs while slot i is visited, and is about to execute a block
pub record IsRunner {R : Type 0} (p : Project) (i : ℕ) (r : Runner) (s : State R) : Type 0 where
  pub ready : IsReady p i s
  pub place_is : r.which ≡ place i s.threads
  pub who : IsWho r ready.thread

-- after an execution: where the thread has ended it is no runner any more
abbrev pub IsRunnerUnless : {R : Type 0} → (ended : Bool) → Project → (i : ℕ) → Runner → State R → Type 0
IsRunnerUnless true p i r s = IsKept p s
IsRunnerUnless false p i r s = IsRunner p i r s

abbrev pub IsRunnerAfter : {R : Type 0} → Project → (i : ℕ) → Report → Runner → State R → Type 0
IsRunnerAfter p i report r s = IsRunnerUnless (is_ended report) p i r s

-- Private functions alone cite these

-- what the runner executes next, which is block k
abbrev pub next_block : Runner → ℕ → Next
next_block r k = record { target = r.target; here = r.here; serial = r.serial; id = k }

-- the runner is about to execute block k
pub record RunsAt {R : Type 0} (p : Project) (i : ℕ) (r : Runner) (s : State R) (k : ℕ) : Type 0 where
  pub ready : IsReady p i s
  -- it is the thread that runs while slot i is visited
  pub place_is : r.which ≡ place i s.threads
  -- its top level holds the block
  pub next_is : next_of (at_place r.which s.threads) ≡ Some (next_block r k)
  -- its target is one of the project's
  pub held : r.target < length (tables_of p)
  -- the block is one of the target's
  pub member : k < length (blocks_at r.target p)
