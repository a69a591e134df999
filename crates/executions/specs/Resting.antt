-- What a run keeps where no thread is visited.
use Rattle.std.specs.Prelude.{◌≡◌, false, None, All}
use Rattle.machine_spec.specs.Threads.{is_done}
use Rattle.project_check.specs.declared.project.Project.{Project}
use Rattle.executions.specs.declared.state.State.{State}
use Rattle.executions.specs.Ready.{IsKept}

-- between visits of threads: no thread is detached
pub record IsResting {R : Type 0} (p : Project) (s : State R) : Type 0 where
  pub kept : IsKept p s
  pub alone : s.threads.detached ≡ None

-- between lines of a script: no thread that is listed is done
pub record IsIdle {R : Type 0} (p : Project) (s : State R) : Type 0 where
  pub resting : IsResting p s
  pub alive : All (λ t. is_done t.status ≡ false) s.threads.list
