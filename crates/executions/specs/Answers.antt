-- What a run answers to an execution of its runner; the contracts of private functions alone cite these.
use Rattle.std.specs.Prelude.{◌≡◌, ℕ, Bool, Some, Result, IfOk}
use Rattle.rand_core.specs.Stream.{Stream}
use Rattle.opcode_table.specs.declared.opcode.Opcode.{Opcode}
use Rattle.scratch_values.specs.Named.{Arguments}
use Rattle.script_words.specs.declared.stops.Stop.{Stop}
use Rattle.machine_spec.specs.Outcome.{Outcome, Goes, StopIs}
use Rattle.machine_spec.specs.Step.{Moment, step}
use Rattle.machine_spec.specs.Tasks.{Task}
use Rattle.machine_spec.specs.World.{World}
use Rattle.machine_spec.specs.declared.threads.Control.{Control}
use Rattle.machine_spec.specs.declared.threads.Report.{Report}
use Rattle.project_check.specs.declared.project.Project.{Project}
use Rattle.project_check.specs.Loaded.{program_of}
use Rattle.executions.specs.declared.runner.Runner.{Runner}
use Rattle.executions.specs.declared.state.State.{State}
use Rattle.executions.specs.Choices.{chosen}
use Rattle.executions.specs.Ready.{IsAfter}
use Rattle.executions.specs.Rows.{Acts, Enacts}
use Rattle.executions.specs.Runners.{IsRunnerAfter}
use Rattle.executions.specs.Seen.{seen}

-- a fact of one execution by the machine
abbrev pub Steps : {R : Type 0} → (R → Stream) → Project → (i : ℕ) → (late : Bool) → State R → (Outcome (Moment (World Task)) → Type 0) → Type 0
Steps stream p i late s P = P (step (program_of p) i late (seen stream p s))

-- a fact of what the running thread does, whose top level holds block k, by any arguments by which its opcode chooses a control
abbrev pub Chooses : {R : Type 0} → (R → Stream) → Project → (i k : ℕ) → (late : Bool) → Opcode → Control → State R → (Outcome (Moment (World Task)) → Type 0) → Type 0
Chooses stream p i k late op control s P = (a : Arguments) → chosen op a ≡ Some control → Enacts stream p i k late a s P

-- The machine's outcome, of which `told` tells each fact, is what the run answers: the world that is seen and the report, or
-- the stop. Then the runner is about to execute a block, or its thread has ended.
pub record Answers {R : Type 0} (stream : R → Stream) (p : Project) (i : ℕ) (told : (Outcome (Moment (World Task)) → Type 0) → Type 0) (result : Result Report Stop) (new : Runner) (last : State R) : Type 0 where
  pub ok : IfOk result (λ report. told (λ o. o ≡ Goes (record { world = seen stream p last; report = report })))
  pub after : IfOk result (λ report. IsRunnerAfter p i report new last)
  pub stop : told (StopIs result)

-- The same of a control that acts on others; the top level of the running thread held block k.
pub record ActsAs {R : Type 0} (stream : R → Stream) (p : Project) (i k : ℕ) (late : Bool) (control : Control) (old : State R) (result : Result Report Stop) (new : State R) : Type 0 where
  pub ok : IfOk result (λ report. Acts stream p i k late control old (λ o. o ≡ Goes (record { world = seen stream p new; report = report })))
  pub after : IfOk result (λ report. IsAfter p i report new)
  pub stop : Acts stream p i k late control old (StopIs result)
