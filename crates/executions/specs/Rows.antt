-- The row of a block on a run; the contracts of private functions alone cite these.
use Rattle.std.specs.Prelude.{◌≡◌, ℕ, ◌==◌, ◌||◌, nat_lt, Bool, true, false, List, ◌++◌, length, map, Some, Result}
use Rattle.rand_core.specs.Stream.{Stream}
use Rattle.opcode_table.specs.Kinds.{kind}
use Rattle.opcode_table.specs.declared.opcode.Opcode.{Opcode}
use Rattle.block_arguments.specs.Afresh.{was_afresh}
use Rattle.scratch_values.specs.Named.{Arguments}
use Rattle.script_words.specs.declared.stops.Stop.{Stop}
use Rattle.machine_spec.specs.Keeping.{control_fits}
use Rattle.machine_spec.specs.Laws.{is_own}
use Rattle.machine_spec.specs.Outcome.{Outcome, Goes, then_do, StopIs}
use Rattle.machine_spec.specs.Script.{Script, Then, Statement, Command, command_of}
use Rattle.machine_spec.specs.declared.threads.Context.{Context}
use Rattle.machine_spec.specs.declared.threads.Context.TheVariants.{Fresh}
use Rattle.machine_spec.specs.declared.threads.Control.{Control}
use Rattle.machine_spec.specs.declared.threads.Control.TheVariants.{Clone}
use Rattle.machine_spec.specs.Pending.{Item, dos}
use Rattle.machine_spec.specs.Places.{Places, running}
use Rattle.machine_spec.specs.Step.{Moment, Applied, row, act}
use Rattle.machine_spec.specs.Tasks.{Task}
use Rattle.machine_spec.specs.World.{World}
use Rattle.cached_blocks.specs.declared.block.CachedBlock.{CachedBlock}
use Rattle.project_check.specs.declared.project.Project.{Project}
use Rattle.project_check.specs.Loaded.{program_of}
use Rattle.project_spec.specs.Trees.{script}
use Rattle.thread_frames.specs.Levels.{top_context, without_top}
use Rattle.thread_frames.specs.Reading.{beneath, task}
use Rattle.thread_frames.specs.Threads.{Thread, listed}
use Rattle.executions.specs.declared.state.State.{State}
use Rattle.variables.specs.Held.{HasNoStore}
use Rattle.targets.specs.Live.{HasOneEach}
use Rattle.executions.specs.Ready.{HasSameTargets}
use Rattle.executions.specs.Seen.{sheets, seen}

-- tasks in the place of the threads of a run
abbrev pub with_tasks : {R : Type 0} → (R → Stream) → Project → State R → Places Task → World Task
with_tasks stream p r ts = record (seen stream p r) { threads = ts }

-- a command that says what the block says, and tasks that are listed as the threads are
pub record IsOf {R : Type 0} (b : CachedBlock) (r : State R) (d : Command) (ts : Places Task) : Type 0 where
  pub op : d.op ≡ b.op
  pub code : d.code ≡ b.code
  pub listing : map (λ t. record { serial = t.serial; status = t.status }) ts.list ≡ listed r.threads

-- the row of such a command, whatever the threads have to do
abbrev pub row_on : {R : Type 0} → (R → Stream) → Project → Command → Arguments → (here thread : ℕ) → Context → State R → Places Task → Outcome Applied
row_on stream p d a here thread c r ts = row (program_of p) d a here thread c (with_tasks stream p r ts)

abbrev pub RowGoes : {R : Type 0} → (R → Stream) → Project → CachedBlock → Arguments → (here thread : ℕ) → Context → State R → Context → State R → Control → Type 0
RowGoes stream p b a here thread old_context old new_context new control =
    (d : Command) (ts : Places Task) → IsOf b old d ts
    → row_on stream p d a here thread old_context old ts ≡ Goes (record { world = with_tasks stream p new ts; context = new_context; control = control })

abbrev pub RowStops : {R T : Type 0} → (R → Stream) → Project → CachedBlock → Arguments → (here thread : ℕ) → Context → State R → Result T Stop → Type 0
RowStops stream p b a here thread c r result = (d : Command) (ts : Places Task) → IsOf b r d ts → StopIs result (row_on stream p d a here thread c r ts)

-- what a row leaves: the threads, the numbers that are given next, who is live and of which target, and who has no variables
pub record Leaves {R : Type 0} (old new : State R) : Type 0 where
  pub threads : new.threads ≡ old.threads
  pub next_thread : new.next_thread ≡ old.next_thread
  pub next_instance : new.next_instance ≡ old.next_instance
  pub targets : HasSameTargets old.targets new.targets
  pub one_each : HasOneEach old.targets → HasOneEach new.targets
  pub free : (n : ℕ) → HasNoStore n old.variables → HasNoStore n new.variables

-- where a control makes a clone it is one of the instance itself, or of one of so many originals
abbrev pub may_clone : (here originals : ℕ) → Control → Bool
may_clone here originals (Clone original) = original == here || nat_lt original originals
may_clone here originals _ = true

-- what the row of a block leaves to its control
pub record LeavesTo {R : Type 0} (p : Project) (op : Opcode) (here : ℕ) (old_context : Context) (old : State R) (new_context : Context) (new : State R) (control : Control) : Type 0 where
  -- the control is one that the block's kind can give, with what the block keeps
  pub fits : control_fits control (kind op) new_context ≡ true
  -- where it acts on others the block keeps nothing
  pub own : is_own control ≡ false → new_context ≡ Fresh
  -- nor had it kept anything
  pub afresh : is_own control ≡ false → was_afresh (kind op) old_context ≡ true
  -- where it makes a clone it is one of the instance or of an original
  pub clones : may_clone here (length (program_of p).records.targets) control ≡ true
  -- the rest of the run
  pub left : Leaves old new

-- the row of a thread's statement with these arguments, and what its control does
abbrev pub enacts : {R : Type 0} → (R → Stream) → Project → (i : ℕ) → (late : Bool) → Thread → Statement → List Item → Arguments → State R → Outcome (Moment (World Task))
enacts stream p i late t s r a w =
    then_do (row (program_of p) (command_of s) a t.of t.serial (top_context t.levels) (seen stream p w))
    (λ x. act (program_of p) i late (task (sheets p) t) s r x.control x.context x.world)

-- a fact of what the running thread does, whose top level holds block k
abbrev pub Enacts : {R : Type 0} → (R → Stream) → Project → (i k : ℕ) → (late : Bool) → Arguments → State R → (Outcome (Moment (World Task)) → Type 0) → Type 0
Enacts stream p i k late a w P =
    (t : Thread) (s : Statement) (rest : Script) → running i w.threads ≡ Some t → script (sheets p t.target) (Some k) ≡ Then s rest
    → P (enacts stream p i late t s (dos rest ++ beneath (sheets p t.target) (without_top t.levels)) a w)

-- a fact of what a control does with the running thread, whose top level holds block k and keeps nothing, and with all others
abbrev pub Acts : {R : Type 0} → (R → Stream) → Project → (i k : ℕ) → (late : Bool) → Control → State R → (Outcome (Moment (World Task)) → Type 0) → Type 0
Acts stream p i k late control w P =
    (t : Thread) (s : Statement) (rest : Script) → running i w.threads ≡ Some t → script (sheets p t.target) (Some k) ≡ Then s rest
    → P (act (program_of p) i late (task (sheets p) t) s (dos rest ++ beneath (sheets p t.target) (without_top t.levels)) control Fresh (seen stream p w))
