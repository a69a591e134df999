-- One execution: the inputs of a thread's first statement, its row, and what its control does with threads and world
-- (after scratch-vm, engine/execute.js and engine/sequencer.js).
use Rattle.std.specs.Prelude.{ℕ, ◌||◌, Bool, true, false, List, [], ◌∷◌, ◌++◌, Option, Some, None}
use Rattle.opcode_table.specs.declared.groups.Group.{Group}
use Rattle.opcode_table.specs.declared.groups.Group.TheVariants.{Motion, Looks, Data, Control as ControlGroup}
use Rattle.opcode_table.specs.Kinds.{group}
use Rattle.script_words.specs.declared.stops.CounterKind.TheVariants as counter
use Rattle.scratch_values.specs.Named.{Arguments}
use Rattle.machine_spec.specs.Outcome.{Outcome, Goes, then_do, with_number, with_room}
use Rattle.machine_spec.specs.Script.{Statement, Command, command_of, branch_of}
use Rattle.machine_spec.specs.Program.{Program, Procedure}
use Rattle.machine_spec.specs.Threads.{Params, Context, Fresh, Called, Started, CloneStart, Control, Next, Branch, Yield, YieldTick, Promise, Call, StopThis, StopOthers, StopAll, DeleteClone, Start, Clone}
use Rattle.machine_spec.specs.View.{View, Row}
use Rattle.machine_spec.specs.Parts.{MotionParts, LooksParts, DataParts}
use Rattle.machine_spec.specs.Evaluate.{evaluated}
use Rattle.machine_spec.specs.Motion.{motion_row}
use Rattle.machine_spec.specs.Looks.{looks_row}
use Rattle.machine_spec.specs.DataRows.{data_row}
use Rattle.machine_spec.specs.ControlRows.{control_row}
use Rattle.machine_spec.specs.Called.{called}
use Rattle.machine_spec.specs.Pending.{Item, Do, Held, Returned, Branch as BranchEnd, Again, Back, dos, Report, Yielded, Ticked, Waits, Ended, Position, gone, settle, unwind, kept, branch_marker, params_in, entered}
use Rattle.machine_spec.specs.Places.{place, running, on_running}
use Rattle.machine_spec.specs.Starting.{finished_of}
use Rattle.machine_spec.specs.Tasks.{Task, at_position, tasks, listed, levels, begin}
use Rattle.machine_spec.specs.Stopping.{scene_of, with_scene, questions_dropped, without_timers, is_clone, disposed, all_stopped, clone_added, placed_behind, has_no_room}
use Rattle.machine_spec.specs.World.{World}

-- Rows

-- the world after a row, and what the row says of its thread
pub record Applied : Type 0 where
  pub world : World Task
  pub context : Context
  pub control : Control

-- the parts of a row put into the world; a redraw that was requested stays so
abbrev pub applied : {P : Type 0} → (P → World Task) → World Task → Row P → Outcome Applied
applied into w x = Goes (record { world = record (into x.parts) { redraw = w.redraw || x.redraw }; context = x.context; control = x.control })

abbrev pub with_motion : World Task → MotionParts → World Task
with_motion w parts = record w { targets = parts.targets; words = parts.words }

abbrev pub with_looks : World Task → LooksParts → World Task
with_looks w parts = record (with_scene w parts.scene) { words = parts.words }

abbrev pub with_data : World Task → DataParts → World Task
with_data w parts = record w { variables = parts.variables; words = parts.words }

-- the row of a command, on the parts of the world that its group sees
abbrev pub row_by : Group → Program → Command → Arguments → (here thread : ℕ) → Context → World Task → Outcome Applied
row_by Motion p d a here thread c w =
    then_do (motion_row p.records w.devices d.op a here c (record { targets = w.targets; words = w.words })) (applied (with_motion w) w)
row_by Looks p d a here thread c w =
    then_do (looks_row p.records (listed w) d.op a here thread c (record { scene = scene_of w; words = w.words })) (applied (with_looks w) w)
row_by Data p d a here thread c w =
    then_do (data_row p.records w.targets d.op a here (record { variables = w.variables; words = w.words })) (applied (with_data w) w)
row_by ControlGroup p d a here thread c w =
    then_do (control_row p (listed w) d.op d.code a here thread c (scene_of w)) (applied (with_scene w) w)

abbrev pub row : Program → Command → Arguments → (here thread : ℕ) → Context → World Task → Outcome Applied
row p d a here thread c w = row_by (group d.op) p d a here thread c w

-- Controls

abbrev pub entered_some : Option Procedure → (late warp : Bool) → Statement → List Item → Params → Position
entered_some None late warp s r params = settle r warp
entered_some (Some q) late warp s r params = entered late warp s r q params

-- where a control leaves its own thread: s was executed at this warp flag and keeps c, and r follows it; what acts on other
-- threads too goes on with what follows
abbrev pub position : Program → (late warp : Bool) → Statement → List Item → Control → Context → Position
position p late warp s r Next c = settle r warp
position p late warp s r (Branch n is_loop) c = settle (dos (branch_of n s) ++ branch_marker is_loop s c warp ∷ r) warp
position p late warp s r Yield c = record { items = kept s c ∷ r; warp = warp; report = Yielded }
position p late warp s r YieldTick c = record { items = kept s c ∷ r; warp = warp; report = Ticked }
position p late warp s r Promise c = record { items = kept s c ∷ r; warp = warp; report = Waits }
position p late warp s r (Call definition params) c = entered_some (called p s) late warp s r params
position p late warp s r StopThis c = unwind r
position p late warp s r StopOthers c = settle r warp
position p late warp s r StopAll c = gone
position p late warp s r DeleteClone c = settle r warp
position p late warp s r (Start hats wait) c = settle r warp
position p late warp s r (Clone original) c = settle r warp

-- whether a control opens a level
abbrev pub opens_level : Control → Bool
opens_level (Branch n is_loop) = true
opens_level (Call definition params) = true
opens_level _ = false

-- the world after an execution, and what the running thread reports
pub record Moment (W : Type 0) : Type 0 where
  pub world : W
  pub report : Report

-- the running thread, wherever it is now, stands at this position
abbrev pub moved : ℕ → Position → World Task → Moment (World Task)
moved i x w = record { world = record w { threads = on_running (at_position x) i w.threads }; report = x.report }

-- the same, with room for one more level
abbrev pub moved_with_room : Bool → ℕ → Position → World Task → Outcome (Moment (World Task))
moved_with_room true i x w = with_room (levels w) (moved i x w)
moved_with_room false i x w = Goes (moved i x w)

-- hats were started: the statement goes on, or keeps the serials and yields where it waits for some
abbrev pub after_start : (wait : Bool) → List ℕ → Statement → Bool → List Item → Position
after_start true (n ∷ ns) s w r = record { items = Held s (Started (n ∷ ns)) ∷ r; warp = w; report = Yielded }
after_start true [] s w r = settle r w
after_start false serials s w r = settle r w

-- the other listed threads of the instance are done, and its questions dropped; i is the slot that is visited
abbrev pub others_stopped : (i of : ℕ) → World Task → Outcome (World Task)
others_stopped i n w =
    then_do (questions_dropped n (scene_of w)) (λ s. Goes (record (with_scene w s) { threads = finished_of tasks (Some (place i w.threads)) n w.threads }))

-- the clone is disposed of, its questions and timers dropped, its listed threads done
abbrev pub clone_deleted : ℕ → World Task → Outcome (World Task)
clone_deleted n w =
    then_do (questions_dropped n (scene_of (disposed n w))) (λ s. Goes (record (with_scene (disposed n w) (without_timers n s)) { threads = finished_of tasks None n w.threads }))

-- a clone is made, its hats start, and it is placed directly behind its original
abbrev pub cloned : Program → (i original : ℕ) → World Task → Outcome (World Task)
cloned p i original w =
    with_number counter.Instance w.next_instance
    (then_do (begin p (Some i) (CloneStart w.next_instance) (clone_added original w))
    (λ b. Goes (record b.world { targets = placed_behind w.next_instance original b.world.targets })))

abbrev pub cloned_unless : Bool → Program → (i original : ℕ) → World Task → Outcome (World Task)
cloned_unless true p i original w = Goes w
cloned_unless false p i original w = cloned p i original w

abbrev pub deleted_if : Bool → ℕ → Task → Position → World Task → Outcome (Moment (World Task))
deleted_if true i t x w = then_do (clone_deleted t.of w) (λ v. Goes (moved i gone v))
deleted_if false i t x w = Goes (moved i x w)

-- what a control does with the running thread t, whose statement s was executed and keeps c, and with all others; r follows s
abbrev pub act : Program → (i : ℕ) → (late : Bool) → Task → Statement → List Item → Control → Context → World Task → Outcome (Moment (World Task))
act p i late t s r StopOthers c w = then_do (others_stopped i t.of w) (λ v. Goes (moved i (settle r t.warp) v))
act p i late t s r StopAll c w = Goes (record { world = all_stopped p.records w; report = Ended })
act p i late t s r DeleteClone c w = deleted_if (is_clone p.records t.of) i t (settle r t.warp) w
act p i late t s r (Start hats wait) c w = then_do (begin p (Some i) hats w) (λ b. Goes (moved i (after_start wait b.serials s t.warp r) b.world))
act p i late t s r (Clone original) c w = then_do (cloned_unless (has_no_room p.records original w) p i original w) (λ v. Goes (moved i (settle r t.warp) v))
act p i late t s r control c w = moved_with_room (opens_level control) i (position p late t.warp s r control c) w

-- One execution

abbrev pub view_of : Program → Task → Params → World Task → View
view_of p t params w = record { records = p.records; targets = w.targets; variables = w.variables; devices = w.devices; here = t.of; params = params }

-- the inputs are evaluated, then the row applies, then its control acts
abbrev pub execute : Program → (i : ℕ) → (late : Bool) → Task → Statement → Context → Params → List Item → World Task → Outcome (Moment (World Task))
execute p i late t s c params r w =
    then_do (evaluated (view_of p t params w) s w.words)
    (λ d. then_do (row p (command_of s) d.value t.of t.serial c (record w { words = d.words }))
    (λ x. act p i late t s r x.control x.context x.world))

abbrev pub ended : World Task → Outcome (Moment (World Task))
ended w = Goes (record { world = w; report = Ended })

-- the first item is executed; there is none where a marker is first
abbrev pub execute_first : Program → (i : ℕ) → (late : Bool) → Task → List Item → World Task → Outcome (Moment (World Task))
execute_first p i late t (Do s ∷ r) w = execute p i late t s Fresh (params_in r) r w
execute_first p i late t (Held s c ∷ r) w = execute p i late t s c (params_in r) r w
execute_first p i late t (Returned s params ∷ r) w = execute p i late t s Called params r w
execute_first p i late t [] w = ended w
execute_first p i late t (BranchEnd s v ∷ r) w = ended w
execute_first p i late t (Again s c v ∷ r) w = ended w
execute_first p i late t (Back s params v ∷ r) w = ended w

abbrev pub step_by : Program → (i : ℕ) → (late : Bool) → Option Task → World Task → Outcome (Moment (World Task))
step_by p i late None w = ended w
step_by p i late (Some t) w = execute_first p i late t t.items w

-- one execution of the running thread; `late` says that warp time had passed before it
abbrev pub step : Program → (i : ℕ) → (late : Bool) → World Task → Outcome (Moment (World Task))
step p i late w = step_by p i late (running i w.threads) w
