-- What the threads of a world have still to do is within the limit: what they keep, and the constants of their statements.
use Rattle.std.proofs.Common.{ℕ, suc, Bool, true, false, not, ◌&&◌, if◌then◌else◌, List, [], ◌∷◌, ◌++◌, reverse, filter, Option, Some, None}
use Rattle.std.specs.Prelude.{◌==◌, IfSome, bytes_eq, slice_get, position}
use Rattle.std.specs.List.{list_any}
use Rattle.opcode_table.specs.declared.kinds.Kind.{Kind}
use Rattle.opcode_table.specs.declared.kinds.Kind.TheVariants.{Calls}
use Rattle.opcode_table.specs.Kinds.{kind, hat_kind}
use Rattle.script_words.specs.declared.stops.CounterKind.TheVariants as counter
use Rattle.machine_spec.specs.declared.instance.Instance.{Instance}
use Rattle.machine_spec.specs.declared.threads.Context.{Context}
use Rattle.machine_spec.specs.declared.threads.Context.TheVariants.{Fresh, Repeat, Wait, Glide, Started, Asked, Spoken, Called}
use Rattle.machine_spec.specs.declared.threads.Control.{Control}
use Rattle.machine_spec.specs.declared.threads.Control.TheVariants.{Next, Branch as Enter, Yield, YieldTick, Promise, Call, StopThis, StopOthers, StopAll, DeleteClone, Start, Clone}
use Rattle.machine_spec.specs.declared.threads.Filter.{Filter}
use Rattle.machine_spec.specs.declared.threads.Which.{Which}
use Rattle.machine_spec.specs.declared.threads.Which.TheVariants.{Slot, Detached}
use Rattle.machine_spec.specs.Outcome.{Outcome, IfGoes}
use Rattle.machine_spec.specs.Script.{Script, End, Then, Statement, Does, Branches, NoBranch, AndBranch, branch_named, branch_name, branch_of, inputs_of, command_of, place_of, op_of}
use Rattle.machine_spec.specs.Program.{Program, Procedure, Head, scripts_at}
use Rattle.machine_spec.specs.Threads.{Params}
use Rattle.machine_spec.specs.Called.{called, called_by}
use Rattle.machine_spec.specs.Pending.{Item, Do, Held, Returned, Branch, Again, Back, dos, Position, settle, unwind, kept, branch_marker, params_in}
use Rattle.machine_spec.specs.Places.{Places, at_place, put, put_some, on_place, place, running}
use Rattle.machine_spec.specs.Tasks.{Task, at_position, finish, tasks, Begun, begin_pairs, begin, behind_first, resumed_task, resumed}
use Rattle.machine_spec.specs.Starting.{Pair, Crowd, pairs_of, pairs, starts, meant, runs_at, replaced, replaced_at, appended, placed, joined, is_of, is_alive_of, new_thread, ignored_or_appended, start_by, start_one, start_all, restarts, is_spared, finished_from, finished_of}
use Rattle.machine_spec.specs.World.{World}
use Rattle.machine_spec.specs.Step.{entered_some, position as position_after, moved, after_start}
use Rattle.laws_of_threads.specs.Lists.{Each}
use Rattle.laws_of_threads.specs.Statements.{EachIn, EachUnder, EachInOne}
use Rattle.laws_of_threads.proofs.Numbers.{each_append, each_filter}
use Rattle.laws_of_threads.proofs.RowFits.{goes_then}
use Rattle.laws_of_threads.proofs.Calm.{number_goes}
use Rattle.laws_of_threads.proofs.Starts.{room_goes}
use Rattle.laws_of_turns.specs.Within.{IsContextWithin, AreParamsWithin, IsInstanceWithin, IsStoreWithin, AreInputsWithin, IsProgramWithin}
use Rattle.laws_of_turns.proofs.Lists.{if_has, found_has, got_has, each_set, each_last, each_over, each_flat_map, each_first_changed}
use Rattle.laws_of_turns.proofs.Rows.{IsControlWithin}

-- the constants of a statement, and of those under it
abbrev pub HasInputsWithin : Statement → Type 0
HasInputsWithin s = AreInputsWithin (inputs_of s)

abbrev pub RunsWithin : Statement → Type 0
RunsWithin s = HasInputsWithin s × EachUnder HasInputsWithin s

abbrev pub ScriptRuns : Script → Type 0
ScriptRuns t = EachIn HasInputsWithin t

abbrev pub ItemRuns : Item → Type 0
ItemRuns (Do s) = RunsWithin s
ItemRuns (Held s c) = RunsWithin s × IsContextWithin c
ItemRuns (Returned s params) = RunsWithin s × AreParamsWithin params
ItemRuns (Branch s warp) = Unit {0}
ItemRuns (Again s c warp) = RunsWithin s × IsContextWithin c
ItemRuns (Back s params warp) = RunsWithin s × AreParamsWithin params

abbrev pub ItemsRun : List Item → Type 0
ItemsRun items = Each ItemRuns items

abbrev pub TaskRuns : Task → Type 0
TaskRuns t = ItemsRun t.items

pub record CrewRuns (ts : Places Task) : Type 0 where
  pub listed : Each TaskRuns ts.list
  pub detached : IfSome ts.detached TaskRuns

-- a world whose numbers are within the limit, and so they are in all that its threads have still to do
pub record WorldRuns (w : World Task) : Type 0 where
  pub instances : Each IsInstanceWithin w.targets
  pub stores : Each IsStoreWithin w.variables.stores
  pub crew : CrewRuns w.threads

-- Scripts

pub dos_run : (t : Script) → ScriptRuns t → ItemsRun (dos t)
dos_run End h = tt
dos_run (Then s rest) h = ((h.0, h.1), dos_run rest h.2)

branch_run : (name : List ℕ) (bs : Branches) → EachInOne HasInputsWithin bs → ScriptRuns (branch_named name bs)
branch_run name NoBranch h = tt
branch_run name (AndBranch n b more) h = if_has ScriptRuns (bytes_eq n name) b (branch_named name more) h.0 (branch_run name more h.1)

branch_of_run : (n : ℕ) (s : Statement) → EachUnder HasInputsWithin s → ScriptRuns (branch_of n s)
branch_of_run n (Does place command inputs branches) h = branch_run (branch_name n) branches h

abbrev pub BodyRuns : Procedure → Type 0
BodyRuns q = ScriptRuns q.body

called_runs_by : (p : Program) → IsProgramWithin p → (k : Kind) (target : ℕ) (code : List ℕ) → IfSome (called_by k p target code) BodyRuns
called_runs_by p good Calls target code = found_has BodyRuns (λ q. bytes_eq q.code code) (scripts_at target p).procedures (good.statements.procedures target)
called_runs_by p good k target code = tt

pub called_runs : (p : Program) → IsProgramWithin p → (s : Statement) → IfSome (called p s) BodyRuns
called_runs p good s = called_runs_by p good (kind (op_of s)) (place_of s).target (command_of s).code

-- Positions

pub settle_runs : (r : List Item) (w : Bool) → ItemsRun r → ItemsRun (settle r w).items
settle_runs [] w h = tt
settle_runs (Do s ∷ r) w h = h
settle_runs (Held s c ∷ r) w h = h
settle_runs (Returned s ps ∷ r) w h = h
settle_runs (Branch s v ∷ r) w h = settle_runs r v h.1
settle_runs (Back s ps v ∷ r) w h = settle_runs r v h.1
settle_runs (Again s c v ∷ r) w h = h

unwind_runs : (r : List Item) → ItemsRun r → ItemsRun (unwind r).items
unwind_runs [] h = tt
unwind_runs (Do s ∷ r) h = unwind_runs r h.1
unwind_runs (Held s c ∷ r) h = unwind_runs r h.1
unwind_runs (Returned s ps ∷ r) h = unwind_runs r h.1
unwind_runs (Branch s v ∷ r) h = unwind_runs r h.1
unwind_runs (Again s c v ∷ r) h = unwind_runs r h.1
unwind_runs (Back s ps v ∷ r) h = h

kept_runs : (s : Statement) (c : Context) → RunsWithin s → IsContextWithin c → ItemRuns (kept s c)
kept_runs s Fresh g h = g
kept_runs s (Repeat n) g h = (g, h)
kept_runs s (Wait n) g h = (g, h)
kept_runs s (Glide n) g h = (g, h)
kept_runs s (Started n) g h = (g, h)
kept_runs s Asked g h = (g, h)
kept_runs s Spoken g h = (g, h)
kept_runs s Called g h = (g, h)

marker_runs : (is_loop : Bool) (s : Statement) (c : Context) (w : Bool) → RunsWithin s → IsContextWithin c → ItemRuns (branch_marker is_loop s c w)
marker_runs true s c w g h = (g, h)
marker_runs false s c w g h = tt

entered_runs : (o : Option Procedure) (late warp : Bool) (s : Statement) (r : List Item) (params : Params) → IfSome o BodyRuns → RunsWithin s → AreParamsWithin params → ItemsRun r → ItemsRun (entered_some o late warp s r params).items
entered_runs None late warp s r params b g k h = settle_runs r warp h
entered_runs (Some q) late warp s r params b g k h = each_append ItemRuns (dos q.body) (Back s params warp ∷ r) (dos_run q.body b) ((g, k), h)

pub position_runs : (p : Program) → IsProgramWithin p → (late warp : Bool) (s : Statement) (r : List Item) (control : Control) (c : Context) → RunsWithin s → IsControlWithin control → IsContextWithin c → ItemsRun r
    → ItemsRun (position_after p late warp s r control c).items
position_runs p good late warp s r Next c g k m h = settle_runs r warp h
position_runs p good late warp s r (Enter n is_loop) c g k m h = settle_runs (dos (branch_of n s) ++ branch_marker is_loop s c warp ∷ r) warp
    (each_append ItemRuns (dos (branch_of n s)) (branch_marker is_loop s c warp ∷ r) (dos_run (branch_of n s) (branch_of_run n s g.1)) (marker_runs is_loop s c warp g m, h))
position_runs p good late warp s r Yield c g k m h = (kept_runs s c g m, h)
position_runs p good late warp s r YieldTick c g k m h = (kept_runs s c g m, h)
position_runs p good late warp s r Promise c g k m h = (kept_runs s c g m, h)
position_runs p good late warp s r (Call definition params) c g k m h = entered_runs (called p s) late warp s r params (called_runs p good s) g k h
position_runs p good late warp s r StopThis c g k m h = unwind_runs r h
position_runs p good late warp s r StopOthers c g k m h = settle_runs r warp h
position_runs p good late warp s r StopAll c g k m h = tt
position_runs p good late warp s r DeleteClone c g k m h = settle_runs r warp h
position_runs p good late warp s r (Start hats wait) c g k m h = settle_runs r warp h
position_runs p good late warp s r (Clone original) c g k m h = settle_runs r warp h

pub started_runs : (wait : Bool) (serials : List ℕ) (s : Statement) (w : Bool) (r : List Item) → RunsWithin s → ItemsRun r → ItemsRun (after_start wait serials s w r).items
started_runs true (n ∷ ns) s w r g h = ((g, tt), h)
started_runs true [] s w r g h = settle_runs r w h
started_runs false serials s w r g h = settle_runs r w h

pub params_within : (r : List Item) → ItemsRun r → AreParamsWithin (params_in r)
params_within [] h = tt
params_within (Do s ∷ r) h = params_within r h.1
params_within (Held s c ∷ r) h = params_within r h.1
params_within (Returned s ps ∷ r) h = h.0.1
params_within (Branch s w ∷ r) h = params_within r h.1
params_within (Again s c w ∷ r) h = params_within r h.1
params_within (Back s ps w ∷ r) h = h.0.1

-- Threads in their places

abbrev pub KeepsTask : (Task → Task) → Type 0
KeepsTask f = (t : Task) → TaskRuns t → TaskRuns (f t)

pub at_place_runs : (which : Which) (ts : Places Task) → CrewRuns ts → IfSome (at_place which ts) TaskRuns
at_place_runs (Slot i) ts h = got_has TaskRuns ts.list i h.listed
at_place_runs Detached ts h = h.detached

put_runs : (which : Which) (t : Task) (ts : Places Task) → TaskRuns t → CrewRuns ts → CrewRuns (put which t ts)
put_runs (Slot i) t ts g h = record { listed = each_set TaskRuns ts.list i t h.listed g; detached = h.detached }
put_runs Detached t ts g h = record { listed = h.listed; detached = g }

put_some_runs : (o : Option Task) (f : Task → Task) (which : Which) (ts : Places Task) → KeepsTask f → IfSome o TaskRuns → CrewRuns ts → CrewRuns (put_some o f which ts)
put_some_runs None f which ts k g h = h
put_some_runs (Some t) f which ts k g h = put_runs which (f t) ts (k t g) h

pub on_place_runs : (f : Task → Task) (which : Which) (ts : Places Task) → KeepsTask f → CrewRuns ts → CrewRuns (on_place f which ts)
on_place_runs f which ts k h = put_some_runs (at_place which ts) f which ts k (at_place_runs which ts h) h

pub running_runs : (i : ℕ) (ts : Places Task) → CrewRuns ts → IfSome (running i ts) TaskRuns
running_runs i ts h = at_place_runs (place i ts) ts h

pub moved_runs : (i : ℕ) (x : Position) (w : World Task) → ItemsRun x.items → WorldRuns w → WorldRuns (moved i x w).world
moved_runs i x w g h = record { instances = h.instances; stores = h.stores; crew = on_place_runs (at_position x) (place i w.threads) w.threads (λ t k. g) h.crew }

finished_if : (b : Bool) (t : Task) → TaskRuns t → TaskRuns (if b then finish t else t)
finished_if true t h = tt
finished_if false t h = h

finished_from_runs : (spared : Option Which) (of j : ℕ) (ts : List Task) → Each TaskRuns ts → Each TaskRuns (finished_from tasks spared of j ts)
finished_from_runs spared of j [] h = tt
finished_from_runs spared of j (t ∷ ts) h = (finished_if (t.of == of && not (is_spared spared j)) t h.0, finished_from_runs spared of (suc j) ts h.1)

pub finished_runs : (spared : Option Which) (of : ℕ) (ts : Places Task) → CrewRuns ts → CrewRuns (finished_of tasks spared of ts)
finished_runs spared of ts h = record { listed = finished_from_runs spared of 0 ts.list h.listed; detached = h.detached }

behind_runs : (items : List Item) → ItemsRun items → ItemsRun (behind_first items)
behind_runs [] h = tt
behind_runs (x ∷ r) h = h.1

pub resumed_runs : (n : ℕ) (w : World Task) → WorldRuns w → WorldRuns (resumed n w)
resumed_runs n w h = record {
  instances = h.instances;
  stores = h.stores;
  crew = record {
    listed = each_first_changed TaskRuns resumed_task (λ t k. settle_runs (behind_first t.items) t.warp (behind_runs t.items k)) (λ t. t.serial == n) w.threads.list h.crew.listed;
    detached = h.crew.detached;
  };
}

-- Threads that are started

abbrev pub PairRuns : Pair → Type 0
PairRuns x = ScriptRuns x.head.script

abbrev pub HeadRuns : Head → Type 0
HeadRuns h = ScriptRuns h.script

pub pairs_run : (p : Program) → IsProgramWithin p → (test : Statement → Bool) (is : List Instance) → Each PairRuns (pairs p test is)
pairs_run p good test is = each_flat_map PairRuns (pairs_of p test) (reverse is)
    (λ i. each_over HeadRuns PairRuns (λ h. record { of = i.number; head = h }) (filter (λ h. test h.hat) (scripts_at i.of p).heads) (λ h k. k)
    (each_filter HeadRuns (λ h. test h.hat) (scripts_at i.of p).heads (good.statements.heads i.of)))

starts_run : (p : Program) → IsProgramWithin p → (f : Filter) (is : List Instance) → Each PairRuns (starts p f is)
starts_run p good f is = each_append PairRuns _ _ (pairs_run p good _ (meant f is)) (pairs_run p good _ (meant f is))

abbrev CrowdRuns : Crowd Task → Type 0
CrowdRuns c = CrewRuns c.threads

replaced_runs : (b : Bool) (j : ℕ) (old new : Task) (ts : Places Task) → TaskRuns old → TaskRuns new → CrewRuns ts → IfGoes (replaced tasks b j old new ts) CrewRuns
replaced_runs true j old new ts k g h = room_goes _ _ CrewRuns (record { listed = each_set TaskRuns ts.list j new h.listed g; detached = k })
replaced_runs false j old new ts k g h = room_goes _ _ CrewRuns (record { listed = each_set TaskRuns ts.list j new h.listed g; detached = h.detached })

replaced_at_runs : (b : Bool) (j : ℕ) (o : Option Task) (new : Task) (ts : Places Task) → IfSome o TaskRuns → TaskRuns new → CrewRuns ts → IfGoes (replaced_at tasks b j o new ts) CrewRuns
replaced_at_runs b j None new ts k g h = h
replaced_at_runs b j (Some old) new ts k g h = replaced_runs b j old new ts k g h

appended_runs : (new : Task) (ts : Places Task) → TaskRuns new → CrewRuns ts → IfGoes (appended tasks new ts) CrewRuns
appended_runs new ts g h = room_goes _ _ CrewRuns (record { listed = each_last TaskRuns ts.list new h.listed g; detached = h.detached })

placed_runs : (r o : Option ℕ) (new : Task) (ts : Places Task) → TaskRuns new → CrewRuns ts → IfGoes (placed tasks r o new ts) CrewRuns
placed_runs r None new ts g h = appended_runs new ts g h
placed_runs r (Some j) new ts g h = replaced_at_runs (runs_at r j ts.detached) j (slice_get ts.list j) new ts (got_has TaskRuns ts.list j h.listed) g h

joined_runs : (c : Crowd Task) (o : Outcome (Places Task)) → IfGoes o CrewRuns → IfGoes (joined c o) CrowdRuns
joined_runs c o h = number_goes counter.Thread c.next _ CrowdRuns (goes_then o _ CrewRuns CrowdRuns h (λ ts k. k))

new_runs : (x : Pair) (c : Crowd Task) → PairRuns x → TaskRuns (new_thread tasks x c)
new_runs x c h = dos_run x.head.script h

ignored_runs : (b : Bool) (x : Pair) (c : Crowd Task) → PairRuns x → CrowdRuns c → IfGoes (ignored_or_appended b tasks x c) CrowdRuns
ignored_runs true x c g h = h
ignored_runs false x c g h = joined_runs c _ (appended_runs (new_thread tasks x c) c.threads (new_runs x c g) h)

start_runs : (b : Bool) (r : Option ℕ) (x : Pair) (c : Crowd Task) → PairRuns x → CrowdRuns c → IfGoes (start_by b tasks r x c) CrowdRuns
start_runs true r x c g h = joined_runs c _ (placed_runs r (position (is_of tasks x) c.threads.list) (new_thread tasks x c) c.threads (new_runs x c g) h)
start_runs false r x c g h = ignored_runs (list_any (is_alive_of tasks x) c.threads.list) x c g h

all_run : (r : Option ℕ) (xs : List Pair) (c : Crowd Task) → Each PairRuns xs → CrowdRuns c → IfGoes (start_all tasks r xs c) CrowdRuns
all_run r [] c g h = h
all_run r (x ∷ xs) c g h = goes_then (start_one tasks r x c) _ CrowdRuns CrowdRuns (start_runs (restarts (hat_kind (op_of x.head.hat))) r x c g.0 h) (λ d k. all_run r xs d g.1 k)

abbrev pub BegunRuns : Begun → Type 0
BegunRuns b = WorldRuns b.world

pub begin_pairs_run : (r : Option ℕ) (xs : List Pair) (w : World Task) → Each PairRuns xs → WorldRuns w → IfGoes (begin_pairs r xs w) BegunRuns
begin_pairs_run r xs w g h = goes_then (start_all tasks r xs (record { threads = w.threads; next = w.next_thread; serials = [] })) _ CrowdRuns BegunRuns
    (all_run r xs (record { threads = w.threads; next = w.next_thread; serials = [] }) g h.crew)
    (λ c k. record { instances = h.instances; stores = h.stores; crew = k })

pub begin_runs : (p : Program) → IsProgramWithin p → (r : Option ℕ) (f : Filter) (w : World Task) → WorldRuns w → IfGoes (begin p r f w) BegunRuns
begin_runs p good r f w h = begin_pairs_run r (starts p f w.targets) w (starts_run p good f w.targets) h
