-- Blocks that choose where their thread goes keep nothing, and their rows change nothing.
use Rattle.std.proofs.Common.{◌≡◌, ℕ, Bool, true, false, [], ◌∷◌, Some, Err, refl, ap, ◌∙◌, subst, sym}
use Rattle.std.specs.Prelude.{◌||◌, ◌&&◌, codes, nat_lt, not, if◌then◌else◌}
use Rattle.rand_core.specs.Stream.{Stream}
use Rattle.opcode_table.specs.declared.kinds.Kind.TheVariants.{Endless, Plain}
use Rattle.opcode_table.specs.declared.kinds.Kind.TheVariants as kinds
use Rattle.opcode_table.specs.declared.opcode.Opcode.{Opcode}
use Rattle.opcode_table.specs.declared.opcode.Opcode.TheVariants.{ControlForever, ControlRepeatUntil, ControlIf, ControlIfElse}
use Rattle.opcode_table.specs.Kinds.{kind}
use Rattle.scratch_values.specs.Named.{Arguments}
use Rattle.script_words.specs.declared.stops.Stop.{Stop}
use Rattle.machine_spec.specs.Keeping.{has_branches, under_fits}
use Rattle.machine_spec.specs.Laws.{is_own}
use Rattle.machine_spec.specs.ControlRows.{branch_if}
use Rattle.machine_spec.specs.Outcome.{Outcome, Goes, Full, StopIs, most_levels, with_room}
use Rattle.machine_spec.specs.Script.{Command}
use Rattle.machine_spec.specs.Step.{Applied, row}
use Rattle.machine_spec.specs.View.{truth_at}
use Rattle.machine_spec.specs.declared.threads.Context.{Context}
use Rattle.machine_spec.specs.declared.threads.Context.TheVariants.{Fresh, Started}
use Rattle.machine_spec.specs.declared.threads.Control.{Control}
use Rattle.machine_spec.specs.declared.threads.Control.TheVariants.{Branch}
use Rattle.machine_spec.specs.Places.{Places}
use Rattle.machine_spec.specs.Tasks.{Task}
use Rattle.project_check.specs.declared.project.Project.{Project}
use Rattle.project_check.specs.Loaded.{program_of}
use Rattle.cached_blocks.specs.declared.block.CachedBlock.{CachedBlock}
use Rattle.executions.specs.declared.state.State.{State}
use Rattle.executions.specs.Choices.{chosen, KeepsNothing}
use Rattle.thread_frames.specs.Stops.{PushStopIs}
use Rattle.thread_frames.specs.declared.stops.PushStop.{PushStop}
use Rattle.thread_frames.specs.declared.stops.PushStop.TheVariants as push
use Rattle.executions.specs.Room.{room_for, stops_as}
use Rattle.executions.specs.Rows.{RowGoes, Leaves, with_tasks}

pub plain_keeps : KeepsNothing Plain
plain_keeps Fresh m h = refl
plain_keeps (Started []) true h = absurd (cc h)
plain_keeps (Started []) false h = absurd (cc h)
plain_keeps (Started (x ∷ xs)) true h = absurd (cc h)
plain_keeps (Started (x ∷ xs)) false h = absurd (cc h)
plain_keeps c true h = absurd (cc h)
plain_keeps c false h = absurd (cc h)

pub choice_keeps : KeepsNothing kinds.Choice
choice_keeps Fresh m h = refl
choice_keeps (Started []) true h = absurd (cc h)
choice_keeps (Started []) false h = absurd (cc h)
choice_keeps (Started (x ∷ xs)) true h = absurd (cc h)
choice_keeps (Started (x ∷ xs)) false h = absurd (cc h)
choice_keeps c true h = absurd (cc h)
choice_keeps c false h = absurd (cc h)

pub endless_keeps : KeepsNothing Endless
endless_keeps Fresh m h = refl
endless_keeps (Started []) true h = absurd (cc h)
endless_keeps (Started []) false h = absurd (cc h)
endless_keeps (Started (x ∷ xs)) true h = absurd (cc h)
endless_keeps (Started (x ∷ xs)) false h = absurd (cc h)
endless_keeps c true h = absurd (cc h)
endless_keeps c false h = absurd (cc h)

pub chosen_keeps : (op : Opcode) (a : Arguments) (c : Control) → chosen op a ≡ Some c → KeepsNothing (kind op)
chosen_keeps ControlForever a c h = endless_keeps
chosen_keeps ControlRepeatUntil a c h = endless_keeps
chosen_keeps ControlIf a c h = choice_keeps
chosen_keeps ControlIfElse a c h = choice_keeps
chosen_keeps op a c h = absurd (cc h)

same : {A : Type 0} (x y : A) → Some x ≡ Some y → x ≡ y
same x y h = cc h

if_own : (b l : Bool) → is_own (branch_if b l) ≡ true
if_own true l = refl
if_own false l = refl

-- the controls of the blocks with a condition
abbrev until : Arguments → Control
until a = branch_if (not (truth_at (codes "CONDITION") a)) true

abbrev if_so : Arguments → Control
if_so a = branch_if (truth_at (codes "CONDITION") a) false

abbrev either_way : Arguments → Control
either_way a = Branch (if truth_at (codes "CONDITION") a then 1 else 2) false

pub chosen_own : (op : Opcode) (a : Arguments) (c : Control) → chosen op a ≡ Some c → is_own c ≡ true
chosen_own ControlForever a c h = subst (λ o. is_own o ≡ true) (same (Branch 1 true) c h) refl
chosen_own ControlRepeatUntil a c h = subst (λ o. is_own o ≡ true) (same (until a) c h) (if_own (not (truth_at (codes "CONDITION") a)) true)
chosen_own ControlIf a c h = subst (λ o. is_own o ≡ true) (same (if_so a) c h) (if_own (truth_at (codes "CONDITION") a) false)
chosen_own ControlIfElse a c h = subst (λ o. is_own o ≡ true) (same (either_way a) c h) refl
chosen_own op a c h = absurd (cc h)

-- a branch that is entered fits the block
branch_by : (b l m : Bool) (n : ℕ) → branch_if b l ≡ Branch n m → l ≡ m
branch_by true l m n h = cc h
branch_by false l m n h = absurd (cc h)

mark_of : (n k : ℕ) (l m : Bool) → Branch n l ≡ Branch k m → l ≡ m
mark_of n k l m h = cc h

pub chosen_fits : (op : Opcode) (a : Arguments) (n : ℕ) (m : Bool) → chosen op a ≡ Some (Branch n m) → (has_branches (kind op) && under_fits Fresh m (kind op)) ≡ true
chosen_fits ControlForever a n m h = subst (λ x. under_fits Fresh x Endless ≡ true) (mark_of 1 n true m (same (Branch 1 true) (Branch n m) h)) refl
chosen_fits ControlRepeatUntil a n m h = subst (λ x. under_fits Fresh x Endless ≡ true) (branch_by (not (truth_at (codes "CONDITION") a)) true m n (same (until a) (Branch n m) h)) refl
chosen_fits ControlIf a n m h = subst (λ x. under_fits Fresh x kinds.Choice ≡ true) (branch_by (truth_at (codes "CONDITION") a) false m n (same (if_so a) (Branch n m) h)) refl
chosen_fits ControlIfElse a n m h = subst (λ x. under_fits Fresh x kinds.Choice ≡ true) (mark_of (if truth_at (codes "CONDITION") a then 1 else 2) n false m (same (either_way a) (Branch n m) h)) refl
chosen_fits op a n m h = absurd (cc h)

-- no redraw is requested
none_requested : (b : Bool) → (b || false) ≡ b
none_requested true = refl
none_requested false = refl

-- what such a row gives
abbrev going : {R : Type 0} → (R → Stream) → Project → State R → Places Task → (redraw : Bool) → Control → Outcome Applied
going stream p s ts redraw c = Goes (record { world = record (with_tasks stream p s ts) { redraw = redraw }; context = Fresh; control = c })

gives : {R : Type 0} (stream : R → Stream) (p : Project) (s : State R) (ts : Places Task) (x control : Control) → Some x ≡ Some control → going stream p s ts (s.redraw || false) x ≡ Goes (record { world = with_tasks stream p s ts; context = Fresh; control = control })
gives stream p s ts x control h = (λ j. going stream p s ts (none_requested s.redraw j) x) ∙ ap (going stream p s ts s.redraw) (same x control h)

row_is : {R : Type 0} (stream : R → Stream) (p : Project) (o : Opcode) (d : Command) (a : Arguments) (here thread : ℕ) (c : Context) (s : State R) (ts : Places Task) (control : Control) → d.op ≡ o → chosen o a ≡ Some control
    → row (program_of p) d a here thread c (with_tasks stream p s ts) ≡ Goes (record { world = with_tasks stream p s ts; context = Fresh; control = control })
row_is stream p ControlForever d a here thread c s ts control e h = rw e (gives stream p s ts (Branch 1 true) control h)
row_is stream p ControlRepeatUntil d a here thread c s ts control e h = rw e (gives stream p s ts (until a) control h)
row_is stream p ControlIf d a here thread c s ts control e h = rw e (gives stream p s ts (if_so a) control h)
row_is stream p ControlIfElse d a here thread c s ts control e h = rw e (gives stream p s ts (either_way a) control h)
row_is stream p o d a here thread c s ts control e h = absurd (cc h)

pub chosen_goes : {R : Type 0} (stream : R → Stream) (p : Project) (b : CachedBlock) (a : Arguments) (here thread : ℕ) (c : Context) (s : State R) (control : Control) → chosen b.op a ≡ Some control → RowGoes stream p b a here thread c s Fresh s control
chosen_goes stream p b a here thread c s control h d ts is = row_is stream p b.op d a here thread c s ts control is.op h

-- a row that changes nothing leaves what rows leave
pub leaves_all : {R : Type 0} (s : State R) → Leaves s s
leaves_all s = record { threads = refl; next_thread = refl; next_instance = refl; targets = λ n. refl; one_each = λ h. h; free = λ n h. h }

-- a stop for want of room, whatever would be made with room
full_as : {A : Type 0} (b : Bool) (x : A) → (if b then Goes x else Full) ≡ Full → (if b then Goes (tt {0}) else Full) ≡ Full
full_as true x h = absurd (cc h)
full_as false x h = refl

-- a stop of a level that was not opened is a stop of the run
pub push_stop : (T U : Type 0) {A : Type 0} (e : PushStop) (s : Stop) (o : Outcome A) → stops_as e s → PushStopIs {T = T} (Err e) o → StopIs {T = U} (Err s) o
push_stop T U push.Full s o is h = subst (λ x. StopIs {T = U} (Err x) o) (sym is) h
push_stop T U push.NoMemory s o is h = subst (λ x. StopIs {T = U} (Err x) o) (sym is) tt

pub room_stop : (T U : Type 0) {A : Type 0} (e : PushStop) (s : Stop) (n : ℕ) (x : A) → stops_as e s → PushStopIs {T = T} (Err e) (with_room n x) → StopIs {T = U} (Err s) (room_for true n)
room_stop T U push.Full s n x is h = subst (λ y. StopIs {T = U} (Err y) (room_for true n)) (sym is) (full_as (nat_lt n most_levels) x h)
room_stop T U push.NoMemory s n x is h = subst (λ y. StopIs {T = U} (Err y) (room_for true n)) (sym is) tt
