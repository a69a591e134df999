-- How many levels are open.
use Rattle.std.proofs.Common.{◌≡◌, ℕ, zero, suc, ◌+◌, ◌==◌, Bool, true, false, not, ◌&&◌, if◌then◌else◌, List, [], ◌∷◌, ◌++◌, filter, cond, Option, Some, None, refl, sym, ap, ◌∙◌, subst, arith}
use Rattle.std.specs.Prelude.{◌<◌, ◌≤◌, nat_lt, slice_get, slice_set}
use Rattle.std.specs.List.{fold}
use Rattle.std.proofs.lemmas.Bool.Decides.{Decides-ltb}
use Rattle.machine_spec.specs.declared.threads.Context.{Context}
use Rattle.machine_spec.specs.declared.threads.Context.TheVariants.{Fresh, Repeat, Wait, Glide, Started, Asked, Spoken, Called}
use Rattle.machine_spec.specs.declared.threads.Which.{Which}
use Rattle.machine_spec.specs.declared.threads.Which.TheVariants.{Slot}
use Rattle.machine_spec.specs.Outcome.{Goes, Full, IfGoes, with_room, most_levels}
use Rattle.machine_spec.specs.Script.{Script, End, Then, Statement}
use Rattle.machine_spec.specs.Pending.{Item, Do, Held, Returned, Branch, Again, Back, dos, settle, unwind, kept, branch_marker, markers, Position}
use Rattle.machine_spec.specs.declared.threads.Report.TheVariants.{Go, Yielded}
use Rattle.machine_spec.specs.declared.threads.Status.{Status}
use Rattle.machine_spec.specs.declared.threads.Status.TheVariants.{Running, YieldTick as Ticking, PromiseWait as Waiting, Done}
use Rattle.machine_spec.specs.Legal.{StatusFits}
use Rattle.machine_spec.specs.Program.{Head}
use Rattle.machine_spec.specs.Places.{Places, on_place, put_some, running, on_running, sum_some}
use Rattle.machine_spec.specs.Starting.{is_spared, finished_from, open_levels}
use Rattle.machine_spec.specs.Tasks.{Task, fresh, tasks, depth, finish, at_position, status_after}
use Rattle.machine_spec.specs.Threads.{is_done}
use Rattle.machine_spec.specs.Step.{after_start}

abbrev pub depths : List Task → ℕ
depths [] = 0
depths (t ∷ ts) = depth t + depths ts

abbrev pub all_depths : Places Task → ℕ
all_depths ts = depths ts.list + sum_some depth ts.detached

fold_depths : (n : ℕ) (ts : List Task) → fold (λ a x. a + depth x) n ts ≡ n + depths ts
fold_depths n [] = omega arith
fold_depths n (t ∷ ts) = let e = fold_depths (n + depth t) ts in e ∙ (omega arith)

pub levels_are : (ts : Places Task) → open_levels tasks ts ≡ all_depths ts
levels_are ts = let e = fold_depths 0 ts.list in let z : 0 + depths ts.list ≡ depths ts.list = omega arith in ap (λ n. n + sum_some depth ts.detached) (e ∙ z)

same_some : (a b : Task) → Some a ≡ Some b → a ≡ b
same_some a b h = cc

pub depths_set : (ts : List Task) (j : ℕ) (t y : Task) → slice_get ts j ≡ Some t → depths (slice_set ts j y) + depth t ≡ depths ts + depth y
depths_set [] j t y e = absurd (cc e)
depths_set (x ∷ ts) zero t y e = let s = ap depth (same_some x t e) in omega (arith, s)
depths_set (x ∷ ts) (suc j) t y e = let s = depths_set ts j t y e in omega (arith, s)

pub depths_last : (ts : List Task) (y : Task) → depths (ts ++ y ∷ []) ≡ depths ts + depth y
depths_last [] y = omega arith
depths_last (t ∷ ts) y = let s = depths_last ts y in omega (arith, s)

moved_by : (i : ℕ) (list : List Task) (o : Option Task) (t : Task) (f : Task → Task) → running i (record { list = list; detached = o }) ≡ Some t
    → all_depths (on_running f i (record { list = list; detached = o })) + depth t ≡ all_depths (record { list = list; detached = o }) + depth (f t)
moved_by i list None t f e = subst (λ m. all_depths (put_some m f (Slot i) (record { list = list; detached = None })) + depth t ≡ all_depths (record { list = list; detached = None }) + depth (f t)) (sym e)
    (let s = depths_set list i t (f t) e in omega (arith, s))
moved_by i list (Some u) t f e = subst (λ z. depths list + depth (f u) + depth z ≡ depths list + depth u + depth (f z)) (same_some u t e) (omega arith)

pub all_moved : (i : ℕ) (ts : Places Task) (t : Task) (f : Task → Task) → running i ts ≡ Some t → all_depths (on_running f i ts) + depth t ≡ all_depths ts + depth (f t)
all_moved i ts t f e = moved_by i ts.list ts.detached t f e

-- Fewer threads

finish_by : (c : Bool) (t : Task) → depth (if c then finish t else t) ≤ depth t
finish_by true t = omega arith
finish_by false t = omega arith

pub depths_ended : (spared : Option Which) (n j : ℕ) (ts : List Task) → depths (finished_from tasks spared n j ts) ≤ depths ts
depths_ended spared n j [] = omega arith
depths_ended spared n j (t ∷ ts) = let a = finish_by (t.of == n && not (is_spared spared j)) t in let b = depths_ended spared n (suc j) ts in omega (arith, a, b)

filter_by : (c : Bool) (t : Task) (us ts : List Task) → depths us ≤ depths ts → depths (cond c (t ∷ us) us) ≤ depth t + depths ts
filter_by true t us ts h = omega (arith, h)
filter_by false t us ts h = omega (arith, h)

pub depths_filter : (test : Task → Bool) (ts : List Task) → depths (filter test ts) ≤ depths ts
depths_filter test [] = omega arith
depths_filter test (t ∷ ts) = filter_by (test t) t (filter test ts) ts (depths_filter test ts)

-- Room for one more

room_by : {A : Type 0} (b : Bool) (n : ℕ) (x : A) (P : A → Type 0) → nat_lt n most_levels ≡ b → (n < most_levels → P x) → IfGoes (if b then Goes x else Full) P
room_by true n x P e h = h ((Decides-ltb n most_levels).0 e)
room_by false n x P e h = tt

pub room_if : {A : Type 0} (n : ℕ) (x : A) (P : A → Type 0) → (n < most_levels → P x) → IfGoes (with_room n x) P
room_if n x P h = room_by (nat_lt n most_levels) n x P refl h

-- What a position holds

abbrev pub held : Position → ℕ
held x = if is_done (status_after x.report) then 0 else markers x.items + 1

pub held_depth : (x : Position) (t : Task) → depth (at_position x t) ≡ held x
held_depth x t = refl

pub settle_held : (r : List Item) (w : Bool) → held (settle r w) ≤ markers r + 1
settle_held [] w = omega arith
settle_held (Do s ∷ r) w = omega arith
settle_held (Held s c ∷ r) w = omega arith
settle_held (Returned s ps ∷ r) w = omega arith
settle_held (Branch s v ∷ r) w = let a = settle_held r v in omega (arith, a)
settle_held (Back s ps v ∷ r) w = let a = settle_held r v in omega (arith, a)
settle_held (Again s c v ∷ r) w = omega arith

pub unwind_held : (r : List Item) → held (unwind r) ≤ markers r + 1
unwind_held [] = omega arith
unwind_held (Do s ∷ r) = unwind_held r
unwind_held (Held s c ∷ r) = unwind_held r
unwind_held (Returned s ps ∷ r) = unwind_held r
unwind_held (Branch s v ∷ r) = let a = unwind_held r in omega (arith, a)
unwind_held (Again s c v ∷ r) = let a = unwind_held r in omega (arith, a)
unwind_held (Back s ps v ∷ r) = omega arith

pub kept_markers : (s : Statement) (c : Context) (r : List Item) → markers (kept s c ∷ r) ≡ markers r
kept_markers s Fresh r = refl
kept_markers s (Repeat n) r = refl
kept_markers s (Wait d) r = refl
kept_markers s (Glide d) r = refl
kept_markers s (Started n) r = refl
kept_markers s Asked r = refl
kept_markers s Spoken r = refl
kept_markers s Called r = refl

pub dos_markers : (t : Script) (r : List Item) → markers (dos t ++ r) ≡ markers r
dos_markers End r = refl
dos_markers (Then s rest) r = dos_markers rest r

pub marker_markers : (b : Bool) (s : Statement) (c : Context) (w : Bool) (r : List Item) → markers (branch_marker b s c w ∷ r) ≡ markers r + 1
marker_markers true s c w r = refl
marker_markers false s c w r = refl

pub started_held : (wait : Bool) (ns : List ℕ) (s : Statement) (w : Bool) (r : List Item) → held (after_start wait ns s w r) ≤ markers r + 1
started_held true [] s w r = settle_held r w
started_held true (n ∷ ns) s w r = omega arith
started_held false ns s w r = settle_held r w

-- a new thread has one level
pub fresh_markers : (t : Script) → markers (dos t) ≡ 0
fresh_markers End = refl
fresh_markers (Then s rest) = fresh_markers rest

slot_by : (list : List Task) (o : Option Task) (j : ℕ) (old : Task) (f : Task → Task) → slice_get list j ≡ Some old
    → all_depths (on_place f (Slot j) (record { list = list; detached = o })) + depth old ≡ all_depths (record { list = list; detached = o }) + depth (f old)
slot_by list o j old f e = subst (λ m. all_depths (put_some m f (Slot j) (record { list = list; detached = o })) + depth old ≡ all_depths (record { list = list; detached = o }) + depth (f old)) (sym e)
    (let s = depths_set list j old (f old) e in omega (arith, s))

pub all_slot : (ts : Places Task) (j : ℕ) (old : Task) (f : Task → Task) → slice_get ts.list j ≡ Some old → all_depths (on_place f (Slot j) ts) + depth old ≡ all_depths ts + depth (f old)
all_slot ts j old f e = slot_by ts.list ts.detached j old f e

pub one_level : (n of : ℕ) (head : Head) → depth (fresh n of head) ≡ 1
one_level n of head = ap (λ m. m + 1) (fresh_markers head.script)

pub called_held : (b : Bool) (items : List Item) (w : Bool) → held (record { items = items; warp = w; report = if b then Yielded else Go }) ≤ markers items + 1
called_held true items w = omega arith
called_held false items w = omega arith

status_deep : (s : Status) (items : List Item) (x : Item) (r : List Item) → StatusFits s items → items ≡ x ∷ r → (if is_done s then 0 else markers items + 1) ≡ markers (x ∷ r) + 1
status_deep Running items x r h e = ap (λ l. markers l + 1) e
status_deep Ticking items x r h e = ap (λ l. markers l + 1) e
status_deep Waiting items x r h e = ap (λ l. markers l + 1) e
status_deep Done items x r h e = absurd (let f : [] ≡ x ∷ r = sym h ∙ e in cc f)

pub deep : (t : Task) (x : Item) (r : List Item) → StatusFits t.status t.items → t.items ≡ x ∷ r → depth t ≡ markers (x ∷ r) + 1
deep t x r h e = status_deep t.status t.items x r h e

pub settle_markers : (r : List Item) (w : Bool) → markers (settle r w).items ≤ markers r
settle_markers [] w = omega arith
settle_markers (Do s ∷ r) w = omega arith
settle_markers (Held s c ∷ r) w = omega arith
settle_markers (Returned s ps ∷ r) w = omega arith
settle_markers (Branch s v ∷ r) w = let a = settle_markers r v in omega (arith, a)
settle_markers (Back s ps v ∷ r) w = let a = settle_markers r v in omega (arith, a)
settle_markers (Again s c v ∷ r) w = omega arith
