-- The threads of levels are seen as tasks, where they start and where they end.
use Rattle.std.proofs.Common.{◌≡◌, ℕ, ◌+◌, false, List, [], ◌∷◌, length, Option, Some, None, Err, refl, sym, ap, ◌∙◌}
use Rattle.std.specs.Prelude.{slice_get, All, IfSome}
use Rattle.std.proofs.lemmas.List.{append-nil}
use Rattle.std.proofs.lemmas.List.Elements.{All-nil, All-cons, All-head, All-tail}
use Rattle.script_words.specs.declared.stops.Stop.{Stop}
use Rattle.script_words.specs.declared.stops.Stop.TheVariants as stops
use Rattle.machine_spec.specs.Outcome.{Outcome, StopIs}
use Rattle.machine_spec.specs.Script.{Script, End, Then, Statement}
use Rattle.machine_spec.specs.Program.{hat_block}
use Rattle.machine_spec.specs.Pending.{Do, dos, markers}
use Rattle.machine_spec.specs.Places.{Places, Everyone}
use Rattle.machine_spec.specs.Starting.{Pair}
use Rattle.machine_spec.specs.Tasks.{depth, tasks}
use Rattle.machine_spec.specs.declared.instance.Instance.{Instance}
use Rattle.machine_spec.specs.declared.threads.Status.TheVariants.{Running}
use Rattle.project_spec.specs.declared.blocks.Block.{Block}
use Rattle.project_spec.specs.Linked.{AreRanks}
use Rattle.project_spec.specs.Trees.{Sheet, target_of_link, script, statement}
use Rattle.project_spec.proofs.Unrolling.{script-none, script-at}
use Rattle.thread_frames.specs.declared.level.Level.{Level}
use Rattle.thread_frames.specs.Levels.{new_level}
use Rattle.thread_frames.specs.Reading.{first_item, block_items, items_at, pending, task}
use Rattle.thread_frames.specs.Threads.{Thread, begins_with, frames, finish}
use Rattle.thread_frames.specs.Fit.{Fits}
use Rattle.project_check.specs.declared.project.Project.{Project}
use Rattle.project_check.specs.Loaded.{ranks_at}
use Rattle.project_check.proofs.Linked.{ranked_at}
use Rattle.hats.specs.Heads.{target_of, IsHeadOf}
use Rattle.executions.specs.Seen.{sheets}
use Rattle.executions.specs.Ready.{AllFit}
use Rattle.executions.proofs.Counted.{depth_is}
use Rattle.executions.proofs.Natural.{Sees, seen_out}
use Rattle.executions.proofs.Absent.{no_block}

-- the script of a block is to be done

items_by : (sheet : Sheet) (ranks : List ℕ) (l : Level) (k : ℕ) (b : Option Block) (t : Script) → AreRanks sheet.blocks ranks → slice_get sheet.blocks k ≡ b → ((s : Statement) → first_item l s ≡ Do s)
    → script sheet (Some k) ≡ t → block_items sheet (first_item l) k b ≡ dos t
items_by sheet ranks l k None t falls e f h = ap dos (sym (no_block sheet k e) ∙ h)
items_by sheet ranks l k (Some b) t falls e f h =
    let first = f (statement sheet k b) in
    ap (λ x. x ∷ dos (script sheet (target_of_link b.next))) first ∙ ap dos (sym (script-at sheet ranks falls k b e) ∙ h)

pub new_items : (sheet : Sheet) (ranks : List ℕ) (o : Option ℕ) (t : Script) → AreRanks sheet.blocks ranks → script sheet o ≡ t → pending sheet (new_level o false ∷ []) ≡ dos t
new_items sheet ranks None t falls h = ap dos (sym (script-none sheet) ∙ h)
new_items sheet ranks (Some k) t falls h =
    append-nil (items_at sheet (first_item (new_level (Some k) false)) (Some k)) ∙ items_by sheet ranks (new_level (Some k) false) k (slice_get sheet.blocks k) t falls refl (λ s. refl) h

module _ (p : Project) (is : List Instance) where
  begun_items : (x : Pair) → IsHeadOf p is x → pending (sheets p (target_of x)) (new_level (begins_with x.head.script) false ∷ []) ≡ dos x.head.script
  begun_items x h = new_items (sheets p (target_of x)) (ranks_at (target_of x) p) (begins_with x.head.script) x.head.script (ranked_at p (target_of x)) h.begins

  one_level : (t : Script) → markers (dos t) + 1 ≡ 1
  one_level End = refl
  one_level (Then s rest) = one_level rest

  -- a thread of levels is seen as a task
  pub sees : Sees (task (sheets p)) (IsHeadOf p is) frames tasks
  sees = record {
    of = λ t. refl;
    hat = λ t. refl;
    is_done = λ t. refl;
    finish = λ t. refl;
    finish_depth = λ t. refl;
    fresh = λ n x h. (λ i. record { serial = n; of = x.of; hat = hat_block x.head; status = Running; warp = false; items = begun_items x h i });
    fresh_depth = λ n x h. ap (λ l. markers l + 1) (begun_items x h) ∙ one_level x.head.script;
  }

-- threads that fit are seen with as many levels as they have

counted_list : (p : Project) (xs : List Thread) → All (Fits (sheets p)) xs → All (λ t. depth (task (sheets p) t) ≡ length t.levels) xs
counted_list p [] h = All-nil (λ t. depth (task (sheets p) t) ≡ length t.levels)
counted_list p (x ∷ xs) h =
    All-cons (λ t. depth (task (sheets p) t) ≡ length t.levels) x xs (depth_is p x (All-head (Fits (sheets p)) x xs h)) (counted_list p xs (All-tail (Fits (sheets p)) x xs h))

counted_some : (p : Project) (o : Option Thread) → IfSome o (Fits (sheets p)) → IfSome o (λ t. depth (task (sheets p) t) ≡ length t.levels)
counted_some p None h = tt
counted_some p (Some t) h = depth_is p t h

pub all_counted : (p : Project) (ts : Places Thread) → AllFit p ts → Everyone (λ t. depth (task (sheets p) t) ≡ length t.levels) ts
all_counted p ts h = record { listed = counted_list p ts.list h.all.listed; detached = counted_some p ts.detached h.all.detached }

-- a thread that is done fits
pub finish_fits : (p : Project) (t : Thread) → Fits (sheets p) (finish t)
finish_fits p t = record { done = λ e. refl; open_levels = λ e. absurd (cc e) }

-- a stop is seen as it is
pub seen_stop : (T U : Type 0) {A B : Type 0} (stop : Stop) (f : A → B) (o : Outcome A) → StopIs {T = T} (Err stop) o → StopIs {T = U} (Err stop) (seen_out f o)
seen_stop T U stops.Stack f o h = ap (seen_out f) h
seen_stop T U (stops.Text n) f o h = ap (seen_out f) h
seen_stop T U (stops.Counter which) f o h = ap (seen_out f) h
seen_stop T U stops.NoMemory f o h = tt
