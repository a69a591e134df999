-- The passes of a frame by one more pass.
use Rattle.std.proofs.Common.{◌≡◌, ℕ, zero, suc, ◌+◌, ◌-◌, ◌<◌, ◌≤◌, List, [], ◌∷◌, map, filter, Bool, true, false, None, Err, refl, sym, ap, ◌∙◌, subst, arith}
use Rattle.std.specs.Prelude.{if◌then◌else◌, not, ◌&&◌, ◌||◌}
use Rattle.std.specs.List.{All}
use Rattle.std.proofs.lemmas.List.Elements.{All-nil, All-head, All-tail, All-cons}
use Rattle.rand_core.specs.Stream.{Stream}
use Rattle.script_words.specs.declared.stops.Stop.{Stop}
use Rattle.machine_spec.specs.Threads.{is_done}
use Rattle.machine_spec.specs.Places.{Places, Everyone}
use Rattle.machine_spec.specs.Outcome.{Outcome, Goes, then_do, StopIs}
use Rattle.machine_spec.specs.Program.{Program}
use Rattle.machine_spec.specs.Slice as slices
use Rattle.machine_spec.specs.Slice.{go_on, pass, most_slices, Passed}
use Rattle.machine_spec.specs.Frame as machine
use Rattle.machine_spec.specs.Frame.{passes, is_empty}
use Rattle.machine_spec.specs.Tasks.{Task}
use Rattle.machine_spec.specs.World.{World}
use Rattle.thread_frames.specs.Fit.{Fits}
use Rattle.thread_frames.specs.Reading.{task}
use Rattle.thread_frames.specs.Threads.{Thread, without_done}
use Rattle.project_check.specs.declared.project.Project.{Project}
use Rattle.executions.specs.declared.state.State.{State}
use Rattle.executions.specs.Seen.{sheets, seen, seen_threads}
use Rattle.executions.proofs.Stops.{stop-then, stop-same}
use Rattle.executions.specs.Ready.{IsOfLive, IsKept}
use Rattle.executions.proofs.Keeping.{kept_threads}
use Rattle.executions.specs.Resting.{IsResting, IsIdle}
use Rattle.frames.specs.Turns.{passes_go_on}

empty_map : {A B : Type 0} (f : A → B) (xs : List A) → is_empty (map f xs) ≡ is_empty xs
empty_map f [] = refl
empty_map f (x ∷ xs) = refl

-- whether passes go on is seen
goes_seen : {R : Type 0} (stream : R → Stream) (p : Project) (s : State R) (active : Bool) → machine.passes_go_on active (seen stream p s) ≡ passes_go_on active s
goes_seen stream p s active = ap (λ b. not b && active && (s.devices.turbo || not s.redraw)) (empty_map (task (sheets p)) s.threads.list)

-- threads that are done are gone, and are seen so
filter_first : {A B : Type 0} (f : A → B) (b : Bool) (x : A) (ys : List B) (xs : List A) → ys ≡ map f xs → (if b then f x ∷ ys else ys) ≡ map f (if b then x ∷ xs else xs)
filter_first f true x ys xs e = ap (λ l. f x ∷ l) e
filter_first f false x ys xs e = e

filter_map : {A B : Type 0} (f : A → B) (keep : B → Bool) (keep' : A → Bool) → ((x : A) → keep (f x) ≡ keep' x) → (xs : List A) → filter keep (map f xs) ≡ map f (filter keep' xs)
filter_map f keep keep' same [] = refl
filter_map f keep keep' same (x ∷ xs) =
    ap (λ b. if b then f x ∷ filter keep (map f xs) else filter keep (map f xs)) (same x)
    ∙ filter_first f (keep' x) x (filter keep (map f xs)) (filter keep' xs) (filter_map f keep keep' same xs)

all_first : {A : Type 0} (P : A → Type 0) (b : Bool) (x : A) (xs : List A) → P x → All P xs → All P (if b then x ∷ xs else xs)
all_first P true x xs p h = All-cons P x xs p h
all_first P false x xs p h = h

all_filter : {A : Type 0} (P : A → Type 0) (keep : A → Bool) (xs : List A) → All P xs → All P (filter keep xs)
all_filter P keep [] h = h
all_filter P keep (x ∷ xs) h = all_first P (keep x) x (filter keep xs) (All-head P x xs h) (all_filter P keep xs (All-tail P x xs h))

alive_first : (b : Bool) (t : Thread) (ts : List Thread) → is_done t.status ≡ b → All (λ t. is_done t.status ≡ false) ts → All (λ t. is_done t.status ≡ false) (if not b then t ∷ ts else ts)
alive_first true t ts e h = h
alive_first false t ts e h = All-cons (λ t. is_done t.status ≡ false) t ts e h

all_alive : (ts : List Thread) → All (λ t. is_done t.status ≡ false) (filter (λ t. not (is_done t.status)) ts)
all_alive [] = All-nil (λ t. is_done t.status ≡ false)
all_alive (t ∷ ts) = alive_first (is_done t.status) t (filter (λ t. not (is_done t.status)) ts) refl (all_alive ts)

module _ {R : Type 0} (stream : R → Stream) (p : Project) (s : State R) (ts : Places Thread) (removed : ts ≡ without_done s.threads) where
  pub done_seen : slices.without_done (seen stream p s) ≡ seen stream p (record s { threads = ts })
  done_seen =
      ap (λ l. record (seen stream p s) { threads = record { list = l; detached = None } }) (filter_map (task (sheets p)) (λ t. not (is_done t.status)) (λ t. not (is_done t.status)) (λ t. refl) s.threads.list)
      ∙ ap (λ z. record (seen stream p s) { threads = seen_threads p z }) (sym removed)

  kept_list : (P : Thread → Type 0) → Everyone P s.threads → Everyone P ts
  kept_list P h = subst (Everyone P) (sym removed) (record { listed = all_filter P (λ t. not (is_done t.status)) s.threads.list h.listed; detached = tt })

  done_kept : IsKept p s → IsKept p (record s { threads = ts })
  done_kept h = kept_threads p s h ts (kept_list (Fits (sheets p)) h.threads.all) (kept_list (IsOfLive s.targets) h.living)

  pub done_idle : IsResting p s → IsIdle p (record s { threads = ts })
  done_idle h = record {
    resting = record { kept = done_kept h.kept; alone = ap (λ z. z.detached) removed };
    alive = subst (λ z. All (λ t. is_done t.status ≡ false) z.list) (sym removed) (all_alive s.threads.list);
  }

module _ (q : Program) (budget : ℕ) where
  passes-none : (first active : Bool) (w : World Task) → passes q budget zero first active w ≡ Goes w
  unfolding passes
  passes-none first active w = refl

  abbrev next : (n : ℕ) → Passed → Outcome (World Task)
  next n x = passes q budget n false x.active (slices.without_done x.world)

  passes-more : (n : ℕ) (first active : Bool) (w : World Task) → passes q budget (suc n) first active w ≡ go_on (machine.passes_go_on active w) (λ v. then_do (pass q first budget most_slices 0 v false) (next n)) (λ v. Goes v) w
  unfolding passes
  passes-more n first active w = refl

  module _ (n made : ℕ) (all : Outcome (World Task)) (first active : Bool) (w : World Task) (same : all ≡ passes q budget (n - made) first active w) where
    -- the last pass was made
    pub passes-over : n ≤ made → all ≡ Goes w
    passes-over le =
        let none : n - made ≡ 0 = omega arith in
        same ∙ ap (λ k. passes q budget k first active w) none ∙ passes-none first active w

    module _ (lt : made < n) (goes : Bool) (goes_is : goes ≡ machine.passes_go_on active w) where
      here : all ≡ go_on goes (λ v. then_do (pass q first budget most_slices 0 v false) (next (n - (made + 1)))) (λ v. Goes v) w
      here =
          let one : n - made ≡ suc (n - (made + 1)) = omega arith in
          same ∙ ap (λ k. passes q budget k first active w) one ∙ passes-more (n - (made + 1)) first active w
          ∙ ap (λ b. go_on b (λ v. then_do (pass q first budget most_slices 0 v false) (next (n - (made + 1)))) (λ v. Goes v) w) (sym goes_is)

      -- no more passes
      pub passes-off : goes ≡ false → all ≡ Goes w
      passes-off e = here ∙ ap (λ b. go_on b (λ v. then_do (pass q first budget most_slices 0 v false) (next (n - (made + 1)))) (λ v. Goes v) w) e

      module _ (e : goes ≡ true) where
        one_more : all ≡ then_do (pass q first budget most_slices 0 w false) (next (n - (made + 1)))
        one_more = here ∙ ap (λ b. go_on b (λ v. then_do (pass q first budget most_slices 0 v false) (next (n - (made + 1)))) (λ v. Goes v) w) e

        pub passes-on : (mid new : World Task) (active' : Bool) → pass q first budget most_slices 0 w false ≡ Goes (record { world = mid; active = active' }) → slices.without_done mid ≡ new → all ≡ passes q budget (n - (made + 1)) false active' new
        passes-on mid new active' passed e' =
            one_more ∙ ap (λ o. then_do o (next (n - (made + 1)))) passed ∙ ap (λ v. passes q budget (n - (made + 1)) false active' v) e'

        pub passes-stop : (T U : Type 0) (stop : Stop) → StopIs {T = T} (Err stop) (pass q first budget most_slices 0 w false) → StopIs {T = U} (Err stop) all
        passes-stop T U stop h = stop-same U U stop _ all one_more (stop-then T U stop _ (next (n - (made + 1))) h)

-- whether they go on, as the code tells it
pub goes_is : {R : Type 0} (stream : R → Stream) (p : Project) (s : State R) (active b : Bool) → b ≡ passes_go_on active s → b ≡ machine.passes_go_on active (seen stream p s)
goes_is stream p s active b e = e ∙ sym (goes_seen stream p s active)
