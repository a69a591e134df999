-- The place of the next slice, and a pass by one more slice.
use Rattle.std.proofs.Common.{◌≡◌, ℕ, zero, suc, ◌+◌, ◌-◌, ◌<◌, ◌≤◌, List, [], ◌∷◌, length, map, drop, Bool, true, false, Option, Some, None, Err, refl, sym, ap, ◌∙◌, arith, add-one}
use Rattle.std.specs.Prelude.{if◌then◌else◌, slice_get, ◌||◌}
use Rattle.script_words.specs.declared.stops.Stop.{Stop}
use Rattle.machine_spec.specs.declared.threads.Status.{Status}
use Rattle.machine_spec.specs.declared.threads.Status.TheVariants.{Running, YieldTick, PromiseWait, Done}
use Rattle.machine_spec.specs.Threads.{is_done}
use Rattle.machine_spec.specs.Places.{Places}
use Rattle.machine_spec.specs.Outcome.{Outcome, Goes, then_do, StopIs}
use Rattle.machine_spec.specs.Program.{Program}
use Rattle.machine_spec.specs.Slice as machine
use Rattle.machine_spec.specs.Slice.{next_place, pass_on, pass, visit, Passed}
use Rattle.machine_spec.specs.Tasks.{Task}
use Rattle.machine_spec.specs.World.{World}
use Rattle.project_spec.specs.Trees.{Sheet}
use Rattle.thread_frames.specs.Reading.{task}
use Rattle.thread_frames.specs.Threads.{Thread}
use Rattle.executions.proofs.Stops.{stop-then, stop-same}
use Rattle.frames.specs.Turns.{IsAlive, gets_slice}

-- a thread that gets a slice is not done
slice_lives : (first : Bool) (s : Status) → machine.gets_slice first s ≡ true → is_done s ≡ false
slice_lives first Running e = refl
slice_lives first YieldTick e = refl
slice_lives first PromiseWait e = absurd (cc e)
slice_lives first Done e = absurd (cc e)

pub gets_alive : (first : Bool) (i : ℕ) (ts : Places Thread) → true ≡ gets_slice first (slice_get ts.list i) → IsAlive i ts
gets_alive first i ts e = go (slice_get ts.list i) refl e
  where
    go : (o : Option Thread) → slice_get ts.list i ≡ o → true ≡ gets_slice first o → IsAlive i ts
    go None found gets = absurd (cc gets)
    go (Some t) found gets = record { thread = t; found = found; alive = slice_lives first t.status (sym gets) }

module _ (s : ℕ → Sheet) (first : Bool) where
  next_at : (n i : ℕ) (xs : List Thread) → i < length xs → next_place first n (drop i (map (task s) xs)) ≡ (if gets_slice first (slice_get xs i) then Some n else next_place first (suc n) (drop (suc i) (map (task s) xs)))
  next_at n i [] lt = absurd (omega (arith, lt))
  next_at n zero (x ∷ xs) lt = refl
  next_at n (suc i) (x ∷ xs) lt = next_at n i xs (omega (arith, lt))

  pub next_here : (i : ℕ) (xs : List Thread) → i < length xs → true ≡ gets_slice first (slice_get xs i) → next_place first i (drop i (map (task s) xs)) ≡ Some i
  next_here i xs lt e = next_at i i xs lt ∙ ap (λ b. if b then Some i else next_place first (suc i) (drop (suc i) (map (task s) xs))) (sym e)

  pub next_later : (i : ℕ) (xs : List Thread) → i < length xs → false ≡ gets_slice first (slice_get xs i) → next_place first i (drop i (map (task s) xs)) ≡ next_place first (i + 1) (drop (i + 1) (map (task s) xs))
  next_later i xs lt e =
      next_at i i xs lt ∙ ap (λ b. if b then Some i else next_place first (suc i) (drop (suc i) (map (task s) xs))) (sym e)
      ∙ ap (λ k. next_place first k (drop k (map (task s) xs))) (sym (add-one i))

  next_over_by : (n i : ℕ) (xs : List Thread) → length xs ≤ i → next_place first n (drop i (map (task s) xs)) ≡ None
  next_over_by n zero [] le = refl
  next_over_by n (suc i) [] le = refl
  next_over_by n zero (x ∷ xs) le = absurd (omega (arith, le))
  next_over_by n (suc i) (x ∷ xs) le = next_over_by n i xs (omega (arith, le))

  pub next_over : (i : ℕ) (xs : List Thread) → length xs ≤ i → next_place first i (drop i (map (task s) xs)) ≡ None
  next_over i xs le = next_over_by i i xs le

module _ (p : Program) (first : Bool) (budget : ℕ) where
  pass-none : (i : ℕ) (w : World Task) (active : Bool) → pass p first budget zero i w active ≡ Goes (record { world = w; active = active })
  unfolding pass
  pass-none i w active = refl

  pass-more : (n i : ℕ) (w : World Task) (active : Bool) → pass p first budget (suc n) i w active ≡ pass_on p budget (next_place first i (drop i w.threads.list)) w active (pass p first budget n)
  unfolding pass
  pass-more n i w active = refl

  module _ (n slices from : ℕ) (all : Outcome Passed) (w : World Task) (active : Bool) (same : all ≡ pass p first budget (n - slices) from w active) where
    -- the last slice was given
    pub pass-over : n ≤ slices → all ≡ Goes (record { world = w; active = active })
    pass-over le =
        let none : n - slices ≡ 0 = omega arith in
        same ∙ ap (λ k. pass p first budget k from w active) none ∙ pass-none from w active

    module _ (lt : slices < n) (o : Option ℕ) (next : o ≡ next_place first from (drop from w.threads.list)) where
      here : all ≡ pass_on p budget o w active (pass p first budget (n - (slices + 1)))
      here =
          let one : n - slices ≡ suc (n - (slices + 1)) = omega arith in
          same ∙ ap (λ k. pass p first budget k from w active) one ∙ pass-more (n - (slices + 1)) from w active
          ∙ ap (λ z. pass_on p budget z w active (pass p first budget (n - (slices + 1)))) (sym next)

      -- no thread gets one more
      pub pass-off : o ≡ None → all ≡ Goes (record { world = w; active = active })
      pass-off e = here ∙ ap (λ z. pass_on p budget z w active (pass p first budget (n - (slices + 1)))) e

      module _ (j : ℕ) (some : o ≡ Some j) where
        visits : all ≡ then_do (visit p budget j w) (λ x. pass p first budget (n - (slices + 1)) (suc j) x.world (active || x.active))
        visits = here ∙ ap (λ z. pass_on p budget z w active (pass p first budget (n - (slices + 1)))) some

        pub pass-on : (new : World Task) (is_active active' : Bool) → visit p budget j w ≡ Goes (record { world = new; active = is_active }) → active' ≡ (active || is_active) → all ≡ pass p first budget (n - (slices + 1)) (j + 1) new active'
        pass-on new is_active active' goes e =
            visits ∙ ap (λ z. then_do z (λ x. pass p first budget (n - (slices + 1)) (suc j) x.world (active || x.active))) goes
            ∙ ap (λ k. pass p first budget (n - (slices + 1)) k new (active || is_active)) (sym (add-one j))
            ∙ ap (λ b. pass p first budget (n - (slices + 1)) (j + 1) new b) (sym e)

        pub pass-stop : (T U : Type 0) (stop : Stop) → StopIs {T = T} (Err stop) (visit p budget j w) → StopIs {T = U} (Err stop) all
        pass-stop T U stop h = stop-same U U stop _ all visits (stop-then T U stop _ _ h)
