-- Starting and ending keep the running thread, in its slot or as the detached one.
use Rattle.std.proofs.Common.{◌≡◌, ℕ, zero, suc, ◌+◌, Bool, true, false, not, ◌&&◌, List, [], ◌∷◌, ◌++◌, position, Option, Some, None, refl, sym, ap, ◌∙◌, arith}
use Rattle.std.specs.Prelude.{slice_get, slice_set, if◌then◌else◌, ◌==◌}
use Rattle.std.specs.List.{All, list_any}
use Rattle.std.proofs.lemmas.Bool.{eqb-true, eqb-false, eq-eqb}
use Rattle.std.proofs.lemmas.List.Elements.{All-cons, All-head, All-tail}
use Rattle.opcode_table.specs.Kinds.{hat_kind}
use Rattle.machine_spec.specs.Outcome.{IfGoes}
use Rattle.machine_spec.specs.Script.{op_of}
use Rattle.machine_spec.specs.declared.threads.Which.{Which}
use Rattle.machine_spec.specs.declared.threads.Which.TheVariants.{Slot, Detached}
use Rattle.machine_spec.specs.Places.{Places, at_place, running, on_place, Everyone}
use Rattle.machine_spec.specs.Starting.{Handle, Crowd, Pair, restarts, open_levels, runs_at, replaced, replaced_at, appended, placed, is_of, is_alive_of, new_thread, ignored_or_appended, start_by, start_one, start_all, is_spared, finished_from, finished_of}
use Rattle.executions.proofs.Each.{goes_map, then_goes, room_goes, joined_goes}

get_other : {A : Type 0} (xs : List A) (i j : ℕ) (x : A) → (i ≡ j → ⊥) → slice_get (slice_set xs j x) i ≡ slice_get xs i
get_other [] i j x h = refl
get_other (z ∷ xs) zero zero x h = absurd (h refl)
get_other (z ∷ xs) (suc i) zero x h = refl
get_other (z ∷ xs) zero (suc j) x h = refl
get_other (z ∷ xs) (suc i) (suc j) x h = get_other xs i j x (λ e. h (ap suc e))

get_push : {A : Type 0} (xs : List A) (i : ℕ) (x t : A) → slice_get xs i ≡ Some t → slice_get (xs ++ x ∷ []) i ≡ Some t
get_push [] i x t e = absurd (cc e)
get_push (z ∷ xs) zero x t e = e
get_push (z ∷ xs) (suc i) x t e = get_push xs i x t e

module _ {A : Type 0} (k : Handle A) (i : ℕ) (t : A) where
  abbrev Runs : Places A → Type 0
  Runs ts = running i ts ≡ Some t

  replaced_by : (b : Bool) (j : ℕ) (old new : A) (list : List A) → (i == j) ≡ b → slice_get list j ≡ Some old → slice_get list i ≡ Some t → IfGoes (replaced k b j old new (record { list = list; detached = None })) Runs
  replaced_by true j old new list b e h =
      room_goes Runs (open_levels k (record { list = list; detached = None })) (record { list = slice_set list j new; detached = Some old })
      (sym e ∙ ap (slice_get list) (sym (eqb-true i j b)) ∙ h)
  replaced_by false j old new list b e h =
      room_goes Runs (open_levels k (on_place k.finish (Slot j) (record { list = list; detached = None }))) (record { list = slice_set list j new; detached = None })
      (get_other list i j new (eqb-false i j b) ∙ h)

  replaced_runs : (j : ℕ) (old new : A) (list : List A) (d : Option A) → slice_get list j ≡ Some old → Runs (record { list = list; detached = d }) → IfGoes (replaced k (runs_at (Some i) j d) j old new (record { list = list; detached = d })) Runs
  replaced_runs j old new list (Some u) e h =
      room_goes Runs (open_levels k (on_place k.finish (Slot j) (record { list = list; detached = Some u }))) (record { list = slice_set list j new; detached = Some u }) h
  replaced_runs j old new list None e h = replaced_by (i == j) j old new list refl e h

  replaced_at_runs : (j : ℕ) (o : Option A) (new : A) (list : List A) (d : Option A) → slice_get list j ≡ o → Runs (record { list = list; detached = d }) → IfGoes (replaced_at k (runs_at (Some i) j d) j o new (record { list = list; detached = d })) Runs
  replaced_at_runs j None new list d e h = h
  replaced_at_runs j (Some old) new list d e h = replaced_runs j old new list d e h

  push_runs : (new : A) (list : List A) (d : Option A) → Runs (record { list = list; detached = d }) → Runs (record { list = list ++ new ∷ []; detached = d })
  push_runs new list (Some u) h = h
  push_runs new list None h = get_push list i new t h

  appended_runs : (new : A) (ts : Places A) → Runs ts → IfGoes (appended k new ts) Runs
  appended_runs new ts h = room_goes Runs (open_levels k ts) (record { list = ts.list ++ new ∷ []; detached = ts.detached }) (push_runs new ts.list ts.detached h)

  placed_runs : (o : Option ℕ) (new : A) (ts : Places A) → Runs ts → IfGoes (placed k (Some i) o new ts) Runs
  placed_runs None new ts h = appended_runs new ts h
  placed_runs (Some j) new ts h = replaced_at_runs j (slice_get ts.list j) new ts.list ts.detached refl h

  ignored_runs : (b : Bool) (x : Pair) (c : Crowd A) → Runs c.threads → IfGoes (ignored_or_appended b k x c) (λ d. Runs d.threads)
  ignored_runs true x c h = h
  ignored_runs false x c h = joined_goes Runs c (appended k (new_thread k x c) c.threads) (appended_runs (new_thread k x c) c.threads h)

  start_runs : (again : Bool) (x : Pair) (c : Crowd A) → Runs c.threads → IfGoes (start_by again k (Some i) x c) (λ d. Runs d.threads)
  start_runs true x c h =
      joined_goes Runs c (placed k (Some i) (position (is_of k x) c.threads.list) (new_thread k x c) c.threads)
      (placed_runs (position (is_of k x) c.threads.list) (new_thread k x c) c.threads h)
  start_runs false x c h = ignored_runs (list_any (is_alive_of k x) c.threads.list) x c h

  -- hats that are started
  pub starts_run : (xs : List Pair) (c : Crowd A) → Runs c.threads → IfGoes (start_all k (Some i) xs c) (λ d. Runs d.threads)
  starts_run [] c h = h
  starts_run (x ∷ xs) c h =
      then_goes (start_one k (Some i) x c) (start_all k (Some i) xs) (λ d. Runs d.threads)
      (goes_map (start_one k (Some i) x c) (λ d. Runs d.threads) (λ d. IfGoes (start_all k (Some i) xs d) (λ e. Runs e.threads)) (λ d q. starts_run xs d q) (start_runs (restarts (hat_kind (op_of x.head.hat))) x c h))

-- Ending

module _ {A : Type 0} (k : Handle A) where
  and_not : (a b : Bool) → b ≡ true → (a && not b) ≡ false
  and_not true b e = ap not e
  and_not false b e = refl

  spared_by : (b : Bool) (t : A) → b ≡ false → (if b then k.finish t else t) ≡ t
  spared_by true t e = absurd (cc e)
  spared_by false t e = refl

  -- a slot that is spared
  spared_at : (spared : Option Which) (of n j m : ℕ) (xs : List A) → n ≡ j + m → is_spared spared n ≡ true → slice_get (finished_from k spared of j xs) m ≡ slice_get xs m
  spared_at spared of n j m [] e h = refl
  spared_at spared of n j zero (t ∷ ts) e h =
      let same : j ≡ n = omega (arith, e) in
      ap Some (spared_by (k.of t == of && not (is_spared spared j)) t (and_not (k.of t == of) (is_spared spared j) (ap (is_spared spared) same ∙ h)))
  spared_at spared of n j (suc m) (t ∷ ts) e h = spared_at spared of n (suc j) m ts (omega (arith, e)) h

  -- the thread at a place that is spared
  pub ended_keeps : (which : Which) (of : ℕ) (ts : Places A) → at_place which (finished_of k (Some which) of ts) ≡ at_place which ts
  ended_keeps (Slot i) of ts = spared_at (Some (Slot i)) of i 0 i ts.list (omega arith) (eq-eqb i i refl)
  ended_keeps Detached of ts = refl

  ended_each : (P : A → Type 0) (b : Bool) (t : A) → P (k.finish t) → P t → P (if b then k.finish t else t)
  ended_each P true t p q = p
  ended_each P false t p q = q

  ended_all : (P : A → Type 0) (spared : Option Which) (of j : ℕ) (xs : List A) → ((t : A) → P (k.finish t)) → All P xs → All P (finished_from k spared of j xs)
  ended_all P spared of j [] p h = h
  ended_all P spared of j (t ∷ ts) p h =
      All-cons P (if k.of t == of && not (is_spared spared j) then k.finish t else t) (finished_from k spared of (suc j) ts)
      (ended_each P (k.of t == of && not (is_spared spared j)) t (p t) (All-head P t ts h)) (ended_all P spared of (suc j) ts p (All-tail P t ts h))

  -- a fact of each thread
  pub ended_everyone : (P : A → Type 0) (spared : Option Which) (of : ℕ) (ts : Places A) → ((t : A) → P (k.finish t)) → Everyone P ts → Everyone P (finished_of k spared of ts)
  ended_everyone P spared of ts p h = record { listed = ended_all P spared of 0 ts.list p h.listed; detached = h.detached }
