-- The threads that are started: where they are put, and the running thread beside them.
use Rattle.std.proofs.Common.{◌≡◌, ℕ, zero, suc, ◌+◌, Bool, true, false, if◌then◌else◌, List, [], ◌∷◌, ◌++◌, Option, Some, None, refl, sym, ap, ◌∙◌, subst, arith}
use Rattle.std.specs.Prelude.{◌<◌, ◌≤◌, slice_get, slice_set, nat_lt, position}
use Rattle.std.specs.List.{list_any}
use Rattle.opcode_table.specs.Kinds.{hat_kind}
use Rattle.script_words.specs.declared.stops.CounterKind.TheVariants as counter
use Rattle.machine_spec.specs.Outcome.{Outcome, Goes, Full, IfGoes, with_room, most_levels}
use Rattle.machine_spec.specs.Script.{op_of}
use Rattle.machine_spec.specs.Places.{Places, on_place, sum_some, running}
use Rattle.machine_spec.specs.Tasks.{Task, depth, finish, tasks, fresh}
use Rattle.machine_spec.specs.Starting.{Pair, open_levels, Crowd, runs_at, replaced, replaced_at, appended, placed, joined, is_of, is_alive_of, new_thread, ignored_or_appended, start_by, start_one, start_all, restarts}
use Rattle.machine_spec.specs.declared.threads.Which.TheVariants.{Slot}
use Rattle.laws_of_threads.proofs.Depths.{all_depths, levels_are, depths_last, depths_set, all_slot, one_level, room_if}
use Rattle.laws_of_threads.specs.Lists.{Each}
use Rattle.laws_of_threads.proofs.Numbers.{each_map, each_append, equal, equal_true}
use Rattle.laws_of_threads.proofs.Calm.{number_goes}
use Rattle.laws_of_threads.proofs.RowFits.{goes_then}
use Rattle.laws_of_threads.proofs.Crews.{Crew, crew_more, crew_appended, crew_replaced, crew_detached}

-- this thread runs; between frames none is detached
abbrev pub Runs : Option ℕ → Task → Places Task → Type 0
Runs None t ts = ts.detached ≡ None
Runs (Some i) t ts = running i ts ≡ Some t

room_by : {A : Type 0} (b : Bool) (x : A) (P : A → Type 0) → P x → IfGoes (if b then Goes x else Full) P
room_by true x P h = h
room_by false x P h = tt

pub room_goes : {A : Type 0} (n : ℕ) (x : A) (P : A → Type 0) → P x → IfGoes (with_room n x) P
room_goes n x P h = room_by (nat_lt n most_levels) x P h

get_append : (ts : List Task) (j : ℕ) (t y : Task) → slice_get ts j ≡ Some t → slice_get (ts ++ y ∷ []) j ≡ Some t
get_append [] j t y e = absurd (cc e)
get_append (x ∷ ts) zero t y e = e
get_append (x ∷ ts) (suc j) t y e = get_append ts j t y e

get_set : (ts : List Task) (j i : ℕ) (t y : Task) → (i ≡ j → ⊥) → slice_get ts i ≡ Some t → slice_get (slice_set ts j y) i ≡ Some t
get_set [] j i t y ne e = absurd (cc e)
get_set (x ∷ ts) zero zero t y ne e = absurd (ne refl)
get_set (x ∷ ts) zero (suc i) t y ne e = e
get_set (x ∷ ts) (suc j) zero t y ne e = e
get_set (x ∷ ts) (suc j) (suc i) t y ne e = get_set ts j i t y (λ h. ne (ap suc h)) e

module _ (P : Task → Type 0) (r : Option ℕ) (t : Task) where
  -- every thread has the fact, and the running one is still this
  pub record Stand (next : ℕ) (ts : Places Task) : Type 0 where
    pub crew : Crew P next ts
    pub runs : Runs r t ts
    pub few : all_depths ts ≤ most_levels

  runs_append : (r : Option ℕ) (list : List Task) (o : Option Task) (y : Task) → Runs r t (record { list = list; detached = o }) → Runs r t (record { list = list ++ y ∷ []; detached = o })
  runs_append None list o y h = h
  runs_append (Some i) list None y h = get_append list i t y h
  runs_append (Some i) list (Some u) y h = h

  appended_stands : (next : ℕ) (ts : Places Task) (y : Task) → y.serial ≡ next → depth y ≡ 1 → P y → Stand next ts → IfGoes (appended tasks y ts) (Stand (next + 1))
  appended_stands next ts y e one h s = room_if (open_levels tasks ts) (record { list = ts.list ++ y ∷ []; detached = ts.detached }) (Stand (next + 1))
      (λ room. record { crew = crew_appended P next ts y e s.crew h; runs = runs_append r ts.list ts.detached y s.runs; few = (let a = levels_are ts in let b = depths_last ts.list y in omega (arith, a, b, room, one)) })

  -- the slot of another thread
  runs_set : (q : Option ℕ) (list : List Task) (o : Option Task) (j : ℕ) (y : Task) → runs_at q j o ≡ false → Runs q t (record { list = list; detached = o }) → Runs q t (record { list = slice_set list j y; detached = o })
  runs_set None list o j y e h = h
  runs_set (Some i) list (Some u) j y e h = h
  runs_set (Some i) list None j y e h = get_set list j i t y (λ s. let q = equal_true i j s in cc) h

  runs_out : (q : Option ℕ) (list : List Task) (o : Option Task) (j : ℕ) (old y : Task) → runs_at q j o ≡ true → slice_get list j ≡ Some old → Runs q t (record { list = list; detached = o })
      → (o ≡ None) × Runs q t (record { list = slice_set list j y; detached = Some old })
  runs_out None list o j old y e g h = absurd (cc e)
  runs_out (Some i) list (Some u) j old y e g h = absurd (cc e)
  runs_out (Some i) list None j old y e g h = let same : i ≡ j = equal i j e in (refl, sym g ∙ ap (slice_get list) (sym same) ∙ h)

  replaced_by : (b : Bool) (next j : ℕ) (ts : Places Task) (old y : Task) → runs_at r j ts.detached ≡ b → slice_get ts.list j ≡ Some old → y.serial ≡ next → depth y ≡ 1 → P y → Stand next ts → IfGoes (replaced tasks b j old y ts) (Stand (next + 1))
  replaced_by true next j ts old y e g n one h s = room_if (open_levels tasks ts) (record { list = slice_set ts.list j y; detached = Some old }) (Stand (next + 1))
      (λ room. let o = runs_out r ts.list ts.detached j old y e g s.runs in
      record { crew = crew_detached P next j ts.list old y g n (subst (λ d. Crew P next (record { list = ts.list; detached = d })) o.0 s.crew) h; runs = o.1; few = (let a = levels_are ts in let b = depths_set ts.list j old y g in let c : sum_some depth ts.detached ≡ 0 = ap (sum_some depth) o.0 in omega (arith, a, b, c, room, one)) })
  replaced_by false next j ts old y e g n one h s = room_if (open_levels tasks (on_place finish (Slot j) ts)) (record { list = slice_set ts.list j y; detached = ts.detached }) (Stand (next + 1))
      (λ room. record { crew = crew_replaced P next j ts y n s.crew h; runs = runs_set r ts.list ts.detached j y e s.runs; few = (let a = levels_are (on_place finish (Slot j) ts) in let b = depths_set ts.list j old y g in let c : all_depths (on_place finish (Slot j) ts) + depth old ≡ all_depths ts + 0 = all_slot ts j old finish g in omega (arith, a, b, c, room, one)) })

  at_stands : (next j : ℕ) (ts : Places Task) (o : Option Task) (y : Task) → slice_get ts.list j ≡ o → y.serial ≡ next → depth y ≡ 1 → P y → Stand next ts → IfGoes (replaced_at tasks (runs_at r j ts.detached) j o y ts) (Stand (next + 1))
  at_stands next j ts None y g n one h s = record { crew = crew_more P next ts s.crew; runs = s.runs; few = s.few }
  at_stands next j ts (Some old) y g n one h s = replaced_by (runs_at r j ts.detached) next j ts old y refl g n one h s

  placed_stands : (next : ℕ) (o : Option ℕ) (ts : Places Task) (y : Task) → y.serial ≡ next → depth y ≡ 1 → P y → Stand next ts → IfGoes (placed tasks r o y ts) (Stand (next + 1))
  placed_stands next None ts y n one h s = appended_stands next ts y n one h s
  placed_stands next (Some j) ts y n one h s = at_stands next j ts (slice_get ts.list j) y refl n one h s

  -- A crowd

  pub record Joins (least : ℕ) (c : Crowd Task) : Type 0 where
    pub stand : Stand c.next c.threads
    pub grown : least ≤ c.next
    pub serials : Each (λ n. n < c.next) c.serials

  joined_stands : (least : ℕ) (c : Crowd Task) (o : Outcome (Places Task)) → Joins least c → IfGoes o (Stand (c.next + 1)) → IfGoes (joined c o) (Joins least)
  joined_stands least c o s h = number_goes counter.Thread c.next _ (Joins least)
      (goes_then o _ (Stand (c.next + 1)) (Joins least) h (λ ts x. record { stand = x; grown = (let l = s.grown in omega (arith, l)); serials = each_append (λ n. n < c.next + 1) c.serials (c.next ∷ []) (each_map (λ n. n < c.next) (λ n. n < c.next + 1) c.serials (λ n h. omega (arith, h)) s.serials) (omega arith, tt) }))

  -- every new thread of the hat has the fact
  abbrev pub Fresh : ℕ → Pair → Type 0
  Fresh least x = (n : ℕ) → least ≤ n → P (fresh n x.of x.head)

  ignored_stands : (b : Bool) (least : ℕ) (x : Pair) (c : Crowd Task) → Fresh least x → Joins least c → IfGoes (ignored_or_appended b tasks x c) (Joins least)
  ignored_stands true least x c f s = s
  ignored_stands false least x c f s = joined_stands least c _ s (appended_stands c.next c.threads (new_thread tasks x c) refl (one_level c.next x.of x.head) (f c.next s.grown) s.stand)

  start_stands : (b : Bool) (least : ℕ) (x : Pair) (c : Crowd Task) → Fresh least x → Joins least c → IfGoes (start_by b tasks r x c) (Joins least)
  start_stands true least x c f s = joined_stands least c _ s (placed_stands c.next (position (is_of tasks x) c.threads.list) c.threads (new_thread tasks x c) refl (one_level c.next x.of x.head) (f c.next s.grown) s.stand)
  start_stands false least x c f s = ignored_stands (list_any (is_alive_of tasks x) c.threads.list) least x c f s

  pub all_stand : (least : ℕ) (xs : List Pair) (c : Crowd Task) → Each (Fresh least) xs → Joins least c → IfGoes (start_all tasks r xs c) (Joins least)
  all_stand least [] c f s = s
  all_stand least (x ∷ xs) c f s = goes_then (start_one tasks r x c) _ (Joins least) (Joins least)
      (start_stands (restarts (hat_kind (op_of x.head.hat))) least x c f.0 s) (λ d h. all_stand least xs d f.1 h)
