-- A fact of each thread is kept where hats are started.
use Rattle.std.proofs.Common.{◌≡◌, ℕ, ◌+◌, Bool, true, false, List, [], ◌∷◌, ◌++◌, position, Option, Some, None, refl}
use Rattle.std.specs.Prelude.{slice_get, slice_set, nat_lt, if◌then◌else◌, ◌==◌}
use Rattle.std.specs.List.{All, list_any}
use Rattle.std.proofs.lemmas.List.Elements.{All-nil, All-cons, All-head, All-tail, All-append}
use Rattle.opcode_table.specs.Kinds.{hat_kind}
use Rattle.script_words.specs.declared.stops.CounterKind.{CounterKind}
use Rattle.script_words.specs.declared.stops.CounterKind.TheVariants as counter
use Rattle.machine_spec.specs.Outcome.{Outcome, Goes, Full, TooLong, Spent, then_do, IfGoes, last_number, with_number, most_levels, with_room}
use Rattle.machine_spec.specs.Script.{op_of}
use Rattle.machine_spec.specs.declared.threads.Which.TheVariants.{Slot}
use Rattle.machine_spec.specs.Places.{Places, on_place, Everyone}
use Rattle.machine_spec.specs.Starting.{Handle, Crowd, Pair, restarts, open_levels, runs_at, replaced, replaced_at, appended, placed, joined, is_of, is_alive_of, new_thread, ignored_or_appended, start_by, start_one, start_all}
use Rattle.machine_spec.proofs.Placing.{everyone_at, everyone_put}

module _ {A : Type 0} where
  pub goes_map : (o : Outcome A) (Q R : A → Type 0) → ((x : A) → Q x → R x) → IfGoes o Q → IfGoes o R
  goes_map (Goes x) Q R g h = g x h
  goes_map Full Q R g h = tt
  goes_map (TooLong n) Q R g h = tt
  goes_map (Spent which) Q R g h = tt

  pub then_goes : {B : Type 0} (o : Outcome A) (m : A → Outcome B) (R : B → Type 0) → IfGoes o (λ x. IfGoes (m x) R) → IfGoes (then_do o m) R
  then_goes (Goes x) m R h = h
  then_goes Full m R h = tt
  then_goes (TooLong n) m R h = tt
  then_goes (Spent which) m R h = tt

  room_by : (P : A → Type 0) (b : Bool) (x : A) → P x → IfGoes (if b then Goes x else Full) P
  room_by P true x p = p
  room_by P false x p = tt

  pub room_goes : (P : A → Type 0) (n : ℕ) (x : A) → P x → IfGoes (with_room n x) P
  room_goes P n x p = room_by P (nat_lt n most_levels) x p

  number_if : (P : A → Type 0) (b : Bool) (which : CounterKind) (o : Outcome A) → IfGoes o P → IfGoes (if b then Spent which else o) P
  number_if P true which o h = tt
  number_if P false which o h = h

  pub number_goes : (P : A → Type 0) (which : CounterKind) (n : ℕ) (o : Outcome A) → IfGoes o P → IfGoes (with_number which n o) P
  number_goes P which n o h = number_if P (n == last_number) which o h

module _ {A : Type 0} where
  -- a fact of the threads is one of the threads with their numbers
  pub joined_goes : (P : Places A → Type 0) (c : Crowd A) (o : Outcome (Places A)) → IfGoes o P → IfGoes (joined c o) (λ d. P d.threads)
  joined_goes P c o h =
      number_goes (λ d. P d.threads) counter.Thread c.next (then_do o (λ ts. Goes (record { threads = ts; next = c.next + 1; serials = c.serials ++ c.next ∷ [] })))
      (then_goes o (λ ts. Goes (record { threads = ts; next = c.next + 1; serials = c.serials ++ c.next ∷ [] })) (λ d. P d.threads) h)

-- Starting

pub all_push : {A : Type 0} (P : A → Type 0) (xs : List A) (x : A) → All P xs → P x → All P (xs ++ x ∷ [])
all_push P xs x h p = All-append P xs (x ∷ []) h (All-cons P x [] p (All-nil P))

module _ {A : Type 0} (k : Handle A) (P : A → Type 0) (H : Pair → Type 0) (fresh : (n : ℕ) (x : Pair) → H x → P (k.fresh n x.of x.head)) where
  replaced_each : (runs : Bool) (j : ℕ) (old new : A) (ts : Places A) → Everyone P ts → P old → P new → IfGoes (replaced k runs j old new ts) (Everyone P)
  replaced_each true j old new ts h p q =
      room_goes (Everyone P) (open_levels k ts) (record { list = slice_set ts.list j new; detached = Some old }) (record { listed = (everyone_put P (Slot j) ts new h q).listed; detached = p })
  replaced_each false j old new ts h p q =
      room_goes (Everyone P) (open_levels k (on_place k.finish (Slot j) ts)) (record { list = slice_set ts.list j new; detached = ts.detached }) (everyone_put P (Slot j) ts new h q)

  replaced_at_each : (runs : Bool) (j : ℕ) (o : Option A) (new : A) (ts : Places A) → slice_get ts.list j ≡ o → Everyone P ts → P new → IfGoes (replaced_at k runs j o new ts) (Everyone P)
  replaced_at_each runs j None new ts e h q = h
  replaced_at_each runs j (Some old) new ts e h q = replaced_each runs j old new ts h (everyone_at P (Slot j) ts old h e) q

  appended_each : (new : A) (ts : Places A) → Everyone P ts → P new → IfGoes (appended k new ts) (Everyone P)
  appended_each new ts h q =
      room_goes (Everyone P) (open_levels k ts) (record { list = ts.list ++ new ∷ []; detached = ts.detached }) (record { listed = all_push P ts.list new h.listed q; detached = h.detached })

  placed_each : (running o : Option ℕ) (new : A) (ts : Places A) → Everyone P ts → P new → IfGoes (placed k running o new ts) (Everyone P)
  placed_each running None new ts h q = appended_each new ts h q
  placed_each running (Some j) new ts h q = replaced_at_each (runs_at running j ts.detached) j (slice_get ts.list j) new ts refl h q

  ignored_each : (b : Bool) (x : Pair) (c : Crowd A) → H x → Everyone P c.threads → IfGoes (ignored_or_appended b k x c) (λ d. Everyone P d.threads)
  ignored_each true x c g h = h
  ignored_each false x c g h = joined_goes (Everyone P) c (appended k (new_thread k x c) c.threads) (appended_each (new_thread k x c) c.threads h (fresh c.next x g))

  -- one hat
  pub start_each : (again : Bool) (running : Option ℕ) (x : Pair) (c : Crowd A) → H x → Everyone P c.threads → IfGoes (start_by again k running x c) (λ d. Everyone P d.threads)
  start_each true running x c g h =
      joined_goes (Everyone P) c (placed k running (position (is_of k x) c.threads.list) (new_thread k x c) c.threads)
      (placed_each running (position (is_of k x) c.threads.list) (new_thread k x c) c.threads h (fresh c.next x g))
  start_each false running x c g h = ignored_each (list_any (is_alive_of k x) c.threads.list) x c g h

  -- hats in turn
  pub starts_each : (running : Option ℕ) (xs : List Pair) (c : Crowd A) → All H xs → Everyone P c.threads → IfGoes (start_all k running xs c) (λ d. Everyone P d.threads)
  starts_each running [] c g h = h
  starts_each running (x ∷ xs) c g h =
      then_goes (start_one k running x c) (start_all k running xs) (λ d. Everyone P d.threads)
      (goes_map (start_one k running x c) (λ d. Everyone P d.threads) (λ d. IfGoes (start_all k running xs d) (λ e. Everyone P e.threads)) (λ d q. starts_each running xs d (All-tail H x xs g) q)
      (start_each (restarts (hat_kind (op_of x.head.hat))) running x c (All-head H x xs g) h))

-- Where no slot is visited no thread becomes a detached one

module _ {A : Type 0} (k : Handle A) where
  abbrev IsAlone : Places A → Type 0
  IsAlone ts = ts.detached ≡ None

  replaced_alone : (j : ℕ) (o : Option A) (new : A) (ts : Places A) → IsAlone ts → IfGoes (replaced_at k false j o new ts) IsAlone
  replaced_alone j None new ts h = h
  replaced_alone j (Some old) new ts h = room_goes IsAlone (open_levels k (on_place k.finish (Slot j) ts)) (record { list = slice_set ts.list j new; detached = ts.detached }) h

  appended_alone : (new : A) (ts : Places A) → IsAlone ts → IfGoes (appended k new ts) IsAlone
  appended_alone new ts h = room_goes IsAlone (open_levels k ts) (record { list = ts.list ++ new ∷ []; detached = ts.detached }) h

  placed_alone : (o : Option ℕ) (new : A) (ts : Places A) → IsAlone ts → IfGoes (placed k None o new ts) IsAlone
  placed_alone None new ts h = appended_alone new ts h
  placed_alone (Some j) new ts h = replaced_alone j (slice_get ts.list j) new ts h

  ignored_alone : (b : Bool) (x : Pair) (c : Crowd A) → IsAlone c.threads → IfGoes (ignored_or_appended b k x c) (λ d. IsAlone d.threads)
  ignored_alone true x c h = h
  ignored_alone false x c h = joined_goes IsAlone c (appended k (new_thread k x c) c.threads) (appended_alone (new_thread k x c) c.threads h)

  start_alone : (again : Bool) (x : Pair) (c : Crowd A) → IsAlone c.threads → IfGoes (start_by again k None x c) (λ d. IsAlone d.threads)
  start_alone true x c h =
      joined_goes IsAlone c (placed k None (position (is_of k x) c.threads.list) (new_thread k x c) c.threads) (placed_alone (position (is_of k x) c.threads.list) (new_thread k x c) c.threads h)
  start_alone false x c h = ignored_alone (list_any (is_alive_of k x) c.threads.list) x c h

  pub starts_alone : (xs : List Pair) (c : Crowd A) → IsAlone c.threads → IfGoes (start_all k None xs c) (λ d. IsAlone d.threads)
  starts_alone [] c h = h
  starts_alone (x ∷ xs) c h =
      then_goes (start_one k None x c) (start_all k None xs) (λ d. IsAlone d.threads)
      (goes_map (start_one k None x c) (λ d. IsAlone d.threads) (λ d. IfGoes (start_all k None xs d) (λ e. IsAlone e.threads)) (λ d q. starts_alone xs d q) (start_alone (restarts (hat_kind (op_of x.head.hat))) x c h))
