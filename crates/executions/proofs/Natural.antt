-- What starting and ending do to threads they do to what is seen of them.
use Rattle.std.proofs.Common.{◌≡◌, ℕ, suc, ◌+◌, Bool, true, false, not, ◌&&◌, List, [], ◌∷◌, ◌++◌, length, map, cond, position, Option, Some, None, refl, sym, ap, ◌∙◌, arith}
use Rattle.std.specs.Prelude.{slice_get, slice_set, sum_by, nat_lt, IfSome, if◌then◌else◌, ◌==◌, ◌||◌}
use Rattle.std.specs.List.{All, list_any, position_or_len}
use Rattle.std.specs.Option.{option_map}
use Rattle.std.proofs.lemmas.List.{map-append, map-set}
use Rattle.std.proofs.lemmas.List.Elements.{All-head, All-tail}
use Rattle.std.proofs.lemmas.List.Sums.{sum_by-cons}
use Rattle.std.proofs.lemmas.Option.{slice_get-map}
use Rattle.opcode_table.specs.Kinds.{hat_kind}
use Rattle.script_words.specs.declared.stops.CounterKind.{CounterKind}
use Rattle.script_words.specs.declared.stops.CounterKind.TheVariants as counter
use Rattle.machine_spec.specs.Outcome.{Outcome, Goes, Full, TooLong, Spent, then_do, IfGoes, last_number, with_number, most_levels, with_room}
use Rattle.machine_spec.specs.Script.{op_of}
use Rattle.machine_spec.specs.Program.{hat_block}
use Rattle.machine_spec.specs.declared.threads.Which.{Which}
use Rattle.machine_spec.specs.declared.threads.Which.TheVariants.{Slot}
use Rattle.machine_spec.specs.Places.{Places, put, put_some, on_place, sum_some, shown_by, Everyone}
use Rattle.machine_spec.specs.Starting.{Handle, Crowd, Pair, restarts, open_levels, runs_at, replaced, replaced_at, appended, placed, joined, is_of, is_alive_of, new_thread, ignored_or_appended, start_by, start_one, start_all, is_spared, finished_from, finished_of}
use Rattle.executions.proofs.Each.{goes_map, start_each}
use Rattle.machine_spec.proofs.Placing.{put_seen, everyone_put}

-- the answer, and the threads with their numbers, seen by f
abbrev pub seen_out : {A B : Type 0} → (A → B) → Outcome A → Outcome B
seen_out f (Goes x) = Goes (f x)
seen_out f Full = Full
seen_out f (TooLong n) = TooLong n
seen_out f (Spent which) = Spent which

abbrev pub seen_crowd : {A B : Type 0} → (A → B) → Crowd A → Crowd B
seen_crowd f c = record { threads = shown_by f c.threads; next = c.next; serials = c.serials }

-- threads are seen as others are, those that hats start as far as H is known of these
pub record Sees {A B : Type 0} (f : A → B) (H : Pair → Type 0) (ka : Handle A) (kb : Handle B) : Type 0 where
  pub of : (t : A) → kb.of (f t) ≡ ka.of t
  pub hat : (t : A) → kb.hat (f t) ≡ ka.hat t
  pub is_done : (t : A) → kb.is_done (f t) ≡ ka.is_done t
  pub finish : (t : A) → f (ka.finish t) ≡ kb.finish (f t)
  pub finish_depth : (t : A) → kb.depth (f (ka.finish t)) ≡ ka.depth (ka.finish t)
  pub fresh : (n : ℕ) (x : Pair) → H x → f (ka.fresh n x.of x.head) ≡ kb.fresh n x.of x.head
  pub fresh_depth : (n : ℕ) (x : Pair) → H x → kb.depth (f (ka.fresh n x.of x.head)) ≡ ka.depth (ka.fresh n x.of x.head)

-- Outcomes

module _ {A B : Type 0} (f : A → B) where
  if_seen : (b : Bool) (x : A) → seen_out f (if b then Goes x else Full) ≡ (if b then Goes (f x) else Full)
  if_seen true x = refl
  if_seen false x = refl

  room_seen : (n m : ℕ) (x : A) (y : B) → n ≡ m → f x ≡ y → seen_out f (with_room n x) ≡ with_room m y
  room_seen n m x y e h = if_seen (nat_lt n most_levels) x ∙ (λ i. with_room (e i) (h i))

  number_by : (b : Bool) (which : CounterKind) (o : Outcome A) → seen_out f (if b then Spent which else o) ≡ (if b then Spent which else seen_out f o)
  number_by true which o = refl
  number_by false which o = refl

  number_seen : (which : CounterKind) (n : ℕ) (o : Outcome A) → seen_out f (with_number which n o) ≡ with_number which n (seen_out f o)
  number_seen which n o = number_by (n == last_number) which o

  then_seen : (o : Outcome A) (m : A → Outcome A) (k : B → Outcome B) → IfGoes o (λ x. seen_out f (m x) ≡ k (f x)) → seen_out f (then_do o m) ≡ then_do (seen_out f o) k
  then_seen (Goes x) m k h = h
  then_seen Full m k h = refl
  then_seen (TooLong n) m k h = refl
  then_seen (Spent which) m k h = refl

-- Lists

module _ {A B : Type 0} (f : A → B) where
  or_len_seen : (q : B → Bool) (xs : List A) → position_or_len q (map f xs) ≡ position_or_len (λ t. q (f t)) xs
  or_len_seen q [] = refl
  or_len_seen q (x ∷ xs) = ap (λ n. cond (not (q (f x))) (1 + n) 0) (or_len_seen q xs)

  length_seen : (xs : List A) → length (map f xs) ≡ length xs
  length_seen [] = refl
  length_seen (x ∷ xs) = ap suc (length_seen xs)

  position_seen : (q : B → Bool) (xs : List A) → position q (map f xs) ≡ position (λ t. q (f t)) xs
  position_seen q xs = λ i. cond (nat_lt (or_len_seen q xs i) (length_seen xs i)) (Some (or_len_seen q xs i)) None

  any_seen : (q : B → Bool) (xs : List A) → list_any q (map f xs) ≡ list_any (λ t. q (f t)) xs
  any_seen q [] = refl
  any_seen q (x ∷ xs) = ap (λ b. q (f x) || b) (any_seen q xs)

  runs_seen : (running : Option ℕ) (j : ℕ) (o : Option A) → runs_at running j o ≡ runs_at running j (option_map f o)
  runs_seen None j o = refl
  runs_seen (Some i) j None = refl
  runs_seen (Some i) j (Some t) = refl

  placed_crowd : (n : ℕ) (ss : List ℕ) (o : Outcome (Places A)) → seen_out (seen_crowd f) (then_do o (λ ts. Goes (record { threads = ts; next = n; serials = ss }))) ≡ then_do (seen_out (shown_by f) o) (λ ts. Goes (record { threads = ts; next = n; serials = ss }))
  placed_crowd n ss (Goes ts) = refl
  placed_crowd n ss Full = refl
  placed_crowd n ss (TooLong m) = refl
  placed_crowd n ss (Spent which) = refl

  joined_seen : (c : Crowd A) (o : Outcome (Places A)) → seen_out (seen_crowd f) (joined c o) ≡ joined (seen_crowd f c) (seen_out (shown_by f) o)
  joined_seen c o =
      number_seen (seen_crowd f) counter.Thread c.next (then_do o (λ ts. Goes (record { threads = ts; next = c.next + 1; serials = c.serials ++ c.next ∷ [] })))
      ∙ ap (with_number counter.Thread c.next) (placed_crowd (c.next + 1) (c.serials ++ c.next ∷ []) o)

-- Starting

module _ {A B : Type 0} (f : A → B) (H : Pair → Type 0) (ka : Handle A) (kb : Handle B) (s : Sees f H ka kb) where
  -- a thread is seen with as many levels as it has
  abbrev pub IsCounted : A → Type 0
  IsCounted t = kb.depth (f t) ≡ ka.depth t

  sum_seen : (xs : List A) → All IsCounted xs → sum_by kb.depth (map f xs) ≡ sum_by ka.depth xs
  sum_seen [] h = refl
  sum_seen (x ∷ xs) h =
      omega (arith, sum_by-cons kb.depth (f x) (map f xs), sum_by-cons ka.depth x xs, All-head IsCounted x xs h, sum_seen xs (All-tail IsCounted x xs h))

  some_seen : (o : Option A) → IfSome o IsCounted → sum_some kb.depth (option_map f o) ≡ sum_some ka.depth o
  some_seen None h = refl
  some_seen (Some t) h = h

  levels_seen : (ts : Places A) → Everyone IsCounted ts → open_levels ka ts ≡ open_levels kb (shown_by f ts)
  levels_seen ts h = omega (arith, sum_seen ts.list h.listed, some_seen ts.detached h.detached)

  finish_some : (o : Option A) (j : ℕ) (ts : Places A) → shown_by f (put_some o ka.finish (Slot j) ts) ≡ put_some (option_map f o) kb.finish (Slot j) (shown_by f ts)
  finish_some None j ts = refl
  finish_some (Some t) j ts = put_seen f (Slot j) (ka.finish t) ts ∙ ap (λ x. put (Slot j) x (shown_by f ts)) (s.finish t)

  finish_seen : (j : ℕ) (ts : Places A) → shown_by f (on_place ka.finish (Slot j) ts) ≡ on_place kb.finish (Slot j) (shown_by f ts)
  finish_seen j ts = finish_some (slice_get ts.list j) j ts ∙ ap (λ o. put_some o kb.finish (Slot j) (shown_by f ts)) (sym (slice_get-map f ts.list j))

  finish_counted : (o : Option A) (j : ℕ) (ts : Places A) → Everyone IsCounted ts → Everyone IsCounted (put_some o ka.finish (Slot j) ts)
  finish_counted None j ts h = h
  finish_counted (Some t) j ts h = everyone_put IsCounted (Slot j) ts (ka.finish t) h (s.finish_depth t)

  replaced_seen : (runs : Bool) (j : ℕ) (old new : A) (ts : Places A) → Everyone IsCounted ts → seen_out (shown_by f) (replaced ka runs j old new ts) ≡ replaced kb runs j (f old) (f new) (shown_by f ts)
  replaced_seen true j old new ts h =
      room_seen (shown_by f) (open_levels ka ts) (open_levels kb (shown_by f ts)) (record { list = slice_set ts.list j new; detached = Some old }) (record { list = slice_set (map f ts.list) j (f new); detached = Some (f old) })
      (levels_seen ts h) (ap (λ l. record { list = l; detached = Some (f old) }) (map-set f ts.list j new))
  replaced_seen false j old new ts h =
      let less : Places A = on_place ka.finish (Slot j) ts in
      room_seen (shown_by f) (open_levels ka less) (open_levels kb (on_place kb.finish (Slot j) (shown_by f ts))) (record { list = slice_set ts.list j new; detached = ts.detached }) (record { list = slice_set (map f ts.list) j (f new); detached = option_map f ts.detached })
      (levels_seen less (finish_counted (slice_get ts.list j) j ts h) ∙ ap (open_levels kb) (finish_seen j ts)) (ap (λ l. record { list = l; detached = option_map f ts.detached }) (map-set f ts.list j new))

  replaced_at_seen : (runs : Bool) (j : ℕ) (o : Option A) (new : A) (ts : Places A) → Everyone IsCounted ts → seen_out (shown_by f) (replaced_at ka runs j o new ts) ≡ replaced_at kb runs j (option_map f o) (f new) (shown_by f ts)
  replaced_at_seen runs j None new ts h = refl
  replaced_at_seen runs j (Some old) new ts h = replaced_seen runs j old new ts h

  appended_seen : (new : A) (ts : Places A) → Everyone IsCounted ts → seen_out (shown_by f) (appended ka new ts) ≡ appended kb (f new) (shown_by f ts)
  appended_seen new ts h =
      room_seen (shown_by f) (open_levels ka ts) (open_levels kb (shown_by f ts)) (record { list = ts.list ++ new ∷ []; detached = ts.detached }) (record { list = map f ts.list ++ f new ∷ []; detached = option_map f ts.detached })
      (levels_seen ts h) (ap (λ l. record { list = l; detached = option_map f ts.detached }) (map-append f ts.list (new ∷ [])))

  placed_seen : (running o : Option ℕ) (new : A) (ts : Places A) → Everyone IsCounted ts → seen_out (shown_by f) (placed ka running o new ts) ≡ placed kb running o (f new) (shown_by f ts)
  placed_seen running None new ts h = appended_seen new ts h
  placed_seen running (Some j) new ts h =
      replaced_at_seen (runs_at running j ts.detached) j (slice_get ts.list j) new ts h
      ∙ (λ i. replaced_at kb (runs_seen f running j ts.detached i) j (sym (slice_get-map f ts.list j) i) (f new) (shown_by f ts))

  place_is : (x : Pair) (xs : List A) → position (is_of ka x) xs ≡ position (is_of kb x) (map f xs)
  place_is x xs = (λ i. position (λ t. (sym (s.of t) i == x.of) && (sym (s.hat t) i == hat_block x.head)) xs) ∙ sym (position_seen f (is_of kb x) xs)

  alive_is : (x : Pair) (xs : List A) → list_any (is_alive_of ka x) xs ≡ list_any (is_alive_of kb x) (map f xs)
  alive_is x xs = (λ i. list_any (λ t. ((sym (s.of t) i == x.of) && (sym (s.hat t) i == hat_block x.head)) && not (sym (s.is_done t) i)) xs) ∙ sym (any_seen f (is_alive_of kb x) xs)

  ignored_seen : (b : Bool) (x : Pair) (c : Crowd A) → H x → Everyone IsCounted c.threads → seen_out (seen_crowd f) (ignored_or_appended b ka x c) ≡ ignored_or_appended b kb x (seen_crowd f c)
  ignored_seen true x c k h = refl
  ignored_seen false x c k h =
      joined_seen f c (appended ka (new_thread ka x c) c.threads)
      ∙ ap (joined (seen_crowd f c)) (appended_seen (new_thread ka x c) c.threads h ∙ ap (λ t. appended kb t (shown_by f c.threads)) (s.fresh c.next x k))

  start_seen : (again : Bool) (running : Option ℕ) (x : Pair) (c : Crowd A) → H x → Everyone IsCounted c.threads → seen_out (seen_crowd f) (start_by again ka running x c) ≡ start_by again kb running x (seen_crowd f c)
  start_seen true running x c k h =
      joined_seen f c (placed ka running (position (is_of ka x) c.threads.list) (new_thread ka x c) c.threads)
      ∙ ap (joined (seen_crowd f c)) (placed_seen running (position (is_of ka x) c.threads.list) (new_thread ka x c) c.threads h ∙ (λ i. placed kb running (place_is x c.threads.list i) (s.fresh c.next x k i) (shown_by f c.threads)))
  start_seen false running x c k h =
      ignored_seen (list_any (is_alive_of ka x) c.threads.list) x c k h ∙ ap (λ b. ignored_or_appended b kb x (seen_crowd f c)) (alive_is x c.threads.list)

  -- each thread is still seen with as many levels as it has
  start_counted : (again : Bool) (running : Option ℕ) (x : Pair) (c : Crowd A) → H x → Everyone IsCounted c.threads → IfGoes (start_by again ka running x c) (λ d. Everyone IsCounted d.threads)
  start_counted = start_each ka IsCounted H s.fresh_depth

  -- hats in turn
  pub starts_seen : (running : Option ℕ) (xs : List Pair) (c : Crowd A) → All H xs → Everyone IsCounted c.threads → seen_out (seen_crowd f) (start_all ka running xs c) ≡ start_all kb running xs (seen_crowd f c)
  starts_seen running [] c k h = refl
  starts_seen running (x ∷ xs) c k h =
      let again : Bool = restarts (hat_kind (op_of x.head.hat)) in
      then_seen (seen_crowd f) (start_one ka running x c) (start_all ka running xs) (start_all kb running xs)
      (goes_map (start_one ka running x c) (λ d. Everyone IsCounted d.threads) (λ d. seen_out (seen_crowd f) (start_all ka running xs d) ≡ start_all kb running xs (seen_crowd f d)) (λ d q. starts_seen running xs d (All-tail H x xs k) q) (start_counted again running x c (All-head H x xs k) h))
      ∙ ap (λ o. then_do o (start_all kb running xs)) (start_seen again running x c (All-head H x xs k) h)

  -- Ending

  ended_by : (b : Bool) (t : A) → f (if b then ka.finish t else t) ≡ (if b then kb.finish (f t) else f t)
  ended_by true t = s.finish t
  ended_by false t = refl

  ended_list : (spared : Option Which) (of j : ℕ) (xs : List A) → map f (finished_from ka spared of j xs) ≡ finished_from kb spared of j (map f xs)
  ended_list spared of j [] = refl
  ended_list spared of j (t ∷ ts) =
      ap (λ x. x ∷ map f (finished_from ka spared of (suc j) ts)) (ended_by (ka.of t == of && not (is_spared spared j)) t ∙ ap (λ n. if n == of && not (is_spared spared j) then kb.finish (f t) else f t) (sym (s.of t)))
      ∙ ap (λ l. (if kb.of (f t) == of && not (is_spared spared j) then kb.finish (f t) else f t) ∷ l) (ended_list spared of (suc j) ts)

  pub ended_seen : (spared : Option Which) (of : ℕ) (ts : Places A) → shown_by f (finished_of ka spared of ts) ≡ finished_of kb spared of (shown_by f ts)
  ended_seen spared of ts = ap (λ l. record { list = l; detached = option_map f ts.detached }) (ended_list spared of 0 ts.list)
