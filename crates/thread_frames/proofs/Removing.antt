-- Threads are appended, swapped and taken away, as the pool sees it.
use Rattle.std.proofs.Common.{◌≡◌, ℕ, ◌≤◌, List, [], ◌∷◌, ◌++◌, map, length, Bool, true, false, cond, Option, Some, None, option_map, slice_get, refl, sym, ap, ap₂, subst, ◌∙◌, arith, inl, inr}
use Rattle.std.specs.Prelude.{slice_set, filter, not}
use Rattle.std.specs.List.{All, list_any}
use Rattle.std.proofs.lemmas.Bool.{cases_Bool}
use Rattle.std.proofs.lemmas.List.{append-nil}
use Rattle.std.proofs.lemmas.List.Elements.{All-nil, All-cons, All-head, All-tail}
use Rattle.shared_stacks.specs.declared.stack.Stack.{Stack}
use Rattle.shared_stacks.specs.declared.pool.Pool.{Pool}
use Rattle.shared_stacks.specs.Chains.{values, used_at}
use Rattle.shared_stacks.specs.Shared.{Stand, places}
use Rattle.shared_stacks.proofs.Chains.{length-values}
use Rattle.shared_stacks.proofs.Shared.{SameSlots, SameSlots-sym, SameSlots-beside, SameSlots-more, SameSlots-swapped, Stand-same}
use Rattle.shared_stacks.proofs.Holders.{SameSlots-kept, IsBare, slice_get-stack}
use Rattle.machine_spec.specs.declared.threads.Which.{Which}
use Rattle.machine_spec.specs.declared.threads.Which.TheVariants.{Detached}
use Rattle.machine_spec.specs.Outcome.{most_levels}
use Rattle.machine_spec.specs.Places.{Places, at_place, put_some, on_place}
use Rattle.machine_spec.specs.Threads.{is_done}
use Rattle.thread_frames.specs.Levels.{Level}
use Rattle.thread_frames.specs.Threads.{Thread, Bare, finish, levels_of, with_levels, without_detached, without_done}
use Rattle.thread_frames.specs.Entries.{Entry, seen, seen_all, stacks_of, stack_some, none_detached, none_done, is_done_entry}
use Rattle.thread_frames.specs.Restarting.{swapped}
use Rattle.thread_frames.specs.Stopping.{emptied, DoneAreEmpty, IsEmptyIfDone}
use Rattle.thread_frames.proofs.Maps.{map-at, map-set, any-map, some_same}
use Rattle.thread_frames.proofs.Kept.{stacks, is_in}
use Rattle.thread_frames.proofs.Views.{few_listed}

pub map_push : {A B : Type 0} (f : A → B) (xs : List A) (x : A) → map f (xs ++ x ∷ []) ≡ map f xs ++ f x ∷ []
map_push f [] x = refl
map_push f (y ∷ ys) x = ap (λ zs. f y ∷ zs) (map_push f ys x)

module _ (p : Pool Level) where
  -- A thread without levels is appended

  pub Stand-more : (e : Entry) (ts us : Places Entry) → e.stack.depth ≡ 0 → Stand most_levels p (stacks_of ts) → us ≡ record { list = ts.list ++ e ∷ []; detached = ts.detached } → Stand most_levels p (stacks_of us)
  Stand-more e ts us none stand is =
      let same = SameSlots-beside p (stacks ts.list) (stacks ts.list ++ e.stack ∷ []) (stack_some ts.detached) (SameSlots-more p (stacks ts.list) e.stack none) in
      let there : (stacks ts.list ++ e.stack ∷ []) ++ stack_some ts.detached ≡ stacks_of us =
      ap (λ ss. ss ++ stack_some ts.detached) (sym (map_push (λ (x : Entry). x.stack) ts.list e)) ∙ sym (ap stacks_of is) in
      subst (Stand most_levels p) there (Stand-same most_levels p (stacks_of ts) ((stacks ts.list ++ e.stack ∷ []) ++ stack_some ts.detached) same stand)

  pub view_more : (e : Entry) (ts us : Places Entry) (vs : Places Thread) → seen_all p ts ≡ vs → us ≡ record { list = ts.list ++ e ∷ []; detached = ts.detached }
      → seen_all p us ≡ record { list = vs.list ++ seen p e ∷ []; detached = vs.detached }
  view_more e ts us vs view is =
      ap (seen_all p) is
      ∙ ap (λ xs. record { list = xs; detached = option_map (seen p) ts.detached }) (map_push (seen p) ts.list e)
      ∙ ap (λ (ws : Places Thread). record { list = ws.list ++ seen p e ∷ []; detached = ws.detached }) view

  -- A thread without levels takes a slot, and the one that stood there is the detached one

  pub Stand-swapped : (i : ℕ) (e u : Entry) (ts us : Places Entry) → Stand most_levels p (stacks_of ts) → ts.detached ≡ None → slice_get ts.list i ≡ Some e → u.stack.depth ≡ 0
      → us ≡ record { list = slice_set ts.list i u; detached = slice_get ts.list i } → Stand most_levels p (stacks_of us)
  Stand-swapped i e u ts us stand free found none is =
      let alone : stacks_of ts ≡ stacks ts.list = ap (λ o. stacks ts.list ++ stack_some o) free ∙ append-nil (stacks ts.list) in
      let more = Stand-same most_levels p (stacks ts.list) (stacks ts.list ++ u.stack ∷ []) (SameSlots-more p (stacks ts.list) u.stack none) (subst (Stand most_levels p) alone stand) in
      let swap = SameSlots-swapped p (stacks ts.list) i e.stack u.stack (slice_get-stack (λ (x : Entry). x.stack) ts.list i e found) in
      let there : slice_set (stacks ts.list) i u.stack ++ e.stack ∷ [] ≡ stacks_of us =
      ap (λ ss. ss ++ e.stack ∷ []) (sym (map-set (λ (x : Entry). x.stack) ts.list i u)) ∙ sym (ap stacks_of (is ∙ ap (λ o. record { list = slice_set ts.list i u; detached = o }) found)) in
      subst (Stand most_levels p) there (Stand-same most_levels p (stacks ts.list ++ u.stack ∷ []) (slice_set (stacks ts.list) i u.stack ++ e.stack ∷ []) swap more)

  pub view_swapped : (i : ℕ) (new : Bare) (u : Entry) (ts us : Places Entry) (vs : Places Thread) → seen_all p ts ≡ vs → us ≡ record { list = slice_set ts.list i u; detached = slice_get ts.list i }
      → seen p u ≡ with_levels new [] → seen_all p us ≡ swapped i new vs
  view_swapped i new u ts us vs view is new_is =
      ap (seen_all p) is
      ∙ ap₂ (λ xs o. record { list = xs; detached = o })
      (map-set (seen p) ts.list i u ∙ ap₂ (λ (ws : Places Thread) (t : Thread). slice_set ws.list i t) view new_is)
      (sym (map-at (seen p) ts.list i) ∙ ap (λ (ws : Places Thread). slice_get ws.list i) view)

  -- where a thread is seen in a slot, an entry stands there
  pub entry_by : (o : Option Entry) (t : Thread) → option_map (seen p) o ≡ Some t → (e : Entry) × (o ≡ Some e) × (seen p e ≡ t)
  entry_by None t is = absurd (cc)
  entry_by (Some e) t is = (e, refl, some_same (seen p e) t is)

  pub entry_at : (i : ℕ) (t : Thread) (ts : Places Entry) (vs : Places Thread) → seen_all p ts ≡ vs → slice_get vs.list i ≡ Some t → (e : Entry) × (slice_get ts.list i ≡ Some e) × (seen p e ≡ t)
  entry_at i t ts vs view at = entry_by (slice_get ts.list i) t (sym (map-at (seen p) ts.list i) ∙ ap (λ (ws : Places Thread). slice_get ws.list i) view ∙ at)

  pub free_by : (o : Option Entry) → option_map (seen p) o ≡ None → o ≡ None
  free_by None is = refl
  free_by (Some e) is = absurd (cc)

  -- The detached thread, which has no levels, is taken away

  less_by : (ss : List Stack) (o : Option Entry) → (levels_of (option_map (seen p) o) ≡ [] → (e : Entry) → o ≡ Some e → e.stack.depth ≡ 0) → levels_of (option_map (seen p) o) ≡ [] → SameSlots p (ss ++ stack_some o) (ss ++ [])
  less_by ss None bare none = record { each = λ j. refl; count = refl }
  less_by ss (Some e) bare none =
      let empty = bare none e refl in
      let back = SameSlots-sym p ss (ss ++ e.stack ∷ []) (SameSlots-more p ss e.stack empty) in
      subst (λ us. SameSlots p (ss ++ e.stack ∷ []) us) (sym (append-nil ss)) back

  empty_stack : (which : Which) (ts : Places Entry) (e : Entry) → Stand most_levels p (stacks_of ts) → at_place which ts ≡ Some e → values p e.stack ≡ [] → e.stack.depth ≡ 0
  empty_stack which ts e stand found none = omega (arith, length-values p e.stack (is_in p which e ts stand found), ap length none)

  pub Stand-less : (ts us : Places Entry) (vs : Places Thread) → Stand most_levels p (stacks_of ts) → seen_all p ts ≡ vs → levels_of vs.detached ≡ [] → us ≡ none_detached ts → Stand most_levels p (stacks_of us)
  Stand-less ts us vs stand view none is =
      let bare : levels_of (option_map (seen p) ts.detached) ≡ [] = ap (λ (ws : Places Thread). levels_of ws.detached) view ∙ none in
      let same = less_by (stacks ts.list) ts.detached (λ empty e found. empty_stack Detached ts e stand found (sym (ap (λ o. levels_of (option_map (seen p) o)) found) ∙ empty)) bare in
      subst (λ (x : Places Entry). Stand most_levels p (stacks_of x)) (sym is) (Stand-same most_levels p (stacks_of ts) (stacks_of (none_detached ts)) same stand)

  -- Threads that are done, and have no levels, are taken away

  empties : (xs : List Entry) → ((j : ℕ) → places p j (stacks xs) ≤ used_at p j) → DoneAreEmpty (map (seen p) xs) → All (IsBare (λ (x : Entry). x.stack) (λ e. not (is_done_entry e)) p) xs
  empties [] few all = All-nil (IsBare (λ (x : Entry). x.stack) (λ e. not (is_done_entry e)) p)
  empties (x ∷ xs) few all =
      let here : IsEmptyIfDone (seen p x) = All-head IsEmptyIfDone (seen p x) (map (seen p) xs) all in
      let rest = empties xs (λ j. omega (arith, few j)) (All-tail IsEmptyIfDone (seen p x) (map (seen p) xs) all) in
      All-cons (IsBare (λ (y : Entry). y.stack) (λ e. not (is_done_entry e)) p) x xs
      (λ left. omega (arith, length-values p x.stack (record { once = λ j. omega (arith, few j) }), ap length (here (is_not (is_done_entry x) left))))
      rest
    where
      is_not : (b : Bool) → not b ≡ false → b ≡ true
      is_not true e = refl
      is_not false e = absurd (cc)

  pub Stand-alive : (ts us : Places Entry) (vs : Places Thread) → Stand most_levels p (stacks_of ts) → seen_all p ts ≡ vs → DoneAreEmpty vs.list → us ≡ none_done ts → Stand most_levels p (stacks_of us)
  Stand-alive ts us vs stand view all is =
      let bare = empties ts.list (λ j. omega (arith, few_listed p ts stand j)) (subst (λ (ws : Places Thread). DoneAreEmpty ws.list) (sym view) all) in
      let same = SameSlots-beside p (stacks ts.list) (stacks (none_done ts).list) (stack_some ts.detached) (SameSlots-kept (λ (x : Entry). x.stack) (λ e. not (is_done_entry e)) p ts.list bare) in
      subst (λ (x : Places Entry). Stand most_levels p (stacks_of x)) (sym is) (Stand-same most_levels p (stacks_of ts) (stacks_of (none_done ts)) same stand)

  alive_by : (b : Bool) (x : Entry) (ys : List Entry) (zs : List Thread) → map (seen p) ys ≡ zs → map (seen p) (cond (not b) (x ∷ ys) ys) ≡ cond (not b) (seen p x ∷ zs) zs
  alive_by true x ys zs same = same
  alive_by false x ys zs same = ap (λ ws. seen p x ∷ ws) same

  alive_seen : (xs : List Entry) → map (seen p) (filter (λ e. not (is_done_entry e)) xs) ≡ filter (λ t. not (is_done t.status)) (map (seen p) xs)
  alive_seen [] = refl
  alive_seen (x ∷ xs) = alive_by (is_done_entry x) x (filter (λ e. not (is_done_entry e)) xs) (filter (λ t. not (is_done t.status)) (map (seen p) xs)) (alive_seen xs)

  pub view_alive : (ts us : Places Entry) (vs : Places Thread) → seen_all p ts ≡ vs → us ≡ none_done ts → seen_all p us ≡ record { list = (without_done vs).list; detached = vs.detached }
  view_alive ts us vs view is =
      ap (seen_all p) is
      ∙ ap (λ xs. record { list = xs; detached = option_map (seen p) ts.detached }) (alive_seen ts.list)
      ∙ ap (λ (ws : Places Thread). record { list = (without_done ws).list; detached = ws.detached }) view

  pub any_done : (ts : Places Entry) (vs : Places Thread) → seen_all p ts ≡ vs → list_any is_done_entry ts.list ≡ list_any (λ (t : Thread). is_done t.status) vs.list
  any_done ts vs view = sym (any-map (seen p) (λ (t : Thread). is_done t.status) ts.list) ∙ ap (λ (ws : Places Thread). list_any (λ (t : Thread). is_done t.status) ws.list) view

-- As threads are seen

pub emptied_true : (t : Thread) → is_done t.status ≡ true → emptied t ≡ record t { levels = [] }
emptied_true t e = ap (λ b. cond b (record t { levels = [] }) t) e

pub emptied_false : (t : Thread) → is_done t.status ≡ false → emptied t ≡ t
emptied_false t e = ap (λ b. cond b (record t { levels = [] }) t) e

emptied_none : (t : Thread) → IsEmptyIfDone (emptied t)
emptied_none t = elim (cases_Bool (is_done t.status)) [
  | inl done ↦ rw done (λ e. refl)
  | inr alive ↦ rw alive (λ e. absurd (cc (e, alive)))
]

pub emptied_are : (xs : List Thread) → DoneAreEmpty (map emptied xs)
emptied_are [] = All-nil IsEmptyIfDone
emptied_are (x ∷ xs) = All-cons IsEmptyIfDone (emptied x) (map emptied xs) (emptied_none x) (emptied_are xs)

-- threads that are done leave the list the same whether they gave up their levels before
leave_by : (b : Bool) (x : Thread) (zs ws : List Thread) → is_done x.status ≡ b → zs ≡ ws → cond (not (is_done (emptied x).status)) (emptied x ∷ zs) zs ≡ cond (not (is_done x.status)) (x ∷ ws) ws
leave_by true x zs ws e same = rw (emptied_true x e, e) same
leave_by false x zs ws e same = rw (emptied_false x e, e) (ap (λ ys. x ∷ ys) same)

pub emptied_leave : (xs : List Thread) → filter (λ t. not (is_done t.status)) (map emptied xs) ≡ filter (λ t. not (is_done t.status)) xs
emptied_leave [] = refl
emptied_leave (x ∷ xs) = leave_by (is_done x.status) x (filter (λ t. not (is_done t.status)) (map emptied xs)) (filter (λ t. not (is_done t.status)) xs) refl (emptied_leave xs)

-- the detached thread is finished, and then taken away
finish_by : (ts : Places Thread) (o : Option Thread) → ts.detached ≡ o → (levels_of (put_some o finish Detached ts).detached ≡ []) × (without_detached (put_some o finish Detached ts) ≡ without_detached ts)
finish_by ts None e = (ap levels_of e, refl)
finish_by ts (Some t) e = (refl, refl)

pub finished_detached : (ts us : Places Thread) → us ≡ on_place finish Detached ts → (levels_of us.detached ≡ []) × (without_detached us ≡ without_detached ts)
finished_detached ts us is =
    let both = finish_by ts ts.detached refl in
    (ap (λ (x : Places Thread). levels_of x.detached) is ∙ both.0, ap without_detached is ∙ both.1)
