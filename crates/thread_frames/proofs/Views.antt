-- What is seen of threads, where one is changed.
use Rattle.std.proofs.Common.{◌≡◌, ℕ, ◌+◌, ◌≤◌, length, Option, Some, None, option_map, refl, sym, ap, ap₂, ◌∙◌, arith}
use Rattle.shared_stacks.specs.declared.stack.Stack.{Stack}
use Rattle.shared_stacks.specs.declared.pool.Pool.{Pool}
use Rattle.shared_stacks.specs.Chains.{Moves, times, keys, values, used, used_at}
use Rattle.shared_stacks.specs.Shared.{Stand, depths, places}
use Rattle.shared_stacks.proofs.Chains.{length-values}
use Rattle.shared_stacks.proofs.Shared.{places-append, places-within, depths-append}
use Rattle.shared_stacks.proofs.Holders.{shown-moved, shown-others, shown-other, depth-shown, slice_get-stack}
use Rattle.machine_spec.specs.declared.threads.Which.{Which}
use Rattle.machine_spec.specs.declared.threads.Which.TheVariants.{Slot, Detached}
use Rattle.machine_spec.specs.Outcome.{most_levels}
use Rattle.machine_spec.specs.Places.{Places, at_place, put, put_some, on_place, sum_some}
use Rattle.machine_spec.specs.Starting.{open_levels}
use Rattle.thread_frames.specs.Levels.{Level}
use Rattle.thread_frames.specs.Threads.{Thread, frames, levels_of}
use Rattle.thread_frames.specs.Entries.{Entry, seen, seen_all, entry_with, stacks_of, stack_some, stack_of}
use Rattle.thread_frames.proofs.Maps.{at_place-shown}
use Rattle.thread_frames.proofs.Kept.{stacks}

stack : Entry → Stack
stack e = e.stack

module _ (p : Pool Level) where
  -- In how many places a slot stands in the stacks of the list, and in that of the detached thread

  pub few_listed : (ts : Places Entry) → Stand most_levels p (stacks_of ts) → (j : ℕ) → places p j (stacks ts.list) + places p j (stack_some ts.detached) ≤ used_at p j
  few_listed ts stand j = omega (arith, stand.share.each j, places-append p j (stacks ts.list) (stack_some ts.detached))

  pub seen_at : (which : Which) (ts : Places Entry) (vs : Places Thread) → seen_all p ts ≡ vs → at_place which vs ≡ option_map (seen p) (at_place which ts)
  seen_at which ts vs view = ap (at_place which) (sym view) ∙ at_place-shown (seen p) which ts

  pub there : (which : Which) (e : Entry) (ts : Places Entry) (vs : Places Thread) → seen_all p ts ≡ vs → at_place which ts ≡ Some e → at_place which vs ≡ Some (seen p e)
  there which e ts vs view found = seen_at which ts vs view ∙ ap (option_map (seen p)) found

  pub nowhere : (which : Which) (ts : Places Entry) (vs : Places Thread) → seen_all p ts ≡ vs → at_place which ts ≡ None → at_place which vs ≡ None
  nowhere which ts vs view none = seen_at which ts vs view ∙ ap (option_map (seen p)) none

  -- where none stands at the place nothing changes
  pub view_none : (f : Thread → Thread) (which : Which) (ts : Places Entry) (vs : Places Thread) → seen_all p ts ≡ vs → at_place which ts ≡ None → vs ≡ on_place f which vs
  view_none f which ts vs view none = sym (ap (λ o. put_some o f which vs) (nowhere which ts vs view none))

  -- the levels of a thread are the values of its stack
  levels_by : (o : Option Entry) → levels_of (option_map (seen p) o) ≡ values p (stack_of o)
  levels_by None = refl
  levels_by (Some e) = refl

  pub levels_seen : (which : Which) (ts : Places Entry) (vs : Places Thread) → seen_all p ts ≡ vs → levels_of (at_place which vs) ≡ values p (stack_of (at_place which ts))
  levels_seen which ts vs view = ap levels_of (seen_at which ts vs view) ∙ levels_by (at_place which ts)

  -- there are as many used slots as open levels
  some_depth : (o : Option Entry) → ((j : ℕ) → places p j (stack_some o) ≤ used_at p j) → sum_some (λ (t : Thread). length t.levels) (option_map (seen p) o) ≡ depths (stack_some o)
  some_depth None few = refl
  some_depth (Some e) few = let here = length-values p e.stack (record { once = λ j. omega (arith, few j) }) in omega (arith, here)

  pub open_is : (ts : Places Entry) (vs : Places Thread) → seen_all p ts ≡ vs → Stand most_levels p (stacks_of ts) → open_levels frames vs ≡ used p
  open_is ts vs view stand =
      let few = few_listed ts stand in
      let listed = depth-shown (λ (e : Entry). e.stack) entry_with (λ (t : Thread). length t.levels) (λ e levels. refl) p ts.list (λ j. omega (arith, few j)) in
      let detached = some_depth ts.detached (λ j. omega (arith, few j)) in
      ap (open_levels frames) (sym view) ∙ omega (arith, listed, detached, depths-append (stacks ts.list) (stack_some ts.detached), stand.share.count)

module _ (p q : Pool Level) where
  -- a stack was changed with which that of the detached thread has no slot in common
  detached_other : (s t : Stack) → Moves p q s t → (o : Option Entry) → ((j : ℕ) → times j (keys p s) + places p j (stack_some o) ≤ used_at p j) → option_map (seen q) o ≡ option_map (seen p) o
  detached_other s t moves None apart = refl
  detached_other s t moves (Some e) apart = ap Some (shown-other (λ (x : Entry). x.stack) entry_with p q s t moves e (λ j. omega (arith, apart j)))

  -- one thread is replaced, whose stack became that of the other, and the others are seen as before
  pub seen_put : (which : Which) (e u : Entry) (ts : Places Entry) → Stand most_levels p (stacks_of ts) → at_place which ts ≡ Some e → Moves p q e.stack u.stack
      → seen_all q (put which u ts) ≡ put which (seen q u) (seen_all p ts)
  seen_put (Slot i) e u ts stand found moves =
      let few = few_listed p ts stand in
      let own = λ (j : ℕ). places-within p j (stacks ts.list) i e.stack (slice_get-stack (λ (x : Entry). x.stack) ts.list i e found) in
      ap₂ (λ xs o. record { list = xs; detached = o })
      (shown-moved (λ (x : Entry). x.stack) entry_with p q e.stack u.stack moves ts.list i e u found refl (λ j. omega (arith, few j)))
      (detached_other e.stack u.stack moves ts.detached (λ j. omega (arith, few j, own j)))
  seen_put Detached e u ts stand found moves =
      let few = few_listed p ts stand in
      ap (λ xs. record { list = xs; detached = Some (seen q u) })
      (shown-others (λ (x : Entry). x.stack) entry_with p q e.stack u.stack moves ts.list (λ j. omega (arith, few j, ap (λ o. places p j (stack_some o)) found)))

  pub view_moved : (f : Thread → Thread) (which : Which) (e u : Entry) (ts : Places Entry) (vs : Places Thread) → seen_all p ts ≡ vs → Stand most_levels p (stacks_of ts) → at_place which ts ≡ Some e
      → Moves p q e.stack u.stack → seen q u ≡ f (seen p e) → seen_all q (put which u ts) ≡ on_place f which vs
  view_moved f which e u ts vs view stand found moves is =
      seen_put which e u ts stand found moves
      ∙ ap₂ (put which) is view
      ∙ sym (ap (λ o. put_some o f which vs) (there p which e ts vs view found))
