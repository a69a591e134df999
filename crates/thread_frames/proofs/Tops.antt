-- The levels of a thread in the pool, where they are changed.
use Rattle.std.proofs.Common.{◌≡◌, ℕ, ◌-◌, ◌<◌, Bool, List, [], ◌∷◌, length, Option, Some, None, slice_get, refl, sym, ap, subst, ◌∙◌, arith}
use Rattle.std.specs.Prelude.{nat_lt}
use Rattle.std.proofs.lemmas.Bool.Decides.{nat_tests}
use Rattle.shared_stacks.specs.declared.stack.Stack.{Stack}
use Rattle.shared_stacks.specs.declared.pool.Pool.{Pool}
use Rattle.shared_stacks.specs.Chains.{IsIn, Moves, values, values_from}
use Rattle.shared_stacks.specs.Lending.{with_top}
use Rattle.shared_stacks.specs.Shared.{Stand}
use Rattle.shared_stacks.proofs.Chains.{Moves-with_top, values-with_top, length-values}
use Rattle.machine_spec.specs.declared.threads.Context.{Context}
use Rattle.machine_spec.specs.declared.threads.Which.{Which}
use Rattle.machine_spec.specs.Outcome.{most_levels}
use Rattle.machine_spec.specs.Places.{Places, at_place, put, on_place, put_some}
use Rattle.thread_frames.specs.Levels.{Level, on_top, with_context, with_loop, without_top, top_context}
use Rattle.thread_frames.specs.Threads.{Thread, on_levels, levels_of}
use Rattle.thread_frames.specs.Entries.{Entry, seen, seen_all, entry_with, stacks_of, stack_of}
use Rattle.thread_frames.specs.Keeping.{IsKept}
use Rattle.thread_frames.specs.declared.indexes.Indexes.{Indexes}
use Rattle.thread_frames.proofs.Maps.{put_same}
use Rattle.thread_frames.proofs.Kept.{kept_moved, is_in, is_in_any}
use Rattle.thread_frames.proofs.Views.{view_moved, view_none, there, levels_seen}

pub left_over : (d : ℕ) → nat_lt 0 (d - 1) ≡ nat_lt 1 d
left_over d = grind (arith, nat_tests)

-- what the block of the top level keeps
pub top_context-first : (ls : List Level) (l : Level) → slice_get ls 0 ≡ Some l → l.context ≡ top_context ls
top_context-first [] l first = absurd (cc)
top_context-first (x ∷ xs) l first = let e : x ≡ l = cc in ap (λ (y : Level). y.context) (sym e)

-- a top level that keeps a loop mark and a context
pub kept-first : (m : Bool) (c : Context) (ls : List Level) (l : Level) → slice_get ls 0 ≡ Some l → with_context c (with_loop m l) ∷ without_top ls ≡ on_top (with_context c) (on_top (with_loop m) ls)
kept-first m c [] l first = absurd (cc)
kept-first m c (x ∷ xs) l first = let e : x ≡ l = cc in ap (λ (y : Level). with_context c (with_loop m y) ∷ xs) (sym e)

pub values-none : (p : Pool Level) (s : Stack) → s.depth ≡ 0 → values p s ≡ []
values-none p s none = ap (λ n. values_from p n s.top) none

-- the stack of a thread became another, which has its levels changed so
pub view_levels : (p q : Pool Level) (g : List Level → List Level) (which : Which) (e : Entry) (t : Stack) (ts : Places Entry) (vs : Places Thread) → seen_all p ts ≡ vs → Stand most_levels p (stacks_of ts)
    → at_place which ts ≡ Some e → Moves p q e.stack t → values q t ≡ g (values p e.stack) → seen_all q (put which (record { thread = e.thread; stack = t }) ts) ≡ on_place (on_levels g) which vs
view_levels p q g which e t ts vs view stand found moves is =
    view_moved p q (on_levels g) which e (record { thread = e.thread; stack = t }) ts vs view stand found moves (ap (entry_with e) is)

module _ (p : Pool Level) where
  -- a change that makes no levels of none changes no thread without levels
  empty_by : (g : List Level → List Level) → g [] ≡ [] → (which : Which) (ts : Places Entry) (vs : Places Thread) → seen_all p ts ≡ vs → (o : Option Entry) → at_place which ts ≡ o → (stack_of o).depth ≡ 0
      → vs ≡ on_place (on_levels g) which vs
  empty_by g none which ts vs view None found empty = view_none p (on_levels g) which ts vs view found
  empty_by g none which ts vs view (Some e) found empty =
      let no_levels : values p e.stack ≡ [] = values-none p e.stack empty in
      let at = there p which e ts vs view found in
      sym (put_same which (seen p e) vs at)
      ∙ ap (λ levels. put which (entry_with e levels) vs) (no_levels ∙ sym none ∙ ap g (sym no_levels))
      ∙ sym (ap (λ o. put_some o (on_levels g) which vs) at)

  pub view_empty : (g : List Level → List Level) → g [] ≡ [] → (which : Which) (ts : Places Entry) (vs : Places Thread) → seen_all p ts ≡ vs → (stack_of (at_place which ts)).depth ≡ 0 → vs ≡ on_place (on_levels g) which vs
  view_empty g none which ts vs view empty = empty_by g none which ts vs view (at_place which ts) refl empty

  -- The top level is another one

  on_top-is : (f : Level → Level) (l : Level) (ls : List Level) → slice_get ls 0 ≡ Some l → f l ∷ without_top ls ≡ on_top f ls
  on_top-is f l [] first = absurd (cc)
  on_top-is f l (x ∷ xs) first = let e : x ≡ l = cc in ap (λ y. f y ∷ xs) (sym e)

  kept_by : (index : Indexes) (which : Which) (ts : Places Entry) (v : Level) → IsKept p index ts → (o : Option Entry) → at_place which ts ≡ o → 0 < (stack_of o).depth → IsKept (with_top p (stack_of o) v) index ts
  kept_by index which ts v k None found some = absurd (omega (arith, some))
  kept_by index which ts v k (Some e) found some =
      let is = is_in p which e ts k.stand found in
      let moves = Moves-with_top p e.stack v is some in
      subst (IsKept (with_top p e.stack v) index) (put_same which e ts found)
      (kept_moved p (with_top p e.stack v) index which e e ts k found moves (omega (arith, moves.count, k.stand.few)) refl)

  pub kept_top : (index : Indexes) (which : Which) (ts : Places Entry) (s : Stack) (v : Level) → s ≡ stack_of (at_place which ts) → IsKept p index ts → 0 < s.depth → IsKept (with_top p s v) index ts
  kept_top index which ts s v same k some = rw same (kept_by index which ts v k (at_place which ts) refl (omega (arith, some, ap (λ (x : Stack). x.depth) same)))

  view_by : (f : Level → Level) (l v : Level) (which : Which) (ts : Places Entry) (vs : Places Thread) → seen_all p ts ≡ vs → Stand most_levels p (stacks_of ts) → (o : Option Entry) → at_place which ts ≡ o → 0 < (stack_of o).depth
      → slice_get (values p (stack_of o)) 0 ≡ Some l → v ≡ f l → seen_all (with_top p (stack_of o) v) ts ≡ on_place (on_levels (on_top f)) which vs
  view_by f l v which ts vs view stand None found some first is = absurd (omega (arith, some))
  view_by f l v which ts vs view stand (Some e) found some first is =
      let inside = is_in p which e ts stand found in
      let moves = Moves-with_top p e.stack v inside some in
      let now : values (with_top p e.stack v) e.stack ≡ on_top f (values p e.stack) =
      values-with_top p e.stack v inside some ∙ ap (λ x. x ∷ without_top (values p e.stack)) is ∙ on_top-is f l (values p e.stack) first in
      sym (ap (seen_all (with_top p e.stack v)) (put_same which e ts found))
      ∙ view_levels p (with_top p e.stack v) (on_top f) which e e.stack ts vs view stand found moves now

  pub view_top : (f : Level → Level) (l v : Level) (which : Which) (ts : Places Entry) (vs : Places Thread) (s : Stack) → s ≡ stack_of (at_place which ts) → seen_all p ts ≡ vs → Stand most_levels p (stacks_of ts) → 0 < s.depth
      → slice_get (values p s) 0 ≡ Some l → v ≡ f l → seen_all (with_top p s v) ts ≡ on_place (on_levels (on_top f)) which vs
  view_top f l v which ts vs s same view stand some first is =
      rw same (view_by f l v which ts vs view stand (at_place which ts) refl (omega (arith, some, ap (λ (x : Stack). x.depth) same)) (ap (λ x. slice_get (values p x) 0) (sym same) ∙ first) is)

  -- Its stack is read

  pub read_in : (which : Which) (ts : Places Entry) (s : Stack) → s ≡ stack_of (at_place which ts) → Stand most_levels p (stacks_of ts) → IsIn p s
  read_in which ts s same stand = rw same (is_in_any p which ts stand)

  pub read_levels : (which : Which) (ts : Places Entry) (vs : Places Thread) (s : Stack) → s ≡ stack_of (at_place which ts) → seen_all p ts ≡ vs → values p s ≡ levels_of (at_place which vs)
  read_levels which ts vs s same view = ap (values p) same ∙ sym (levels_seen p which ts vs view)

  pub read_depth : (which : Which) (ts : Places Entry) (vs : Places Thread) (s : Stack) → s ≡ stack_of (at_place which ts) → seen_all p ts ≡ vs → Stand most_levels p (stacks_of ts) → s.depth ≡ length (levels_of (at_place which vs))
  read_depth which ts vs s same view stand = sym (length-values p s (read_in which ts s same stand)) ∙ ap length (read_levels which ts vs s same view)

  pub read_empty : (g : List Level → List Level) → g [] ≡ [] → (which : Which) (ts : Places Entry) (vs : Places Thread) (s : Stack) → s ≡ stack_of (at_place which ts) → seen_all p ts ≡ vs → s.depth ≡ 0 → vs ≡ on_place (on_levels g) which vs
  read_empty g none which ts vs s same view empty = view_empty g none which ts vs view (ap (λ (x : Stack). x.depth) (sym same) ∙ empty)

  -- an entry's own depth
  pub entry_depth : (which : Which) (e : Entry) (ts : Places Entry) (vs : Places Thread) → seen_all p ts ≡ vs → Stand most_levels p (stacks_of ts) → at_place which ts ≡ Some e → length (levels_of (at_place which vs)) ≡ e.stack.depth
  entry_depth which e ts vs view stand found = ap (λ o. length (levels_of o)) (there p which e ts vs view found) ∙ length-values p e.stack (is_in p which e ts stand found)
