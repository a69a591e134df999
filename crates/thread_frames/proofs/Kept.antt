-- The pool of all levels, where a thread is changed.
use Rattle.std.proofs.Common.{◌≡◌, ℕ, zero, suc, ◌≤◌, List, [], ◌∷◌, ◌++◌, map, length, Option, Some, None, slice_get, refl, sym, ap, subst, ◌∙◌, arith}
use Rattle.std.specs.Prelude.{slice_set}
use Rattle.shared_stacks.specs.declared.stack.Stack.{Stack}
use Rattle.shared_stacks.specs.declared.pool.Pool.{Pool}
use Rattle.shared_stacks.specs.Chains.{IsIn, Moves, used}
use Rattle.shared_stacks.specs.Shared.{Stand}
use Rattle.shared_stacks.proofs.Shared.{found-before, found-behind, IsIn-shared, depth-shared, Stand-moved}
use Rattle.shared_stacks.proofs.Holders.{slice_get-stack}
use Rattle.machine_spec.specs.declared.threads.Which.{Which}
use Rattle.machine_spec.specs.declared.threads.Which.TheVariants.{Slot, Detached}
use Rattle.machine_spec.specs.Outcome.{most_levels}
use Rattle.machine_spec.specs.Places.{Places, at_place, put}
use Rattle.thread_frames.specs.Levels.{Level}
use Rattle.thread_frames.specs.Entries.{Entry, stacks_of, stack_some, stack_of}
use Rattle.thread_frames.specs.Indexing.{AreIndexed, keys_of, key_of}
use Rattle.thread_frames.specs.Keeping.{IsKept}
use Rattle.thread_frames.specs.Threads.{Bare}
use Rattle.thread_frames.specs.declared.slot_index.Key.{Key}
use Rattle.thread_frames.specs.declared.indexes.Indexes.{Indexes}
use Rattle.thread_frames.proofs.Maps.{map-same}

-- Where the stack of a thread stands among all

abbrev pub stacks : List Entry → List Stack
stacks es = map (λ e. e.stack) es

abbrev pub place_in : Which → Places Entry → ℕ
place_in (Slot i) ts = i
place_in Detached ts = length (stacks ts.list)

pub stack_found : (which : Which) (e : Entry) (ts : Places Entry) → at_place which ts ≡ Some e → slice_get (stacks_of ts) (place_in which ts) ≡ Some e.stack
stack_found (Slot i) e ts found = found-before (stacks ts.list) (stack_some ts.detached) i e.stack (slice_get-stack (λ (x : Entry). x.stack) ts.list i e found)
stack_found Detached e ts found = ap (λ o. slice_get (stacks ts.list ++ stack_some o) (length (stacks ts.list))) found ∙ found-behind (stacks ts.list) e.stack []

set_listed : (xs : List Entry) (ys : List Stack) (i : ℕ) (e u : Entry) → slice_get xs i ≡ Some e → slice_set (stacks xs ++ ys) i u.stack ≡ stacks (slice_set xs i u) ++ ys
set_listed [] ys i e u found = absurd (cc)
set_listed (x ∷ xs) ys zero e u found = refl
set_listed (x ∷ xs) ys (suc i) e u found = ap (λ zs. x.stack ∷ zs) (set_listed xs ys i e u found)

set_behind : (xs : List Stack) (s t : Stack) → slice_set (xs ++ s ∷ []) (length xs) t ≡ xs ++ t ∷ []
set_behind [] s t = refl
set_behind (x ∷ xs) s t = ap (λ zs. x ∷ zs) (set_behind xs s t)

pub stack_set : (which : Which) (e u : Entry) (ts : Places Entry) → at_place which ts ≡ Some e → slice_set (stacks_of ts) (place_in which ts) u.stack ≡ stacks_of (put which u ts)
stack_set (Slot i) e u ts found = set_listed ts.list (stack_some ts.detached) i e u found
stack_set Detached e u ts found = ap (λ o. slice_set (stacks ts.list ++ stack_some o) (length (stacks ts.list)) u.stack) found ∙ set_behind (stacks ts.list) e.stack u.stack

-- the key of a thread
abbrev pub bare_key : Bare → Key
bare_key t = record { of = t.of; hat = t.hat }

abbrev pub key : (of hat : ℕ) → Key
key of hat = record { of = of; hat = hat }

-- the keys of threads stay where one is changed that keeps its own
pub keys_put : (which : Which) (e u : Entry) (ts : Places Entry) → at_place which ts ≡ Some e → key_of u ≡ key_of e → keys_of (put which u ts).list ≡ keys_of ts.list
keys_put (Slot i) e u ts found same = map-same key_of ts.list i e u found same
keys_put Detached e u ts found same = refl

module _ (p : Pool Level) where
  -- no stack is one of any pool
  pub IsIn-none : IsIn p (record { top = 0; depth = 0 })
  IsIn-none = record { once = λ j. omega arith }

  pub is_in : (which : Which) (e : Entry) (ts : Places Entry) → Stand most_levels p (stacks_of ts) → at_place which ts ≡ Some e → IsIn p e.stack
  is_in which e ts stand found = IsIn-shared p (stacks_of ts) (place_in which ts) e.stack stand.share (stack_found which e ts found)

  is_in_by : (which : Which) (ts : Places Entry) → Stand most_levels p (stacks_of ts) → (o : Option Entry) → at_place which ts ≡ o → IsIn p (stack_of o)
  is_in_by which ts stand None found = IsIn-none
  is_in_by which ts stand (Some e) found = is_in which e ts stand found

  pub is_in_any : (which : Which) (ts : Places Entry) → Stand most_levels p (stacks_of ts) → IsIn p (stack_of (at_place which ts))
  is_in_any which ts stand = is_in_by which ts stand (at_place which ts) refl

  pub depth_few : (which : Which) (e : Entry) (ts : Places Entry) → Stand most_levels p (stacks_of ts) → at_place which ts ≡ Some e → e.stack.depth ≤ used p
  depth_few which e ts stand found = depth-shared p (stacks_of ts) (place_in which ts) e.stack stand.share (stack_found which e ts found)

  depth_by : (which : Which) (ts : Places Entry) → Stand most_levels p (stacks_of ts) → (o : Option Entry) → at_place which ts ≡ o → (stack_of o).depth ≤ used p
  depth_by which ts stand None found = omega arith
  depth_by which ts stand (Some e) found = depth_few which e ts stand found

  pub depth_any : (which : Which) (ts : Places Entry) → Stand most_levels p (stacks_of ts) → (stack_of (at_place which ts)).depth ≤ used p
  depth_any which ts stand = depth_by which ts stand (at_place which ts) refl

  -- a thread was changed, and its stack as it tells
  pub kept_moved : (q : Pool Level) (index : Indexes) (which : Which) (e u : Entry) (ts : Places Entry) → IsKept p index ts → at_place which ts ≡ Some e → Moves p q e.stack u.stack
      → used q ≤ most_levels → key_of u ≡ key_of e → IsKept q index (put which u ts)
  kept_moved q index which e u ts k found moves few same = record {
    stand = subst (Stand most_levels q) (stack_set which e u ts found) (Stand-moved most_levels p q e.stack u.stack (stacks_of ts) (place_in which ts) k.stand moves (stack_found which e ts found) few);
    indexed = subst (AreIndexed index) (sym (keys_put which e u ts found same)) k.indexed;
  }
