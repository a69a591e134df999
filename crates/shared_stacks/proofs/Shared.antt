-- Stacks that share a pool, before and after a change of one of them, or of which there are.
use Rattle.std.proofs.Common.{◌≡◌, ℕ, zero, suc, ◌+◌, ◌≤◌, List, [], ◌∷◌, ◌++◌, length, Some, refl, sym, ap, ◌∙◌, arith}
use Rattle.std.specs.Prelude.{slice_get, slice_set}
use Rattle.shared_stacks.specs.declared.stack.Stack.{Stack}
use Rattle.shared_stacks.specs.declared.pool.Pool.{Pool}
use Rattle.shared_stacks.specs.Chains.{times, used, used_at, capacity, keys, keys_from, values, IsIn, Moves}
use Rattle.shared_stacks.specs.Shared.{depths, places, Share, Stand}
use Rattle.shared_stacks.proofs.Chains.{same_chain, used_at-few}

-- How many values there are in all

pub depths-append : (xs ys : List Stack) → depths (xs ++ ys) ≡ depths xs + depths ys
depths-append [] ys = omega arith
depths-append (x ∷ xs) ys = omega (arith, depths-append xs ys)

pub depths-set : (ss : List Stack) (i : ℕ) (s t : Stack) → slice_get ss i ≡ Some s → depths (slice_set ss i t) + s.depth ≡ depths ss + t.depth
depths-set [] i s t found = absurd (cc)
depths-set (o ∷ os) zero s t found = let e : o ≡ s = cc in omega (arith, ap (λ x. x.depth) e)
depths-set (o ∷ os) (suc i) s t found = omega (arith, depths-set os i s t found)

-- Stacks of a list, and those behind it

pub found-before : (xs ys : List Stack) (i : ℕ) (s : Stack) → slice_get xs i ≡ Some s → slice_get (xs ++ ys) i ≡ Some s
found-before [] ys i s found = absurd (cc)
found-before (x ∷ xs) ys zero s found = found
found-before (x ∷ xs) ys (suc i) s found = found-before xs ys i s found

pub found-behind : (xs : List Stack) (s : Stack) (ys : List Stack) → slice_get (xs ++ s ∷ ys) (length xs) ≡ Some s
found-behind [] s ys = refl
found-behind (x ∷ xs) s ys = found-behind xs s ys

module _ {T : Type 0} where
  -- In how many places a slot stands

  pub places-append : (p : Pool T) (j : ℕ) (xs ys : List Stack) → places p j (xs ++ ys) ≡ places p j xs + places p j ys
  places-append p j [] ys = omega arith
  places-append p j (x ∷ xs) ys = omega (arith, places-append p j xs ys)

  pub places-set : (p : Pool T) (j : ℕ) (ss : List Stack) (i : ℕ) (s t : Stack) → slice_get ss i ≡ Some s
      → places p j (slice_set ss i t) + times j (keys p s) ≡ places p j ss + times j (keys p t)
  places-set p j [] i s t found = absurd (cc)
  places-set p j (o ∷ os) zero s t found = let e : o ≡ s = cc in omega (arith, ap (λ x. times j (keys p x)) e)
  places-set p j (o ∷ os) (suc i) s t found = omega (arith, places-set p j os i s t found)

  pub places-within : (p : Pool T) (j : ℕ) (ss : List Stack) (i : ℕ) (s : Stack) → slice_get ss i ≡ Some s → times j (keys p s) ≤ places p j ss
  places-within p j [] i s found = absurd (cc)
  places-within p j (o ∷ os) zero s found = let e : o ≡ s = cc in omega (arith, ap (λ x. times j (keys p x)) e)
  places-within p j (o ∷ os) (suc i) s found = omega (arith, places-within p j os i s found)

  times-none : (p : Pool T) (j : ℕ) (s : Stack) → s.depth ≡ 0 → times j (keys p s) ≡ 0
  times-none p j s none = ap (λ n. times j (keys_from p n s.top)) none

  -- Each of the stacks

  pub IsIn-shared : (p : Pool T) (ss : List Stack) (i : ℕ) (s : Stack) → Share p ss → slice_get ss i ≡ Some s → IsIn p s
  IsIn-shared p ss i s share found = record { once = λ j. omega (arith, places-within p j ss i s found, share.each j) }

  pub depth-shared : (p : Pool T) (ss : List Stack) (i : ℕ) (s : Stack) → Share p ss → slice_get ss i ≡ Some s → s.depth ≤ used p
  depth-shared p ss i s share found = omega (arith, share.count, depths-set ss i s (record { top = 0; depth = 0 }) found)

  -- One of the stacks was changed

  -- a stack that has no slot in common with it keeps its slots and values
  pub other_kept : (p q : Pool T) (s t o : Stack) → Moves p q s t → ((j : ℕ) → times j (keys p s) + times j (keys p o) ≤ used_at p j)
      → (keys q o ≡ keys p o) × (values q o ≡ values p o)
  other_kept p q s t o moves apart =
      same_chain p q o.depth o.top (λ j on. moves.others j (omega (arith, on, apart j, used_at-few p j)) (omega (arith, on, apart j)))

  others_kept : (p q : Pool T) (s t : Stack) → Moves p q s t → (ss : List Stack) → ((j : ℕ) → times j (keys p s) + places p j ss ≤ used_at p j)
      → (j : ℕ) → places q j ss ≡ places p j ss
  others_kept p q s t moves [] apart j = refl
  others_kept p q s t moves (o ∷ os) apart j =
      let here = other_kept p q s t o moves (λ i. omega (arith, apart i)) in
      omega (arith, ap (times j) here.0, others_kept p q s t moves os (λ i. omega (arith, apart i)) j)

  places-moved : (p q : Pool T) (s t : Stack) → Moves p q s t → (ss : List Stack) (i : ℕ) → slice_get ss i ≡ Some s → ((j : ℕ) → places p j ss ≤ used_at p j)
      → (j : ℕ) → places q j (slice_set ss i t) + times j (keys p s) ≡ places p j ss + times j (keys q t)
  places-moved p q s t moves [] i found few j = absurd (cc)
  places-moved p q s t moves (o ∷ os) zero found few j =
      let e : o ≡ s = cc in
      let rest = others_kept p q s t moves os (λ i. omega (arith, few i, ap (λ x. times i (keys p x)) e)) in
      omega (arith, rest j, ap (λ x. times j (keys p x)) e)
  places-moved p q s t moves (o ∷ os) (suc i) found few j =
      let here = other_kept p q s t o moves (λ k. omega (arith, few k, places-within p k os i s found)) in
      omega (arith, ap (times j) here.0, places-moved p q s t moves os i found (λ k. omega (arith, few k)) j)

  -- the stack in a place is replaced by what it became
  pub Share-moved : (p q : Pool T) (s t : Stack) (ss : List Stack) (i : ℕ) → Share p ss → Moves p q s t → slice_get ss i ≡ Some s → Share q (slice_set ss i t)
  Share-moved p q s t ss i share moves found =
      record {
        each = λ j. omega (arith, places-moved p q s t moves ss i found (λ k. omega (arith, share.each k)) j, share.each j, moves.balance j);
        count = omega (arith, share.count, moves.count, depths-set ss i s t found);
      }

  pub Stand-moved : (most : ℕ) (p q : Pool T) (s t : Stack) (ss : List Stack) (i : ℕ) → Stand most p ss → Moves p q s t → slice_get ss i ≡ Some s → used q ≤ most
      → Stand most q (slice_set ss i t)
  Stand-moved most p q s t ss i stand moves found few =
      record { share = Share-moved p q s t ss i stand.share moves found; few = few; room = omega (arith, stand.room, moves.room) }

  -- No stacks

  none-used : (p : Pool T) (j : ℕ) → p.slab.slots ≡ [] → used_at p j ≡ 0
  none-used p j none = rw none refl

  pub Stand-none : (most : ℕ) (p : Pool T) → p.slab.slots ≡ [] → most ≤ capacity p → Stand most p []
  Stand-none most p none room =
      let count : used p ≡ 0 = rw none refl in
      record { share = record { each = λ j. sym (none-used p j none); count = count }; few = omega (arith, count); room = room }

  -- Other stacks with the same slots

  -- each slot stands in as many places of these as of those, and they have as many values
  pub record SameSlots (p : Pool T) (ss us : List Stack) : Type 0 where
    pub each : (j : ℕ) → places p j us ≡ places p j ss
    pub count : depths us ≡ depths ss

  pub SameSlots-sym : (p : Pool T) (ss us : List Stack) → SameSlots p ss us → SameSlots p us ss
  SameSlots-sym p ss us same = record { each = λ j. sym (same.each j); count = sym same.count }

  pub SameSlots-then : (p : Pool T) (ss us ws : List Stack) → SameSlots p ss us → SameSlots p us ws → SameSlots p ss ws
  SameSlots-then p ss us ws first second = record { each = λ j. second.each j ∙ first.each j; count = second.count ∙ first.count }

  pub SameSlots-beside : (p : Pool T) (ss us os : List Stack) → SameSlots p ss us → SameSlots p (ss ++ os) (us ++ os)
  SameSlots-beside p ss us os same =
      record {
        each = λ j. omega (arith, places-append p j ss os, places-append p j us os, same.each j);
        count = omega (arith, depths-append ss os, depths-append us os, same.count);
      }

  -- a stack of no values more
  pub SameSlots-more : (p : Pool T) (ss : List Stack) (s : Stack) → s.depth ≡ 0 → SameSlots p ss (ss ++ s ∷ [])
  SameSlots-more p ss s none =
      record {
        each = λ j. omega (arith, places-append p j ss (s ∷ []), times-none p j s none);
        count = omega (arith, depths-append ss (s ∷ []), none);
      }

  -- the stack in a place and one behind the list swap
  pub SameSlots-swapped : (p : Pool T) (ss : List Stack) (i : ℕ) (s t : Stack) → slice_get ss i ≡ Some s → SameSlots p (ss ++ t ∷ []) (slice_set ss i t ++ s ∷ [])
  SameSlots-swapped p ss i s t found =
      record {
        each = λ j. omega (arith, places-append p j ss (t ∷ []), places-append p j (slice_set ss i t) (s ∷ []), places-set p j ss i s t found);
        count = omega (arith, depths-append ss (t ∷ []), depths-append (slice_set ss i t) (s ∷ []), depths-set ss i s t found);
      }

  pub Share-same : (p : Pool T) (ss us : List Stack) → SameSlots p ss us → Share p ss → Share p us
  Share-same p ss us same share = record { each = λ j. same.each j ∙ share.each j; count = share.count ∙ sym same.count }

  pub Stand-same : (most : ℕ) (p : Pool T) (ss us : List Stack) → SameSlots p ss us → Stand most p ss → Stand most p us
  Stand-same most p ss us same stand = record { share = Share-same p ss us same stand.share; few = stand.few; room = stand.room }
