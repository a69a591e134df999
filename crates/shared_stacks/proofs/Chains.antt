-- One stack of a pool, before and after a change of the pool.
use Rattle.std.proofs.Common.{◌≡◌, ℕ, zero, suc, ◌+◌, ◌-◌, ◌<◌, ◌≤◌, inl, inr, true, cond, List, [], ◌∷◌, length, Option, Some, None, is_some, drop, refl, sym, ap, ◌∙◌, arith}
use Rattle.std.proofs.lemmas.Bool.{cases_eq}
use Rattle.std.proofs.lemmas.Bool.Decides.{nat_tests}
use Rattle.std.specs.Prelude.{slice_get}
use Rattle.std.proofs.lemmas.List.Sums.{sum_by-set}
use Rattle.slab.specs.Slab.{Updates}
use Rattle.slab.proofs.SlabLemmas.{ContainsKey-within, Updates-with_value}
use Rattle.shared_stacks.specs.declared.slot.Slot.{Slot}
use Rattle.shared_stacks.specs.declared.stack.Stack.{Stack}
use Rattle.shared_stacks.specs.declared.pool.Pool.{Pool}
use Rattle.shared_stacks.specs.Chains.{times, without_top, one, under_of, value_on, used, capacity, slot_at, used_at, keys_from, values_from, keys, values, IsIn, Moves}
use Rattle.shared_stacks.specs.Lending.{with_top}

-- Keys in a list

times-here : (j k : ℕ) (ks : List ℕ) → j ≡ k → times j (k ∷ ks) ≡ 1 + times j ks
times-here j k ks same = grind (arith, nat_tests)

times-other : (j k : ℕ) (ks : List ℕ) → (j ≡ k → ⊥) → times j (k ∷ ks) ≡ times j ks
times-other j k ks differs = grind (arith, nat_tests)

times-under : (j k : ℕ) (ks : List ℕ) → times j ks ≤ times j (k ∷ ks)
times-under j k ks = grind (arith, nat_tests)

-- one key more, which is used now and was not
balance-more : (j k : ℕ) (ks : List ℕ) (a b : ℕ) → (j ≡ k → (a ≡ 0) × (b ≡ 1)) → ((j ≡ k → ⊥) → b ≡ a) → times j (k ∷ ks) + a ≡ times j ks + b
balance-more j k ks a b at_k off =
    elim (cases_eq j k) [
      | inl same ↦ omega (arith, times-here j k ks same, (at_k same).0, (at_k same).1)
      | inr differs ↦ omega (arith, times-other j k ks differs, off differs)
    ]

-- Values of a list, from one on

pub without_top-drop : {X : Type 0} (xs : List X) (i : ℕ) → without_top (drop i xs) ≡ drop (suc i) xs
without_top-drop [] zero = refl
without_top-drop [] (suc i) = refl
without_top-drop (x ∷ xs) zero = refl
without_top-drop (x ∷ xs) (suc i) = without_top-drop xs i

pub first-drop : {X : Type 0} (xs : List X) (i : ℕ) → slice_get (drop i xs) 0 ≡ slice_get xs i
first-drop [] zero = refl
first-drop [] (suc i) = refl
first-drop (x ∷ xs) zero = refl
first-drop (x ∷ xs) (suc i) = first-drop xs i

module _ {T : Type 0} where
  one-few : (o : Option (Slot T)) → one o ≤ 1
  one-few None = omega arith
  one-few (Some x) = omega arith

  pub used_at-few : (p : Pool T) (j : ℕ) → used_at p j ≤ 1
  used_at-few p j = one-few (slot_at p j)

  used_some : (p : Pool T) (j : ℕ) → 0 < used_at p j → slot_at p j ≡ None → ⊥
  used_some p j is none = absurd (omega (arith, is, ap one none))

  some_of : (o : Option (Slot T)) → 0 < one o → (x : Slot T) × (o ≡ Some x)
  some_of None is = absurd (omega (arith, is))
  some_of (Some x) is = (x, refl)

  -- a chain is the same where its slots are
  pub same_chain : (p q : Pool T) (n k : ℕ) → ((j : ℕ) → 0 < times j (keys_from p n k) → slot_at q j ≡ slot_at p j)
      → (keys_from q n k ≡ keys_from p n k) × (values_from q n k ≡ values_from p n k)
  same_chain p q zero k kept = (refl, refl)
  same_chain p q (suc n) k kept =
      let here : slot_at q k ≡ slot_at p k = kept k (omega (arith, times-here k k (keys_from p n (under_of (slot_at p k))) refl)) in
      let below = same_chain p q n (under_of (slot_at p k)) (λ j on. kept j (omega (arith, on, times-under j k (keys_from p n (under_of (slot_at p k)))))) in
      (rw (here, below.0) refl, rw (here, below.1) refl)

  -- each of so many slots of a chain is used, and stands in it once
  abbrev Once : Pool T → ℕ → ℕ → Type 0
  Once p n k = (j : ℕ) → times j (keys_from p n k) ≤ used_at p j

  first_of : (p : Pool T) (n k : ℕ) → 0 < n → Once p n k → (x : Slot T) × (slot_at p k ≡ Some x)
  first_of p zero k some once = absurd (omega (arith, some))
  first_of p (suc n) k some once = some_of (slot_at p k) (omega (arith, times-here k k (keys_from p n (under_of (slot_at p k))) refl, once k))

  -- the top slot of a stack is used
  pub top_slot : (p : Pool T) (s : Stack) → IsIn p s → 0 < s.depth → (x : Slot T) × (slot_at p s.top ≡ Some x)
  top_slot p s is some = first_of p s.depth s.top some is.once

  pub top_there : (p : Pool T) (s : Stack) → IsIn p s → 0 < s.depth → is_some (slot_at p s.top) ≡ true
  top_there p s is some = ap is_some (top_slot p s is some).1

  -- the rest of a stack is a stack
  once_under : (p : Pool T) (d n k : ℕ) → d ≡ n + 1 → Once p d k → Once p n (under_of (slot_at p k))
  once_under p zero n k e once = absurd (omega (arith, e))
  once_under p (suc d) n k e once =
      let same : d ≡ n = omega (arith, e) in
      rw (← same) (λ j. omega (arith, once j, times-under j k (keys_from p d (under_of (slot_at p k)))))

  pub IsIn-under : (p : Pool T) (s : Stack) (x : Slot T) → IsIn p s → 0 < s.depth → slot_at p s.top ≡ Some x → IsIn p (record { top = x.under; depth = s.depth - 1 })
  IsIn-under p s x is some found =
      let e : s.depth ≡ s.depth - 1 + 1 = omega (arith, some) in
      let under : under_of (slot_at p s.top) ≡ x.under = ap under_of found in
      record { once = rw (← under) (once_under p s.depth (s.depth - 1) s.top e is.once) }

  -- a stack has as many values as it says
  length-from : (p : Pool T) (d k : ℕ) → Once p d k → length (values_from p d k) ≡ d
  length-from p zero k once = refl
  length-from p (suc d) k once =
      let first = first_of p (suc d) k (omega arith) once in
      let rest = length-from p d (under_of (slot_at p k)) (once_under p (suc d) d k (omega arith) once) in
      ap (λ o. length (value_on o (values_from p d (under_of (slot_at p k))))) first.1 ∙ ap suc rest

  pub length-values : (p : Pool T) (s : Stack) → IsIn p s → length (values p s) ≡ s.depth
  length-values p s is = length-from p s.depth s.top is.once

  -- A value is put on

  push_from : (p q : Pool T) (s : Stack) (k : ℕ) (v : T) (n : ℕ) → n ≡ s.depth + 1 → IsIn p s → slot_at p k ≡ None
      → Updates p.slab q.slab k (Some (record { value = v; under = s.top }))
      → (keys_from q n k ≡ k ∷ keys p s) × (values_from q n k ≡ v ∷ values p s)
  push_from p q s k v zero e is none updates = absurd (omega (arith, e))
  push_from p q s k v (suc n) e is none updates =
      let same : n ≡ s.depth = omega (arith, e) in
      let both = same_chain p q s.depth s.top (λ j on. updates.others j (λ is_k. used_some p j (omega (arith, on, is.once j)) (ap (slot_at p) is_k ∙ none))) in
      (rw (same, updates.changed, both.0) refl, rw (same, updates.changed, both.1) refl)

  pub values-pushed : (p q : Pool T) (s t : Stack) (v : T) → t.depth ≡ s.depth + 1 → IsIn p s → slot_at p t.top ≡ None
      → Updates p.slab q.slab t.top (Some (record { value = v; under = s.top })) → values q t ≡ v ∷ values p s
  values-pushed p q s t v e is none updates = (push_from p q s t.top v t.depth e is none updates).1

  pub Moves-pushed : (p q : Pool T) (s t : Stack) (v : T) → t.depth ≡ s.depth + 1 → IsIn p s → slot_at p t.top ≡ None
      → Updates p.slab q.slab t.top (Some (record { value = v; under = s.top })) → used q ≡ used p + 1 → capacity q ≡ capacity p → Moves p q s t
  Moves-pushed p q s t v e is none updates more room =
      let step = push_from p q s t.top v t.depth e is none updates in
      record {
        others = λ j off is_used. updates.others j (λ is_k. used_some p j is_used (ap (slot_at p) is_k ∙ none));
        balance = λ j. rw step.0 (balance-more j t.top (keys p s) (used_at p j) (used_at q j)
            (λ is_k. (ap (used_at p) is_k ∙ ap one none, ap (used_at q) is_k ∙ ap one updates.changed))
            (λ differs. ap one (updates.others j differs)));
        count = omega (arith, more, e);
        room = room;
      }

  -- The top value is taken off

  -- the slots under the top one are others
  under_differs : (p : Pool T) (j k : ℕ) (ks : List ℕ) → ((i : ℕ) → times i (k ∷ ks) ≤ used_at p i) → 0 < times j ks → j ≡ k → ⊥
  under_differs p j k ks once on is_k = absurd (omega (arith, on, times-here j k ks is_k, once j, used_at-few p j))

  pop_from : (p q : Pool T) (k : ℕ) (x : Slot T) (n d : ℕ) → d ≡ n + 1 → Once p d k → slot_at p k ≡ Some x
      → ((j : ℕ) → (j ≡ k → ⊥) → slot_at q j ≡ slot_at p j)
      → (keys_from p d k ≡ k ∷ keys_from q n x.under) × (values_from p d k ≡ x.value ∷ values_from q n x.under)
  pop_from p q k x n zero e once found others = absurd (omega (arith, e))
  pop_from p q k x n (suc d) e once found others =
      let same : d ≡ n = omega (arith, e) in
      let under : under_of (slot_at p k) ≡ x.under = ap under_of found in
      let both = same_chain p q d (under_of (slot_at p k)) (λ j on. others j (under_differs p j k (keys_from p d (under_of (slot_at p k))) once on)) in
      (ap (λ ks. k ∷ ks) (sym both.0) ∙ rw (same, under) refl, ap (λ o. value_on o (values_from p d (under_of (slot_at p k)))) found ∙ ap (λ vs. x.value ∷ vs) (sym both.1) ∙ rw (same, under) refl)

  pub values-popped : (p q : Pool T) (s : Stack) (x : Slot T) → 0 < s.depth → IsIn p s → slot_at p s.top ≡ Some x → Updates p.slab q.slab s.top None
      → values q (record { top = x.under; depth = s.depth - 1 }) ≡ without_top (values p s)
  values-popped p q s x some is found updates =
      ap without_top (sym (pop_from p q s.top x (s.depth - 1) s.depth (omega (arith, some)) is.once found updates.others).1)

  pub Moves-popped : (p q : Pool T) (s : Stack) (x : Slot T) → 0 < s.depth → IsIn p s → slot_at p s.top ≡ Some x
      → Updates p.slab q.slab s.top None → used q + 1 ≡ used p → capacity q ≡ capacity p → Moves p q s (record { top = x.under; depth = s.depth - 1 })
  Moves-popped p q s x some is found updates less room =
      let step = pop_from p q s.top x (s.depth - 1) s.depth (omega (arith, some)) is.once found updates.others in
      let rest = keys_from q (s.depth - 1) x.under in
      record {
        others = λ j off is_used. updates.others j (λ is_k. absurd (omega (arith, ap (times j) step.0, times-here j s.top rest is_k, off)));
        balance = λ j.
            let more = balance-more j s.top rest (used_at q j) (used_at p j)
            (λ is_k. (ap (used_at q) is_k ∙ ap one updates.changed, ap (used_at p) is_k ∙ ap one found))
            (λ differs. sym (ap one (updates.others j differs))) in
            omega (arith, more, ap (times j) step.0);
        count = omega (arith, less, some);
        room = room;
      }

  -- The top value is another one

  write_from : (p q : Pool T) (k : ℕ) (x : Slot T) (v : T) (n d : ℕ) → d ≡ n + 1 → Once p d k → slot_at p k ≡ Some x
      → Updates p.slab q.slab k (Some (record { value = v; under = x.under }))
      → (keys_from q d k ≡ keys_from p d k) × (values_from q d k ≡ v ∷ values_from q n x.under)
  write_from p q k x v n zero e once found updates = absurd (omega (arith, e))
  write_from p q k x v n (suc d) e once found updates =
      let same : d ≡ n = omega (arith, e) in
      let step = pop_from p q k x n (suc d) e once found updates.others in
      (sym (step.0 ∙ rw (same, updates.changed) refl), rw (same, updates.changed) refl)

  values-written : (p q : Pool T) (s : Stack) (x : Slot T) (v : T) → 0 < s.depth → IsIn p s → slot_at p s.top ≡ Some x
      → Updates p.slab q.slab s.top (Some (record { value = v; under = x.under })) → values q s ≡ v ∷ without_top (values p s)
  values-written p q s x v some is found updates =
      let e : s.depth ≡ s.depth - 1 + 1 = omega (arith, some) in
      (write_from p q s.top x v (s.depth - 1) s.depth e is.once found updates).1
      ∙ ap (λ vs. v ∷ without_top vs) (sym (pop_from p q s.top x (s.depth - 1) s.depth e is.once found updates.others).1)

  Moves-written : (p q : Pool T) (s : Stack) (x : Slot T) (v : T) → 0 < s.depth → IsIn p s → slot_at p s.top ≡ Some x
      → Updates p.slab q.slab s.top (Some (record { value = v; under = x.under })) → used q ≡ used p → capacity q ≡ capacity p → Moves p q s s
  Moves-written p q s x v some is found updates len room =
      let e : s.depth ≡ s.depth - 1 + 1 = omega (arith, some) in
      let step = write_from p q s.top x v (s.depth - 1) s.depth e is.once found updates in
      let before = pop_from p q s.top x (s.depth - 1) s.depth e is.once found updates.others in
      record {
        others = λ j off is_used. updates.others j (λ is_k. absurd (omega (arith, ap (times j) before.0, times-here j s.top (keys_from q (s.depth - 1) x.under) is_k, off)));
        balance = λ j.
            let as_used : used_at q j ≡ used_at p j =
            elim (cases_eq j s.top) [
              | inl same ↦ ap (used_at q) same ∙ ap one updates.changed ∙ sym (ap one found) ∙ sym (ap (used_at p) same)
              | inr differs ↦ ap one (updates.others j differs)
            ] in
            omega (arith, as_used, ap (times j) step.0);
        count = omega (arith, len);
        room = room;
      }

  -- the pool after a write through `top_mut`
  with_top-updates : (p : Pool T) (s : Stack) (x : Slot T) (v : T) → slot_at p s.top ≡ Some x → Updates p.slab (with_top p s v).slab s.top (Some (record { value = v; under = x.under }))
  with_top-updates p s x v found =
      let under : under_of (slot_at p s.top) ≡ x.under = ap under_of found in
      rw under (Updates-with_value p.slab s.top (record { value = v; under = x.under }) (ap is_some found))

  used-with_top : (p : Pool T) (s : Stack) (x : Slot T) (v : T) → slot_at p s.top ≡ Some x → used (with_top p s v) ≡ used p
  used-with_top p s x v found =
      let within : s.top < length p.slab.slots = ContainsKey-within p.slab s.top (ap is_some found) in
      let f : Option (Slot T) → ℕ = λ o. cond (is_some o) 1 0 in
      let was : f (slot_at p s.top) ≡ f (Some x) = ap f found in
      omega (arith, sum_by-set f p.slab.slots s.top (Some (record { value = v; under = under_of (slot_at p s.top) })) None within, was)

  pub values-with_top : (p : Pool T) (s : Stack) (v : T) → IsIn p s → 0 < s.depth → values (with_top p s v) s ≡ v ∷ without_top (values p s)
  values-with_top p s v is some =
      let x = top_slot p s is some in
      values-written p (with_top p s v) s x.0 v some is x.1 (with_top-updates p s x.0 v x.1)

  pub Moves-with_top : (p : Pool T) (s : Stack) (v : T) → IsIn p s → 0 < s.depth → Moves p (with_top p s v) s s
  Moves-with_top p s v is some =
      let x = top_slot p s is some in
      Moves-written p (with_top p s v) s x.0 v some is x.1 (with_top-updates p s x.0 v x.1) (used-with_top p s x.0 v x.1) refl

  -- Changes, one after another

  pub Moves-none : (p : Pool T) (s : Stack) → Moves p p s s
  Moves-none p s = record { others = λ j off is_used. refl; balance = λ j. refl; count = refl; room = refl }

  pub Moves-then : (p q r : Pool T) (s t u : Stack) → Moves p q s t → Moves q r t u → Moves p r s u
  Moves-then p q r s t u first second =
      record {
        others = λ j off is_used.
            let same : slot_at q j ≡ slot_at p j = first.others j off is_used in
            let also : used_at q j ≡ used_at p j = ap one same in
            second.others j (omega (arith, first.balance j, off, also)) (omega (arith, also, is_used)) ∙ same;
        balance = λ j. omega (arith, first.balance j, second.balance j);
        count = omega (arith, first.count, second.count);
        room = second.room ∙ first.room;
      }

  -- what a stack became is a stack of the pool
  pub IsIn-moved : (p q : Pool T) (s t : Stack) → Moves p q s t → IsIn p s → IsIn q t
  IsIn-moved p q s t moves is = record { once = λ j. omega (arith, moves.balance j, is.once j) }
