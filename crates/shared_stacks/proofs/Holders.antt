-- A list of things that have a stack each, as they are seen: each with the values of its stack in place of the stack.
use Rattle.std.proofs.Common.{◌≡◌, ℕ, zero, suc, ◌+◌, ◌≤◌, Bool, true, false, cond, List, [], ◌∷◌, map, length, Some, refl, ap, ap₂, ◌∙◌, arith}
use Rattle.std.specs.Prelude.{slice_get, slice_set, sum_by, filter}
use Rattle.std.specs.List.{All}
use Rattle.std.proofs.lemmas.List.Sums.{sum_by-cons}
use Rattle.std.proofs.lemmas.List.Elements.{All-head, All-tail}
use Rattle.shared_stacks.specs.declared.stack.Stack.{Stack}
use Rattle.shared_stacks.specs.declared.pool.Pool.{Pool}
use Rattle.shared_stacks.specs.Chains.{times, used_at, keys, keys_from, values, Moves}
use Rattle.shared_stacks.specs.Shared.{depths, places}
use Rattle.shared_stacks.proofs.Chains.{length-values}
use Rattle.shared_stacks.proofs.Shared.{SameSlots, other_kept, places-within}

some_same : {A : Type 0} (a b : A) → Some a ≡ Some b → a ≡ b
some_same a b e = cc

pub slice_get-stack : {A : Type 0} (stack : A → Stack) (xs : List A) (i : ℕ) (a : A) → slice_get xs i ≡ Some a → slice_get (map stack xs) i ≡ Some (stack a)
slice_get-stack stack [] i a found = absurd (cc)
slice_get-stack stack (x ∷ xs) zero a found = ap (λ o. Some (stack o)) (some_same x a found)
slice_get-stack stack (x ∷ xs) (suc i) a found = slice_get-stack stack xs i a found

module _ {T A B : Type 0} (stack : A → Stack) (seen : A → List T → B) where
  -- one of them as it is seen
  abbrev pub shown : Pool T → A → B
  shown p a = seen a (values p (stack a))

  -- A stack was changed

  -- one whose stack has no slot in common with it is seen as before
  pub shown-other : (p q : Pool T) (s t : Stack) → Moves p q s t → (a : A) → ((j : ℕ) → times j (keys p s) + times j (keys p (stack a)) ≤ used_at p j) → shown q a ≡ shown p a
  shown-other p q s t moves a apart = ap (seen a) (other_kept p q s t (stack a) moves apart).1

  pub shown-others : (p q : Pool T) (s t : Stack) → Moves p q s t → (xs : List A) → ((j : ℕ) → times j (keys p s) + places p j (map stack xs) ≤ used_at p j)
      → map (shown q) xs ≡ map (shown p) xs
  shown-others p q s t moves [] apart = refl
  shown-others p q s t moves (x ∷ xs) apart =
      ap₂ (λ y ys. y ∷ ys) (shown-other p q s t moves x (λ j. omega (arith, apart j))) (shown-others p q s t moves xs (λ j. omega (arith, apart j)))

  -- the one in a place, whose stack it is, is replaced, and the others are seen as before
  pub shown-moved : (p q : Pool T) (s t : Stack) → Moves p q s t → (xs : List A) (i : ℕ) (a b : A) → slice_get xs i ≡ Some a → stack a ≡ s
      → ((j : ℕ) → places p j (map stack xs) ≤ used_at p j) → map (shown q) (slice_set xs i b) ≡ slice_set (map (shown p) xs) i (shown q b)
  shown-moved p q s t moves [] i a b found own few = absurd (cc)
  shown-moved p q s t moves (x ∷ xs) zero a b found own few =
      let e : stack x ≡ s = ap stack (some_same x a found) ∙ own in
      ap (λ ys. shown q b ∷ ys) (shown-others p q s t moves xs (λ j. omega (arith, few j, ap (λ o. times j (keys p o)) e)))
  shown-moved p q s t moves (x ∷ xs) (suc i) a b found own few =
      let apart = λ (j : ℕ). places-within p j (map stack xs) i (stack a) (slice_get-stack stack xs i a found) in
      ap₂ (λ y ys. y ∷ ys)
      (shown-other p q s t moves x (λ j. omega (arith, few j, apart j, ap (λ o. times j (keys p o)) own)))
      (shown-moved p q s t moves xs i a b found own (λ j. omega (arith, few j)))

  -- How many values there are in all

  pub depth-shown : (depth : B → ℕ) → ((a : A) (vs : List T) → depth (seen a vs) ≡ length vs) → (p : Pool T) (xs : List A) → ((j : ℕ) → places p j (map stack xs) ≤ used_at p j)
      → sum_by depth (map (shown p) xs) ≡ depths (map stack xs)
  depth-shown depth is p [] few = refl
  depth-shown depth is p (x ∷ xs) few =
      let here = length-values p (stack x) (record { once = λ j. omega (arith, few j) }) in
      let rest = depth-shown depth is p xs (λ j. omega (arith, few j)) in
      omega (arith, is x (values p (stack x)), here, rest, sum_by-cons depth (shown p x) (map (shown p) xs))

-- Those with a mark are left out, whose stacks have no values

module _ {T A : Type 0} (stack : A → Stack) (keep : A → Bool) (p : Pool T) where
  -- one that is not kept has no values
  abbrev pub IsBare : A → Type 0
  IsBare a = keep a ≡ false → (stack a).depth ≡ 0

  places-by : (b : Bool) (j : ℕ) (x : A) (xs : List A) → (b ≡ false → (stack x).depth ≡ 0)
      → places p j (map stack (cond b (x ∷ xs) xs)) ≡ times j (keys p (stack x)) + places p j (map stack xs)
  places-by true j x xs none = refl
  places-by false j x xs none = omega (arith, ap (λ n. times j (keys_from p n (stack x).top)) (none refl))

  depths-by : (b : Bool) (x : A) (xs : List A) → (b ≡ false → (stack x).depth ≡ 0) → depths (map stack (cond b (x ∷ xs) xs)) ≡ (stack x).depth + depths (map stack xs)
  depths-by true x xs none = refl
  depths-by false x xs none = omega (arith, none refl)

  pub SameSlots-kept : (xs : List A) → All IsBare xs → SameSlots p (map stack xs) (map stack (filter keep xs))
  SameSlots-kept [] all = record { each = λ j. refl; count = refl }
  SameSlots-kept (x ∷ xs) all =
      let bare : keep x ≡ false → (stack x).depth ≡ 0 = All-head IsBare x xs all in
      let rest = SameSlots-kept xs (All-tail IsBare x xs all) in
      record {
        each = λ j. places-by (keep x) j x (filter keep xs) bare ∙ ap (λ n. times j (keys p (stack x)) + n) (rest.each j);
        count = depths-by (keep x) x (filter keep xs) bare ∙ ap (λ n. (stack x).depth + n) rest.count;
      }
