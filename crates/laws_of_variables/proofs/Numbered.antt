-- Lists whose elements have numbers: numbers that rise, what is found under a number, and some taken out.
use Rattle.std.proofs.Common.{◌≡◌, ℕ, zero, suc, ◌+◌, ◌==◌, Bool, true, false, not, cond, List, [], ◌∷◌, ◌++◌, map, filter, length, Option, Some, None, inl, inr, refl, sym, ap, ◌∙◌, subst, arith}
use Rattle.std.specs.Prelude.{◌<◌, nat_lt, find, slice_get, slice_set}
use Rattle.std.specs.List.{position_or_len}
use Rattle.std.proofs.lemmas.Bool.Decides.{Decides-ltb}
use Rattle.machine_spec.specs.Lists.{set_some, changed_at, changed_at_some, first_changed, removed_at, first_removed}
use Rattle.laws_of_threads.specs.Lists.{Each, Member, Differ, RiseAbove, Rise}
use Rattle.laws_of_threads.proofs.Numbers.{clash, equal, equal_true, equal_false}

-- Numbers that rise

pub above_member : (n m : ℕ) (ms : List ℕ) → RiseAbove n ms → Member m ms → n < m
above_member n m [] h g = absurd g
above_member n m (k ∷ ks) h (inl e) = subst (λ z. n < z) e h.0
above_member n m (k ∷ ks) h (inr g) = let a = above_member k m ks h.1 g in let b = h.0 in omega (arith, a, b)

above_rise : (n : ℕ) (ms : List ℕ) → RiseAbove n ms → Rise ms
above_rise n [] h = tt
above_rise n (m ∷ ms) h = h.1

pub rise_differ : (ns : List ℕ) → Rise ns → Differ ns
rise_differ [] h = tt
rise_differ (n ∷ ns) h = ((λ g. let a = above_member n n ns h g in omega (arith, a)), rise_differ ns (above_rise n ns h))

above_last : (n m : ℕ) (ms : List ℕ) → RiseAbove n ms → n < m → ((k : ℕ) → Member k ms → k < m) → RiseAbove n (ms ++ m ∷ [])
above_last n m [] h less f = (less, tt)
above_last n m (k ∷ ks) h less f = (h.0, above_last k m ks h.1 (f k (inl refl)) (λ j g. f j (inr g)))

pub rise_last : (m : ℕ) (ms : List ℕ) → Rise ms → ((k : ℕ) → Member k ms → k < m) → Rise (ms ++ m ∷ [])
rise_last m [] h f = tt
rise_last m (k ∷ ks) h f = above_last k m ks h (f k (inl refl)) (λ j g. f j (inr g))

above_lower : (n m : ℕ) (ks : List ℕ) → n < m → RiseAbove m ks → RiseAbove n ks
above_lower n m [] less h = tt
above_lower n m (k ∷ ks) less h = (let a = h.0 in omega (arith, a, less), h.1)

-- a member with one more behind
pub member_left : (n : ℕ) (xs ys : List ℕ) → Member n xs → Member n (xs ++ ys)
member_left n [] ys h = absurd h
member_left n (x ∷ xs) ys (inl e) = inl e
member_left n (x ∷ xs) ys (inr h) = inr (member_left n xs ys h)

pub member_right : (n : ℕ) (xs ys : List ℕ) → Member n ys → Member n (xs ++ ys)
member_right n [] ys h = h
member_right n (x ∷ xs) ys h = inr (member_right n xs ys h)

-- One element changed

same_some : {A : Type 0} (a b : A) → Some a ≡ Some b → a ≡ b
same_some a b h = cc

module _ {A : Type 0} (P : A → Type 0) where
  pub each_set : (xs : List A) (k : ℕ) (y : A) → P y → Each P xs → Each P (slice_set xs k y)
  each_set [] k y g h = tt
  each_set (x ∷ xs) zero y g h = (g, h.1)
  each_set (x ∷ xs) (suc k) y g h = (h.0, each_set xs k y g h.1)

  each_get : (xs : List A) (k : ℕ) (y : A) → slice_get xs k ≡ Some y → Each P xs → P y
  each_get [] k y e h = absurd (cc e)
  each_get (x ∷ xs) zero y e h = subst P (same_some x y e) h.0
  each_get (x ∷ xs) (suc k) y e h = each_get xs k y e h.1

  module _ (f : A → A) (keeps : (x : A) → P x → P (f x)) where
    some_each : (o : Option A) (k : ℕ) (xs : List A) → slice_get xs k ≡ o → Each P xs → Each P (set_some o f k xs)
    some_each None k xs e h = h
    some_each (Some x) k xs e h = each_set xs k (f x) (keeps x (each_get xs k x e h)) h

    pub each_changed_at : (k : ℕ) (xs : List A) → Each P xs → Each P (changed_at f k xs)
    each_changed_at k xs h = some_each (slice_get xs k) k xs refl h

    changed_some : (o : Option ℕ) (xs : List A) → Each P xs → Each P (changed_at_some f o xs)
    changed_some None xs h = h
    changed_some (Some k) xs h = each_changed_at k xs h

    pub each_changed : (test : A → Bool) (xs : List A) → Each P xs → Each P (first_changed test f xs)
    each_changed test xs h = changed_some _ xs h

-- The first that passes taken out

less_by : (a n : ℕ) (b c : Bool) → nat_lt a n ≡ b → nat_lt (suc a) (suc n) ≡ c → c ≡ b
less_by a n true true e f = refl
less_by a n false false e f = refl
less_by a n true false e f = absurd (clash (nat_lt (suc a) (suc n)) ((Decides-ltb (suc a) (suc n)).1 (let d = (Decides-ltb a n).0 e in omega (arith, d))) f)
less_by a n false true e f = absurd (clash (nat_lt a n) ((Decides-ltb a n).1 (let d = (Decides-ltb (suc a) (suc n)).0 f in omega (arith, d))) e)

module _ {A : Type 0} where
  abbrev removed_if : Bool → ℕ → List A → List A
  removed_if b a xs = removed_at (cond b (Some a) None) xs

  removed_later : (b : Bool) (a : ℕ) (x : A) (xs : List A) → removed_if b (suc a) (x ∷ xs) ≡ x ∷ removed_if b a xs
  removed_later true a x xs = refl
  removed_later false a x xs = refl

  abbrev removed_from : ℕ → List A → List A
  removed_from m xs = removed_if (nat_lt m (length xs)) m xs

  from_zero : (m : ℕ) (x : A) (xs : List A) → m ≡ 0 → removed_from m (x ∷ xs) ≡ xs
  from_zero m x xs e = ap (λ k. removed_from k (x ∷ xs)) e ∙ ap (λ b. removed_if b 0 (x ∷ xs)) ((Decides-ltb 0 (length (x ∷ xs))).1 (omega arith))

  from_suc : (m a : ℕ) (x : A) (xs : List A) → m ≡ suc a → removed_from m (x ∷ xs) ≡ x ∷ removed_from a xs
  from_suc m a x xs e = ap (λ k. removed_from k (x ∷ xs)) e
      ∙ ap (λ b. removed_if b (suc a) (x ∷ xs)) (less_by a (length xs) (nat_lt a (length xs)) (nat_lt (suc a) (suc (length xs))) refl refl)
      ∙ removed_later (nat_lt a (length xs)) a x xs

  module _ (test : A → Bool) where
    first_by : (c : Bool) (x : A) (xs : List A) → test x ≡ c → first_removed test (x ∷ xs) ≡ cond c xs (x ∷ first_removed test xs)
    first_by true x xs e = from_zero (position_or_len test (x ∷ xs)) x xs (ap (λ b. cond (not b) (1 + position_or_len test xs) 0) e)
    first_by false x xs e = from_suc (position_or_len test (x ∷ xs)) (position_or_len test xs) x xs (ap (λ b. cond (not b) (1 + position_or_len test xs) 0) e ∙ omega arith)

-- Those of some numbers

module _ {A : Type 0} (number : A → ℕ) where
  abbrev numbers : List A → List ℕ
  numbers xs = map number xs

  module _ (keep : ℕ → Bool) where
    abbrev kept : List A → List A
    kept xs = filter (λ x. keep (number x)) xs

    above_by : (c : Bool) (n : ℕ) (x : A) (ys : List A) → n < number x → RiseAbove (number x) (numbers ys) → RiseAbove n (numbers ys) → RiseAbove n (numbers (cond c (x ∷ ys) ys))
    above_by true n x ys less g h = (less, g)
    above_by false n x ys less g h = h

    above_kept : (n : ℕ) (xs : List A) → RiseAbove n (numbers xs) → RiseAbove n (numbers (kept xs))
    above_kept n [] h = tt
    above_kept n (x ∷ xs) h = above_by (keep (number x)) n x (kept xs) h.0 (above_kept (number x) xs h.1) (above_kept n xs (above_lower n (number x) (numbers xs) h.0 h.1))

    rise_by : (c : Bool) (x : A) (ys : List A) → RiseAbove (number x) (numbers ys) → Rise (numbers (cond c (x ∷ ys) ys))
    rise_by true x ys h = h
    rise_by false x ys h = above_rise (number x) (numbers ys) h

    pub rise_kept : (xs : List A) → Rise (numbers xs) → Rise (numbers (kept xs))
    rise_kept [] h = tt
    rise_kept (x ∷ xs) h = rise_by (keep (number x)) x (kept xs) (above_kept (number x) xs h)

    kept_by : (c : Bool) (m : ℕ) (x : A) (ys xs : List A) → keep (number x) ≡ c → (Member m (numbers ys) → Member m (numbers xs) × (keep m ≡ true)) → Member m (numbers (cond c (x ∷ ys) ys))
        → Member m (numbers (x ∷ xs)) × (keep m ≡ true)
    kept_by true m x ys xs e f (inl g) = (inl g, ap keep (sym g) ∙ e)
    kept_by true m x ys xs e f (inr h) = let r = f h in (inr r.0, r.1)
    kept_by false m x ys xs e f h = let r = f h in (inr r.0, r.1)

    pub kept_member : (m : ℕ) (xs : List A) → Member m (numbers (kept xs)) → Member m (numbers xs) × (keep m ≡ true)
    kept_member m [] h = absurd h
    kept_member m (x ∷ xs) h = kept_by (keep (number x)) m x (kept xs) xs refl (kept_member m xs) h

    member_by : (c : Bool) (m : ℕ) (x : A) (ys xs : List A) → keep (number x) ≡ c → keep m ≡ true → (Member m (numbers xs) → Member m (numbers ys)) → Member m (numbers (x ∷ xs)) → Member m (numbers (cond c (x ∷ ys) ys))
    member_by true m x ys xs e k f (inl g) = inl g
    member_by true m x ys xs e k f (inr h) = inr (f h)
    member_by false m x ys xs e k f (inl g) = absurd (clash (keep (number x)) (ap keep g ∙ k) e)
    member_by false m x ys xs e k f (inr h) = f h

    pub member_kept : (m : ℕ) (xs : List A) → keep m ≡ true → Member m (numbers xs) → Member m (numbers (kept xs))
    member_kept m [] k h = h
    member_kept m (x ∷ xs) k h = member_by (keep (number x)) m x (kept xs) xs refl k (member_kept m xs k) h

    find_by : (c : Bool) (m : ℕ) (x : A) (ys xs : List A) → keep (number x) ≡ c → keep m ≡ true → find (λ y. number y == m) ys ≡ find (λ y. number y == m) xs
        → find (λ y. number y == m) (cond c (x ∷ ys) ys) ≡ find (λ y. number y == m) (x ∷ xs)
    find_by true m x ys xs e k h = ap (λ o. cond (number x == m) (Some x) o) h
    find_by false m x ys xs e k h =
        let other : (number x == m) ≡ false = equal_false (number x) m (λ same. clash (keep (number x)) (ap keep same ∙ k) e) in
        h ∙ sym (ap (λ b. cond b (Some x) (find (λ y. number y == m) xs)) other)

    pub find_kept : (m : ℕ) (xs : List A) → keep m ≡ true → find (λ y. number y == m) (kept xs) ≡ find (λ y. number y == m) xs
    find_kept m [] k = refl
    find_kept m (x ∷ xs) k = find_by (keep (number x)) m x (kept xs) xs refl k (find_kept m xs k)

  -- the first of a number is the only one
  all_by : (n : ℕ) (c : Bool) (x : A) (ys : List A) → (number x == n) ≡ c → (number x ≡ n → ⊥) → cond (not c) (x ∷ ys) ys ≡ x ∷ ys
  all_by n true x ys e none = absurd (none (equal (number x) n e))
  all_by n false x ys e none = refl

  filter_all : (n : ℕ) (xs : List A) → (Member n (numbers xs) → ⊥) → filter (λ x. not (number x == n)) xs ≡ xs
  filter_all n [] none = refl
  filter_all n (x ∷ xs) none = all_by n (number x == n) x (filter (λ y. not (number y == n)) xs) refl (λ e. none (inl e)) ∙ ap (λ l. x ∷ l) (filter_all n xs (λ h. none (inr h)))

  only_by : (n : ℕ) (c : Bool) (x : A) (xs ys : List A) → (number x == n) ≡ c → (Member (number x) (numbers xs) → ⊥) → ys ≡ filter (λ y. not (number y == n)) xs
      → cond c xs (x ∷ ys) ≡ cond (not c) (x ∷ filter (λ y. not (number y == n)) xs) (filter (λ y. not (number y == n)) xs)
  only_by n true x xs ys e none h = sym (filter_all n xs (λ m. none (subst (λ z. Member z (numbers xs)) (sym (equal (number x) n e)) m)))
  only_by n false x xs ys e none h = ap (λ l. x ∷ l) h

  pub removed_only : (n : ℕ) (xs : List A) → Differ (numbers xs) → first_removed (λ x. number x == n) xs ≡ filter (λ x. not (number x == n)) xs
  removed_only n [] d = refl
  removed_only n (x ∷ xs) d = first_by (λ y. number y == n) (number x == n) x xs refl ∙ only_by n (number x == n) x xs (first_removed (λ y. number y == n) xs) refl d.0 (removed_only n xs d.1)

  -- one more behind: what was there is found as before, and the new one where there was none of its number
  front_by : (c : Bool) (m : ℕ) (x : A) (o q : Option A) → (number x == m) ≡ c → ((number x ≡ m → ⊥) → o ≡ q) → cond c (Some x) o ≡ cond c (Some x) q
  front_by true m x o q e f = refl
  front_by false m x o q e f = f (λ same. clash (number x == m) (equal_true (number x) m same) e)

  pub find_front : (m : ℕ) (xs : List A) (y : A) → Member m (numbers xs) → find (λ x. number x == m) (xs ++ y ∷ []) ≡ find (λ x. number x == m) xs
  find_front m [] y h = absurd h
  find_front m (x ∷ xs) y (inl e) = front_by (number x == m) m x (find (λ z. number z == m) (xs ++ y ∷ [])) (find (λ z. number z == m) xs) refl (λ ne. absurd (ne e))
  find_front m (x ∷ xs) y (inr h) = ap (λ o. cond (number x == m) (Some x) o) (find_front m xs y h)

  pub find_last : (m : ℕ) (xs : List A) (y : A) → number y ≡ m → (Member m (numbers xs) → ⊥) → find (λ x. number x == m) (xs ++ y ∷ []) ≡ Some y
  find_last m [] y e none = ap (λ b. cond b (Some y) None) (equal_true (number y) m e)
  find_last m (x ∷ xs) y e none = ap (λ b. cond b (Some x) (find (λ z. number z == m) (xs ++ y ∷ []))) (equal_false (number x) m (λ f. none (inl f))) ∙ find_last m xs y e (λ h. none (inr h))
