-- Numbers that are equal or not, and members of lists.
use Rattle.std.proofs.Common.{ap, ◌≡◌, ℕ, ◌==◌, Bool, true, false, List, [], ◌∷◌, ◌++◌, map, filter, inl, inr, ◌⊎◌, refl, sym, subst}
use Rattle.std.specs.Prelude.{slice_get, remove, insert, Some, zero, suc, ◌<◌, cond}
use Rattle.std.proofs.lemmas.Bool.Decides.{Decides-eqb}
use Rattle.laws_of_threads.specs.Lists.{Each, Member, Differ}

pub equal : (a b : ℕ) → (a == b) ≡ true → a ≡ b
equal a b h = (Decides-eqb a b).0 h

by_bool : (a b : ℕ) (c : Bool) → (a == b) ≡ c → (a ≡ b) ⊎ (a ≡ b → ⊥)
by_bool a b true h = inl (equal a b h)
by_bool a b false h = inr (λ e. let t = (Decides-eqb a b).1 e in cc)

pub same_or : (a b : ℕ) → (a ≡ b) ⊎ (a ≡ b → ⊥)
same_or a b = by_bool a b (a == b) refl

pub equal_true : (a b : ℕ) → a ≡ b → (a == b) ≡ true
equal_true a b e = (Decides-eqb a b).1 e

by_false : (a b : ℕ) (c : Bool) → (a == b) ≡ c → (a ≡ b → ⊥) → c ≡ false
by_false a b true h n = absurd (n (equal a b h))
by_false a b false h n = refl

pub equal_false : (a b : ℕ) → (a ≡ b → ⊥) → (a == b) ≡ false
equal_false a b n = by_false a b (a == b) refl n

pub each_map : {A : Type 0} (P Q : A → Type 0) (xs : List A) → ((x : A) → P x → Q x) → Each P xs → Each Q xs
each_map P Q [] f h = tt
each_map P Q (x ∷ xs) f h = (f x h.0, each_map P Q xs f h.1)

pub each_append : {A : Type 0} (P : A → Type 0) (xs ys : List A) → Each P xs → Each P ys → Each P (xs ++ ys)
each_append P [] ys h g = g
each_append P (x ∷ xs) ys h g = (h.0, each_append P xs ys h.1 g)

filter_by : {A : Type 0} (P : A → Type 0) (c : Bool) (x : A) (ys : List A) → P x → Each P ys → Each P (cond c (x ∷ ys) ys)
filter_by P true x ys h g = (h, g)
filter_by P false x ys h g = g

pub each_filter : {A : Type 0} (P : A → Type 0) (test : A → Bool) (xs : List A) → Each P xs → Each P (filter test xs)
each_filter P test [] h = tt
each_filter P test (x ∷ xs) h = filter_by P (test x) x (filter test xs) h.0 (each_filter P test xs h.1)

pub member_append : (n : ℕ) (xs ys : List ℕ) → Member n (xs ++ ys) → Member n xs ⊎ Member n ys
member_append n [] ys h = inr h
member_append n (x ∷ xs) ys (inl h) = inl (inl h)
member_append n (x ∷ xs) ys (inr h) = elim (member_append n xs ys h) [ inl a ↦ inl (inr a) | inr b ↦ inr b ]

pub member_last : (n m : ℕ) (xs : List ℕ) → Member n (xs ++ m ∷ []) → Member n xs ⊎ (m ≡ n)
member_last n m xs h = elim (member_append n xs (m ∷ []) h) [ inl a ↦ inl a | inr b ↦ elim b [ inl e ↦ inr e | inr e ↦ absurd e ] ]

pub differ_last : (xs : List ℕ) (m : ℕ) → Differ xs → (Member m xs → ⊥) → Differ (xs ++ m ∷ [])
differ_last [] m d none = ((λ h. h), tt)
differ_last (x ∷ xs) m d none = (
  (λ h. elim (member_last x m xs h) [ inl a ↦ d.0 a | inr e ↦ none (inl (sym e)) ]),
  differ_last xs m d.1 (λ h. none (inr h)),
)

pub member_below : (xs : List ℕ) (n m : ℕ) → Each (λ x. x < n) xs → Member m xs → m < n
member_below [] n m b h = absurd h
member_below (x ∷ xs) n m b (inl e) = subst (λ y. y < n) e b.0
member_below (x ∷ xs) n m b (inr h) = member_below xs n m b.1 h

-- some of a list
module _ {A : Type 0} (number : A → ℕ) (test : A → Bool) where
  some_by : (n : ℕ) (c : Bool) (x : A) (ys : List A) (xs : List ℕ) → (Member n (map number ys) → Member n xs) → Member n (map number (cond c (x ∷ ys) ys)) → (number x ≡ n) ⊎ Member n xs
  some_by n true x ys xs f (inl e) = inl e
  some_by n true x ys xs f (inr h) = inr (f h)
  some_by n false x ys xs f h = inr (f h)

  pub member_filter : (n : ℕ) (xs : List A) → Member n (map number (filter test xs)) → Member n (map number xs)
  member_filter n [] h = h
  member_filter n (x ∷ xs) h = some_by n (test x) x (filter test xs) (map number xs) (member_filter n xs) h

  differ_by : (c : Bool) (x : A) (ys xs : List A) → (Member (number x) (map number ys) → Member (number x) (map number xs)) → (Member (number x) (map number xs) → ⊥) → Differ (map number ys) → Differ (map number (cond c (x ∷ ys) ys))
  differ_by true x ys xs f none d = ((λ h. none (f h)), d)
  differ_by false x ys xs f none d = d

  pub differ_filter : (xs : List A) → Differ (map number xs) → Differ (map number (filter test xs))
  differ_filter [] d = tt
  differ_filter (x ∷ xs) d = differ_by (test x) x (filter test xs) xs (member_filter (number x) xs) d.0 (differ_filter xs d.1)

  numbers_by : (P : ℕ → Type 0) (c : Bool) (x : A) (ys : List A) → P (number x) → Each P (map number ys) → Each P (map number (cond c (x ∷ ys) ys))
  numbers_by P true x ys h g = (h, g)
  numbers_by P false x ys h g = g

  pub numbers_filter : (P : ℕ → Type 0) (xs : List A) → Each P (map number xs) → Each P (map number (filter test xs))
  numbers_filter P [] h = tt
  numbers_filter P (x ∷ xs) h = numbers_by P (test x) x (filter test xs) h.0 (numbers_filter P xs h.1)

pub clash : (b : Bool) → b ≡ true → b ≡ false → ⊥
clash true e f = cc f
clash false e f = cc e

-- One taken out of a list

module _ {A : Type 0} (number : A → ℕ) where
  pub removed_member : (xs : List A) (k m : ℕ) → Member m (map number (remove xs k)) → Member m (map number xs)
  removed_member [] zero m h = h
  removed_member [] (suc k) m h = h
  removed_member (x ∷ xs) zero m h = inr h
  removed_member (x ∷ xs) (suc k) m (inl e) = inl e
  removed_member (x ∷ xs) (suc k) m (inr h) = inr (removed_member xs k m h)

  pub removed_differ : (xs : List A) (k : ℕ) → Differ (map number xs) → Differ (map number (remove xs k))
  removed_differ [] zero d = d
  removed_differ [] (suc k) d = d
  removed_differ (x ∷ xs) zero d = d.1
  removed_differ (x ∷ xs) (suc k) d = ((λ h. d.0 (removed_member xs k (number x) h)), removed_differ xs k d.1)

  pub removed_given : (P : ℕ → Type 0) (xs : List A) (k : ℕ) → Each P (map number xs) → Each P (map number (remove xs k))
  removed_given P [] zero d = d
  removed_given P [] (suc k) d = d
  removed_given P (x ∷ xs) zero d = d.1
  removed_given P (x ∷ xs) (suc k) d = (d.0, removed_given P xs k d.1)

  pub got_member : (xs : List A) (k : ℕ) (y : A) → slice_get xs k ≡ Some y → Member (number y) (map number xs)
  got_member [] k y e = absurd (cc e)
  got_member (x ∷ xs) zero y e = let same : x ≡ y = cc in inl (ap number same)
  got_member (x ∷ xs) (suc k) y e = inr (got_member xs k y e)

  pub removed_out : (xs : List A) (k : ℕ) (y : A) → slice_get xs k ≡ Some y → Differ (map number xs) → Member (number y) (map number (remove xs k)) → ⊥
  removed_out [] k y e d h = cc e
  removed_out (x ∷ xs) zero y e d h = let same : x ≡ y = cc in d.0 (subst (λ z. Member (number z) (map number xs)) (sym same) h)
  removed_out (x ∷ xs) (suc k) y e d (inl f) = d.0 (subst (λ z. Member z (map number xs)) (sym f) (got_member xs k y e))
  removed_out (x ∷ xs) (suc k) y e d (inr h) = removed_out xs k y e d.1 h

  -- one put into a list
  insert_member : (xs : List A) (k m : ℕ) (x : A) → Member m (map number (insert xs k x)) → (number x ≡ m) ⊎ Member m (map number xs)
  insert_member [] zero m x h = h
  insert_member [] (suc k) m x h = h
  insert_member (y ∷ xs) zero m x h = h
  insert_member (y ∷ xs) (suc k) m x (inl e) = inr (inl e)
  insert_member (y ∷ xs) (suc k) m x (inr h) = elim (insert_member xs k m x h) [ inl a ↦ inl a | inr b ↦ inr (inr b) ]

  pub insert_differ : (xs : List A) (k : ℕ) (x : A) → (Member (number x) (map number xs) → ⊥) → Differ (map number xs) → Differ (map number (insert xs k x))
  insert_differ [] zero x none d = ((λ h. h), tt)
  insert_differ [] (suc k) x none d = ((λ h. h), tt)
  insert_differ (y ∷ xs) zero x none d = (none, d)
  insert_differ (y ∷ xs) (suc k) x none d = (
    (λ h. elim (insert_member xs k (number y) x h) [ inl e ↦ none (inl (sym e)) | inr m ↦ d.0 m ]),
    insert_differ xs k x (λ h. none (inr h)) d.1,
  )
