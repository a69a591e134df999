-- What tests of lists and of numbers tell.
use Rattle.std.proofs.Common.{◌≡◌, ◌⊎◌, inl, inr, ℕ, ◌<◌, ◌≤◌, ◌==◌, ◌&&◌, ◌||◌, Bool, true, false, not, nat_lt, nat_le, List, [], ◌∷◌, map, refl, subst, arith}
use Rattle.std.specs.List.{list_all, list_any}
use Rattle.std.proofs.lemmas.Bool.Decides.{Decides-eqb, nat_tests}
use Rattle.laws_of_threads.specs.Lists.{Each, Member, Differ}
use Rattle.saved_spec.specs.Rules.{differ}
use Rattle.laws_of_threads.proofs.Numbers.{equal_true, clash}

pub both : (a b : Bool) → (a && b) ≡ true → (a ≡ true) × (b ≡ true)
both true b h = (refl, h)
both false b h = absurd (cc h)

pub either : (a b : Bool) → (a || b) ≡ true → (a ≡ true) ⊎ (b ≡ true)
either true b h = inl refl
either false b h = inr h

pub neither : (a b : Bool) → (a || b) ≡ false → (a ≡ false) × (b ≡ false)
neither true b h = absurd (cc h)
neither false b h = (refl, h)

pub not_true : (a : Bool) → not a ≡ true → a ≡ false
not_true true h = absurd (cc h)
not_true false h = refl

pub below : (a b : ℕ) → nat_lt a b ≡ true → a < b
below a b h = grind (arith, nat_tests, h)

pub up_to : (a b : ℕ) → nat_le a b ≡ true → a ≤ b
up_to a b h = grind (arith, nat_tests, h)

pub equal : (a b : ℕ) → (a == b) ≡ true → a ≡ b
equal a b h = (Decides-eqb a b).0 h

-- each element passes
pub all_each : {A : Type 0} (test : A → Bool) (xs : List A) → list_all test xs ≡ true → Each (λ x. test x ≡ true) xs
all_each test [] h = tt
all_each test (x ∷ xs) h = let p = both (test x) (list_all test xs) h in (p.0, all_each test xs p.1)

-- and so has a fact
pub all_have : {A : Type 0} (test : A → Bool) (P : A → Type 0) (xs : List A) → ((x : A) → test x ≡ true → P x) → list_all test xs ≡ true → Each P xs
all_have test P [] f h = tt
all_have test P (x ∷ xs) f h = let p = both (test x) (list_all test xs) h in (f x p.0, all_have test P xs f p.1)

pub each_two : {A : Type 0} (P Q R : A → Type 0) (xs : List A) → ((x : A) → P x → Q x → R x) → Each P xs → Each Q xs → Each R xs
each_two P Q R [] f p q = tt
each_two P Q R (x ∷ xs) f p q = (f x p.0 q.0, each_two P Q R xs f p.1 q.1)

-- a fact of the elements of a list that was mapped
pub each_mapped : {A B : Type 0} (g : A → B) (P : B → Type 0) (xs : List A) → Each (λ x. P (g x)) xs → Each P (map g xs)
each_mapped g P [] all = tt
each_mapped g P (x ∷ xs) all = (all.0, each_mapped g P xs all.1)

none_named : (n : ℕ) (ns : List ℕ) → list_any (λ m. m == n) ns ≡ false → Member n ns → ⊥
none_named n [] h m = m
none_named n (k ∷ ns) h (inl e) = clash (k == n) (equal_true k n e) (neither (k == n) (list_any (λ m. m == n) ns) h).0
none_named n (k ∷ ns) h (inr m) = none_named n ns (neither (k == n) (list_any (λ m. m == n) ns) h).1 m

pub numbers_differ : (ns : List ℕ) → differ ns ≡ true → Differ ns
numbers_differ [] h = tt
numbers_differ (n ∷ ns) h =
    let p = both (not (list_any (λ m. m == n) ns)) (differ ns) h in
    (none_named n ns (not_true (list_any (λ m. m == n) ns) p.0), numbers_differ ns p.1)

pub all_three : (a b c : Bool) → (a && b && c) ≡ true → (a ≡ true) × (b ≡ true) × (c ≡ true)
all_three a b c h = let p = both (a && b) c h in let q = both a b p.0 in (q.0, q.1, p.1)

pub all_four : (a b c d : Bool) → (a && b && c && d) ≡ true → (a ≡ true) × (b ≡ true) × (c ≡ true) × (d ≡ true)
all_four a b c d h = let p = both (a && b && c) d h in let q = all_three a b c p.0 in (q.0, q.1, q.2, p.1)

pub all_five : (a b c d e : Bool) → (a && b && c && d && e) ≡ true → (a ≡ true) × (b ≡ true) × (c ≡ true) × (d ≡ true) × (e ≡ true)
all_five a b c d e h = let p = both (a && b && c && d) e h in let q = all_four a b c d p.0 in (q.0, q.1, q.2, q.3, p.1)

-- the element is among these
abbrev pub Among : {A : Type 0} → A → List A → Type 0
Among x [] = ⊥
Among x (y ∷ ys) = (y ≡ x) ⊎ Among x ys

pub of_each : {A : Type 0} (P : A → Type 0) (xs : List A) (x : A) → Each P xs → Among x xs → P x
of_each P [] x all m = absurd m
of_each P (y ∷ ys) x all (inl e) = subst P e all.0
of_each P (y ∷ ys) x all (inr m) = of_each P ys x all.1 m

pub where_among : {A : Type 0} (P : A → Type 0) (xs : List A) → ((x : A) → Among x xs → P x) → Each P xs
where_among P [] f = tt
where_among P (x ∷ xs) f = (f x (inl refl), where_among P xs (λ y m. f y (inr m)))

-- the element passes
pub passes : {A : Type 0} (test : A → Bool) (xs : List A) (x : A) → list_all test xs ≡ true → Among x xs → test x ≡ true
passes test xs x h m = of_each (λ y. test y ≡ true) xs x (all_each test xs h) m
