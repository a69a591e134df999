-- Facts as tests.
use Rattle.std.proofs.Common.{◌≡◌, ℕ, zero, suc, ◌+◌, ◌<◌, ◌≤◌, ◌==◌, inl, inr, Bool, true, false, not, ◌&&◌, ◌||◌, cond, List, [], ◌∷◌, map, Option, Some, None, refl, arith}
use Rattle.std.specs.Prelude.{nat_lt, nat_le, find, bytes_eq, IsSomeAnd}
use Rattle.std.specs.List.{All, list_any, list_all, range_with_len}
use Rattle.std.specs.Option.{option_map_or}
use Rattle.std.proofs.lemmas.Bool.Decides.{nat_tests}
use Rattle.std.proofs.lemmas.Slice.Eq.{bytes_eq-Decides}
use Rattle.laws_of_threads.specs.Lists.{Each, Member, Differ}
use Rattle.laws_of_threads.proofs.Numbers.{equal, equal_true}
use Rattle.saved_spec.specs.Rules.{Rule, differ}

pub both_true : (a b : Bool) → a ≡ true → b ≡ true → (a && b) ≡ true
both_true true b h k = k
both_true false b h k = absurd (cc h)

pub left_true : (a b : Bool) → a ≡ true → (a || b) ≡ true
left_true true b h = refl
left_true false b h = absurd (cc h)

pub right_true : (a b : Bool) → b ≡ true → (a || b) ≡ true
right_true true b h = refl
right_true false b h = h

pub not_true : (a : Bool) → a ≡ false → not a ≡ true
not_true true h = absurd (cc h)
not_true false h = refl

pub unless_true : (a b : Bool) → (a ≡ true → b ≡ true) → (not a || b) ≡ true
unless_true true b h = h refl
unless_true false b h = refl

pub none_true : (a : Bool) → (a ≡ true → ⊥) → a ≡ false
none_true true h = absurd (h refl)
none_true false h = refl

pub less_true : (n m : ℕ) → n < m → nat_lt n m ≡ true
less_true n m h = grind (arith, nat_tests)

pub least_true : (n m : ℕ) → n ≤ m → nat_le n m ≡ true
least_true n m h = grind (arith, nat_tests)

pub same_true : (n m : ℕ) → n ≡ m → (n == m) ≡ true
same_true n m h = equal_true n m h

pub text_true : (t : List ℕ) → bytes_eq t t ≡ true
text_true t = (bytes_eq-Decides t t).1 refl

-- Lists

pub each_of : {A : Type 0} (P : A → Type 0) (xs : List A) → All P xs → Each P xs
each_of P [] h = tt
each_of P (x ∷ xs) h = (h 0 x (omega arith), each_of P xs (λ k d l. h (suc k) d (omega arith)))

pub all_of : {A : Type 0} (P : A → Type 0) (xs : List A) → Each P xs → All P xs
all_of P [] h k d l = absurd (omega arith)
all_of P (x ∷ xs) h zero d l = h.0
all_of P (x ∷ xs) h (suc k) d l = all_of P xs h.1 k d (omega arith)

pub all_true : {A : Type 0} (P : A → Type 0) (test : A → Bool) (xs : List A) → ((x : A) → P x → test x ≡ true) → Each P xs → list_all test xs ≡ true
all_true P test [] f h = refl
all_true P test (x ∷ xs) f h = both_true (test x) (list_all test xs) (f x h.0) (all_true P test xs f h.1)

pub all_map_true : {A B : Type 0} (P : A → Type 0) (g : A → B) (test : B → Bool) (xs : List A) → ((x : A) → P x → test (g x) ≡ true) → Each P xs → list_all test (map g xs) ≡ true
all_map_true P g test [] f h = refl
all_map_true P g test (x ∷ xs) f h = both_true (test (g x)) (list_all test (map g xs)) (f x h.0) (all_map_true P g test xs f h.1)

pub each_both : {A : Type 0} (P Q : A → Type 0) (xs : List A) → Each P xs → Each Q xs → Each (λ x. P x × Q x) xs
each_both P Q [] g h = tt
each_both P Q (x ∷ xs) g h = ((g.0, h.0), each_both P Q xs g.1 h.1)

none_same : (n : ℕ) (ns : List ℕ) → (Member n ns → ⊥) → list_any (λ m. m == n) ns ≡ false
none_same n [] h = refl
none_same n (m ∷ ns) h = none_by (m == n) (list_any (λ m. m == n) ns) (λ e. h (inl (equal m n e))) (none_same n ns (λ k. h (inr k)))
  where
    none_by : (a b : Bool) → (a ≡ true → ⊥) → b ≡ false → (a || b) ≡ false
    none_by true b f e = absurd (f refl)
    none_by false b f e = e

pub differ_true : (ns : List ℕ) → Differ ns → differ ns ≡ true
differ_true [] h = refl
differ_true (n ∷ ns) h = both_true (not (list_any (λ m. m == n) ns)) (differ ns) (not_true (list_any (λ m. m == n) ns) (none_same n ns h.0)) (differ_true ns h.1)

-- where each of so many numbers has the fact, the test holds of all
pub all_below_true : (test : ℕ → Bool) (a n : ℕ) → ((k : ℕ) → a ≤ k → k < a + n → test k ≡ true) → list_all test (range_with_len a n) ≡ true
all_below_true test a zero h = refl
all_below_true test a (suc n) h = both_true (test a) (list_all test (range_with_len (a + 1) n)) (h a (omega arith) (omega arith)) (all_below_true test (a + 1) n (λ k f l. h k (omega arith) (omega arith)))

-- what an option holds
pub some_true : {A : Type 0} (test : A → Bool) (o : Option A) → IsSomeAnd o (λ x. test x ≡ true) → option_map_or test o false ≡ true
some_true test None h = absurd h
some_true test (Some x) h = h

-- Rules

passed_by : (c : Bool) (r : Rule) (o : Option Rule) → c ≡ true → o ≡ None → cond (not c) (Some r) o ≡ None
passed_by true r o h e = e
passed_by false r o h e = absurd (cc h)

pub all_passed : (rs : List Rule) → Each (λ r. r.holds ≡ true) rs → find (λ r. not r.holds) rs ≡ None
all_passed [] h = refl
all_passed (r ∷ rs) h = passed_by r.holds r (find (λ r. not r.holds) rs) h.0 (all_passed rs h.1)
