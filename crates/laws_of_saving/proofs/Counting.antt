-- Each target has one original, and so clones are few.
use Rattle.std.proofs.Common.{◌≡◌, ℕ, zero, suc, ◌+◌, ◌<◌, ◌≤◌, ◌==◌, inl, inr, Bool, true, false, not, ◌&&◌, cond, List, [], ◌∷◌, map, length, filter, refl, sym, ◌∙◌, subst, arith}
use Rattle.machine_spec.specs.declared.instance.Instance.{Instance}
use Rattle.laws_of_threads.specs.Instances.{Hosts}
use Rattle.laws_of_threads.specs.Lists.{Member, Differ}
use Rattle.laws_of_threads.proofs.Numbers.{equal, equal_true}
use Rattle.machine_spec.specs.Stores.{is_original}
use Rattle.laws_of_saving.proofs.Tests.{both_true, none_true}

-- originals of a number

abbrev is_one : ℕ → Instance → Bool
is_one k i = i.of == k && is_original i

first_of : (a b : Bool) → (a && b) ≡ true → a ≡ true
first_of true b e = refl
first_of false b e = absurd (cc e)

second_of : (a b : Bool) → (a && b) ≡ true → b ≡ true
second_of true b e = e
second_of false b e = absurd (cc e)

one_numbered : (k : ℕ) (i : Instance) → is_one k i ≡ true → i.number ≡ k
one_numbered k i e = equal i.number i.of (second_of (i.of == k) (is_original i) e) ∙ equal i.of k (first_of (i.of == k) (is_original i) e)

one_is : (k : ℕ) (i : Instance) → i.number ≡ k → i.of ≡ k → is_one k i ≡ true
one_is k i e f = both_true (i.of == k) (is_original i) (equal_true i.of k f) (equal_true i.number i.of (e ∙ sym f))

skipped : (c : Bool) (i : Instance) (is : List Instance) → c ≡ false → length is ≡ 0 → length (cond c (i ∷ is) is) ≡ 0
skipped true i is e h = absurd (cc e)
skipped false i is e h = h

no_one : (k : ℕ) (is : List Instance) → (Member k (map (λ i. i.number) is) → ⊥) → length (filter (is_one k) is) ≡ 0
no_one k [] none = refl
no_one k (i ∷ is) none = skipped (is_one k i) i (filter (is_one k) is) (none_true (is_one k i) (λ e. none (inl (one_numbered k i e)))) (no_one k is (λ m. none (inr m)))

kept_by : (c : Bool) (i : Instance) (is : List Instance) → c ≡ true → length is ≡ 0 → length (cond c (i ∷ is) is) ≡ 1
kept_by true i is e h = omega (arith, h)
kept_by false i is e h = absurd (cc e)

passed_by : (c : Bool) (i : Instance) (is : List Instance) → c ≡ false → length is ≡ 1 → length (cond c (i ∷ is) is) ≡ 1
passed_by true i is e h = absurd (cc e)
passed_by false i is e h = h

hosted : (n k : ℕ) (is : List Instance) → Hosts n k is → Member n (map (λ i. i.number) is)
hosted n k [] h = absurd h
hosted n k (i ∷ is) (inl e) = inl e.0
hosted n k (i ∷ is) (inr h) = inr (hosted n k is h)

pub one_original : (k : ℕ) (is : List Instance) → Differ (map (λ i. i.number) is) → Hosts k k is → length (filter (is_one k) is) ≡ 1
one_original k [] d h = absurd h
one_original k (i ∷ is) d (inl e) = kept_by (is_one k i) i (filter (is_one k) is) (one_is k i e.0 e.1) (no_one k is (λ m. d.0 (subst (λ n. Member n (map (λ x. x.number) is)) (sym e.0) m)))
one_original k (i ∷ is) d (inr h) =
    passed_by (is_one k i) i (filter (is_one k) is) (none_true (is_one k i) (λ e. d.0 (subst (λ n. Member n (map (λ x. x.number) is)) (sym (one_numbered k i e)) (hosted k k is h)))) (one_original k is d.1 h)

-- a list in which all numbers below n are members has no fewer elements

pub record Rest (m : ℕ) (xs : List ℕ) : Type 0 where
  left : List ℕ
  shorter : length left + 1 ≡ length xs
  others : (k : ℕ) → (k ≡ m → ⊥) → Member k xs → Member k left

rest_of : (m : ℕ) (xs : List ℕ) → Member m xs → Rest m xs
rest_of m [] h = absurd h
rest_of m (x ∷ xs) (inl e) = record { left = xs; shorter = omega arith; others = λ k ne g. elim g [ inl f ↦ absurd (ne (sym f ∙ e)) | inr g ↦ g ] }
rest_of m (x ∷ xs) (inr h) =
    let r = rest_of m xs h in
    record {
      left = x ∷ r.left;
      shorter = (let e = r.shorter in omega (arith, e));
      others = λ k ne g. elim g [ inl f ↦ inl f | inr g ↦ inr (r.others k ne g) ];
    }

pub no_fewer : (n : ℕ) (xs : List ℕ) → ((k : ℕ) → k < n → Member k xs) → n ≤ length xs
no_fewer zero xs h = omega arith
no_fewer (suc n) xs h =
    let r = rest_of n xs (h n (omega arith)) in
    let l = no_fewer n r.left (λ k less. r.others k (λ e. absurd (omega (arith, e, less))) (h k (omega arith))) in
    let e = r.shorter in
    omega (arith, l, e)

-- originals and clones

split_by : (c : Bool) (i : Instance) (xs ys : List Instance) (n : ℕ) → length xs + length ys ≡ n → length (cond c (i ∷ xs) xs) + length (cond (not c) (i ∷ ys) ys) ≡ n + 1
split_by true i xs ys n e = omega (arith, e)
split_by false i xs ys n e = omega (arith, e)

split : (test : Instance → Bool) (is : List Instance) → length (filter test is) + length (filter (λ i. not (test i)) is) ≡ length is
split test [] = refl
split test (i ∷ is) = let e = split_by (test i) i (filter test is) (filter (λ x. not (test x)) is) (length is) (split test is) in omega (arith, e)

length_map : (xs : List Instance) → length (map (λ i. i.number) xs) ≡ length xs
length_map [] = refl
length_map (x ∷ xs) = let e = length_map xs in omega (arith, e)

first_member : (c : Bool) (k : ℕ) (i : Instance) (is : List Instance) → c ≡ true → i.number ≡ k → Member k (map (λ x. x.number) (cond c (i ∷ is) is))
first_member true k i is e f = inl f
first_member false k i is e f = absurd (cc e)

more_member : (c : Bool) (k : ℕ) (i : Instance) (is : List Instance) → Member k (map (λ x. x.number) is) → Member k (map (λ x. x.number) (cond c (i ∷ is) is))
more_member true k i is h = inr h
more_member false k i is h = h

original_member : (k : ℕ) (is : List Instance) → Hosts k k is → Member k (map (λ i. i.number) (filter is_original is))
original_member k [] h = absurd h
original_member k (i ∷ is) (inl e) = first_member (is_original i) k i (filter is_original is) (equal_true i.number i.of (e.0 ∙ sym e.1)) e.0
original_member k (i ∷ is) (inr h) = more_member (is_original i) k i (filter is_original is) (original_member k is h)

pub clones_few : (n most : ℕ) (is : List Instance) → ((k : ℕ) → k < n → Hosts k k is) → length is ≤ n + most → length (filter (λ i. not (is_original i)) is) ≤ most
clones_few n most is h few =
    let a = no_fewer n (map (λ i. i.number) (filter is_original is)) (λ k less. original_member k is (h k less)) in
    let b = length_map (filter is_original is) in
    let c = split is_original is in
    omega (arith, a, b, c, few)
