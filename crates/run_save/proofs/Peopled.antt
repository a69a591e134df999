-- Who is there in a run that breaks no rule.
use Rattle.std.proofs.Common.{◌≡◌, ℕ, zero, suc, ◌+◌, ◌<◌, ◌≤◌, ◌==◌, ◌&&◌, ◌||◌, not, nat_lt, nat_le, Bool, true, false, cond, List, [], ◌∷◌, length, map, filter, get_or, Option, None, Some, find, slice_get, IsSome, option_map, refl, sym, ap, subst, ◌∙◌, arith}
use Rattle.std.specs.Prelude.{count_by}
use Rattle.std.specs.List.{list_any, list_all, range_with_len}
use Rattle.std.proofs.lemmas.Bool.Decides.{nat_tests}
use Rattle.std.proofs.lemmas.List.Sums.{sum_by-cons, AllPass-from_list_all}
use Rattle.std.proofs.lemmas.List.FromFn.{length-range_with_len, get_or-range_with_len}
use Rattle.machine_spec.specs.declared.instance.Instance.{Instance}
use Rattle.machine_spec.specs.Stores.{live, is_original}
use Rattle.machine_spec.specs.declared.variables.Store.{Store}
use Rattle.targets.specs.Live.{IsLive, target_of}
use Rattle.saved_spec.specs.RunShapes.{store_among, stores_in_order}
use Rattle.saved_spec.specs.Rules.{Rule, rule, differ}

-- A rule of those of which none is broken holds

rule_first : (r : Rule) (rs : List Rule) (b : Bool) → r.holds ≡ b → find (λ r. not r.holds) (r ∷ rs) ≡ None → (b ≡ true) × (find (λ r. not r.holds) rs ≡ None)
rule_first r rs true e h = grind arith
rule_first r rs false e h = grind arith

pub rule_holds : (rs : List Rule) → find (λ r. not r.holds) rs ≡ None → (k : ℕ) (m : List ℕ) (b : Bool) → slice_get rs k ≡ Some (rule m b) → b ≡ true
rule_holds [] h k m b e = grind arith
rule_holds (r ∷ rs) h zero m b e = let f = rule_first r rs r.holds refl h in grind arith
rule_holds (r ∷ rs) h (suc k) m b e = rule_holds rs (rule_first r rs r.holds refl h).1 k m b grind arith

-- Numbers that differ

unnamed : (n : ℕ) (is : List Instance) → list_any (λ m. m == n) (map (λ i. i.number) is) ≡ false → count_by (λ i. i.number == n) is ≡ 0
unnamed n [] h = refl
unnamed n (i ∷ is) h = let r = unnamed n is in grind arith

counted_once : (i : Instance) (is : List Instance) (m : ℕ) (same : Bool) → (i.number == m) ≡ same → list_any (λ n. n == i.number) (map (λ j. j.number) is) ≡ false
    → count_by (λ j. j.number == m) is ≤ 1 → count_by (λ j. j.number == m) (i ∷ is) ≤ 1
counted_once i is m false e h less =
    let all = sum_by-cons (λ (j : Instance). cond (j.number == m) 1 0) i is in
    let not_it = ap (λ b. cond {A = ℕ} b 1 0) e in
    omega (arith, all, not_it, less)
counted_once i is m true e h less =
    let n : i.number ≡ m = grind (arith, nat_tests) in
    let none : count_by (λ j. j.number == m) is ≡ 0 = unnamed m is (subst (λ k. list_any (λ n. n == k) (map (λ j. j.number) is) ≡ false) n h) in
    let all = sum_by-cons (λ (j : Instance). cond (j.number == m) 1 0) i is in
    let one = ap (λ b. cond {A = ℕ} b 1 0) e in
    omega (arith, all, one, none)

pub one_each : (is : List Instance) → differ (map (λ i. i.number) is) ≡ true → (m : ℕ) → count_by (λ i. i.number == m) is ≤ 1
one_each [] h m = grind (arith, nat_tests)
one_each (i ∷ is) h m =
    let here : list_any (λ n. n == i.number) (map (λ j. j.number) is) ≡ false = grind arith in
    let there : differ (map (λ j. j.number) is) ≡ true = grind arith in
    counted_once i is m (i.number == m) refl here (one_each is there m)

-- Who is live

-- every instance keeps this, so the one of a number that is live does
live_first : (keeps : Instance → Bool) (j : Instance) (is : List Instance) (n : ℕ) (i : Instance) (same : Bool) → (j.number == n) ≡ same → keeps j ≡ true
    → (live n is ≡ Some i → (keeps i ≡ true) × (i.number ≡ n)) → live n (j ∷ is) ≡ Some i → (keeps i ≡ true) × (i.number ≡ n)
live_first keeps j is n i true e h rest f =
    let same : j ≡ i = grind arith in
    (subst (λ x. keeps x ≡ true) same h, grind (arith, nat_tests))
live_first keeps j is n i false e h rest f = rest (grind arith)

pub live_keeps : (keeps : Instance → Bool) (is : List Instance) → list_all keeps is ≡ true → (n : ℕ) (i : Instance) → live n is ≡ Some i → (keeps i ≡ true) × (i.number ≡ n)
live_keeps keeps [] h n i e = grind arith
live_keeps keeps (j ∷ is) h n i e = live_first keeps j is n i (j.number == n) refl (grind arith) (live_keeps keeps is (grind arith) n i) e

-- no instance has the number, if each keeps what no instance of the number keeps
pub none_live : (is : List Instance) (n : ℕ) (o : Option Instance) → live n is ≡ o → ((i : Instance) → live n is ≡ Some i → ⊥) → live n is ≡ None
none_live is n None e never = e
none_live is n (Some i) e never = absurd (never i e)

-- one of those that pass a test which only instances of the number pass is live
pub some_live : (test : Instance → Bool) (is : List Instance) (n : ℕ) → ((i : Instance) → test i ≡ true → (i.number == n) ≡ true) → 0 < length (filter test is) → IsSome (live n is)
some_live test [] n only h = absurd (omega (arith, h))
some_live test (i ∷ is) n only h = some_first test i is n only (test i) refl (i.number == n) refl (some_live test is n only) h
  where
    some_first : (test : Instance → Bool) (i : Instance) (is : List Instance) (n : ℕ) → ((i : Instance) → test i ≡ true → (i.number == n) ≡ true) → (b : Bool) → test i ≡ b → (same : Bool) → (i.number == n) ≡ same
        → (0 < length (filter test is) → IsSome (live n is)) → 0 < length (filter test (i ∷ is)) → IsSome (live n (i ∷ is))
    some_first test i is n only b e true f rest h = subst IsSome (sym (ap (λ c. cond c (Some i) (live n is)) f)) refl
    some_first test i is n only true e false f rest h = absurd (grind (arith, only i e, f))
    some_first test i is n only false e false f rest h = subst IsSome (sym (ap (λ c. cond c (Some i) (live n is)) f)) (rest (subst (λ xs. 0 < length xs) (ap (λ c. cond c (i ∷ filter test is) (filter test is)) e) h))

-- Among the targets of a file

-- a test holds for each number below a count
below : (test : ℕ → Bool) (count : ℕ) → list_all test (range_with_len 0 count) ≡ true → (n : ℕ) → n < count → test n ≡ true
below test count h n less =
    let len = length-range_with_len 0 count in
    let at : get_or (range_with_len 0 count) n 0 ≡ 0 + n = get_or-range_with_len 0 count n 0 less in
    subst (λ k. test k ≡ true) (at ∙ omega arith) (AllPass-from_list_all test (range_with_len 0 count) h n 0 (omega (arith, len, less)))

-- The numbers of instances: an original has that of its target, a clone one that was given

abbrev pub is_member : (sprite : ℕ → Bool) → (count next : ℕ) → Instance → Bool
is_member sprite count next i = is_original i && nat_lt i.of count || (sprite i.of && nat_le count i.number && nat_lt i.number next)

of_a_target : (sprite : ℕ → Bool) (count next : ℕ) (i : Instance) → ((k : ℕ) → sprite k ≡ true → k < count) → is_member sprite count next i ≡ true → i.of < count
of_a_target sprite count next i known h = by_kind (is_original i && nat_lt i.of count) refl
  where
    by_kind : (b : Bool) → (is_original i && nat_lt i.of count) ≡ b → i.of < count
    by_kind true e = grind (arith, nat_tests)
    by_kind false e =
        let sprites : sprite i.of ≡ true = grind (arith, h, e) in
        known i.of sprites

numbered : (sprite : ℕ → Bool) (count next : ℕ) (i : Instance) → count ≤ next → is_member sprite count next i ≡ true → i.number < next
numbered sprite count next i few h = by_kind (is_original i && nat_lt i.of count) refl
  where
    by_kind : (b : Bool) → (is_original i && nat_lt i.of count) ≡ b → i.number < next
    by_kind true e = grind (arith, nat_tests, e)
    by_kind false e =
        let below : nat_lt i.number next ≡ true = grind (arith, h, e) in
        grind (arith, nat_tests, below)

pub homes : (sprite : ℕ → Bool) (count next : ℕ) (is : List Instance) → ((k : ℕ) → sprite k ≡ true → k < count) → list_all (is_member sprite count next) is ≡ true
    → (n t : ℕ) → target_of n is ≡ Some t → t < count
homes sprite count next is known h n t e = by_live (live n is) refl e
  where
    by_live : (o : Option Instance) → live n is ≡ o → option_map (λ i. i.of) o ≡ Some t → t < count
    by_live None f e = absurd (grind (arith, e))
    by_live (Some i) f e =
        let less = of_a_target sprite count next i known (live_keeps (is_member sprite count next) is h n i f).0 in
        let same : i.of ≡ t = grind (arith, e) in
        omega (arith, less, same)

pub fresh : (sprite : ℕ → Bool) (count next : ℕ) (is : List Instance) → count ≤ next → list_all (is_member sprite count next) is ≡ true → (n : ℕ) → next ≤ n → live n is ≡ None
fresh sprite count next is few h n from = none_live is n (live n is) refl (λ i f.
    let kept = live_keeps (is_member sprite count next) is h n i f in
    let less = numbered sprite count next i few kept.0 in
    let same = kept.1 in
    omega (arith, less, same, from))

-- each target has an original
pub originals : (count : ℕ) (is : List Instance) → list_all (λ k. length (filter (λ i. i.of == k && is_original i) is) == 1) (range_with_len 0 count) ≡ true → (n : ℕ) → n < count → IsLive n is
originals count is h n less =
    let one : (length (filter (λ i. i.of == n && is_original i) is) == 1) ≡ true = below (λ k. length (filter (λ i. i.of == k && is_original i) is) == 1) count h n less in
    some_live (λ i. i.of == n && is_original i) is n (λ i e. grind (arith, nat_tests, e)) (grind (arith, nat_tests, one))

-- Stores that stand in the order of their numbers

none_among : (n : ℕ) (s : Store) (ts : List Store) → (s.of == n) ≡ false → find (λ x. x.of == n) ts ≡ None → find (λ x. x.of == n) (store_among s ts) ≡ None
none_among n s [] e h = grind (arith, e)
none_among n s (t ∷ ts) e h = by_order (none_among n s ts e) (nat_lt t.of s.of) refl (t.of == n) refl
  where
    by_order : (find (λ x. x.of == n) ts ≡ None → find (λ x. x.of == n) (store_among s ts) ≡ None) → (b : Bool) → nat_lt t.of s.of ≡ b → (same : Bool) → (t.of == n) ≡ same → find (λ x. x.of == n) (store_among s (t ∷ ts)) ≡ None
    by_order behind b f true g = absurd (grind (arith, g, h))
    by_order behind true f false g =
        let rest : find (λ x. x.of == n) (store_among s ts) ≡ None = behind (grind (arith, g, h)) in
        ap (λ c. find (λ x. x.of == n) (cond c (t ∷ store_among s ts) (s ∷ t ∷ ts))) f ∙ ap (λ c. cond c (Some t) (find (λ x. x.of == n) (store_among s ts))) g ∙ rest
    by_order behind false f false g =
        ap (λ c. find (λ x. x.of == n) (cond c (t ∷ store_among s ts) (s ∷ t ∷ ts))) f ∙ ap (λ c. cond c (Some s) (find (λ x. x.of == n) (t ∷ ts))) e ∙ h

-- where no instance has the number, none has a store of it
pub no_store : {A : Type 0} (f : A → Instance) (g : A → Store) → ((a : A) → (g a).of ≡ (f a).number) → (n : ℕ) (xs : List A) → live n (map f xs) ≡ None → find (λ s. s.of == n) (stores_in_order (map g xs)) ≡ None
no_store f g same n [] h = refl
no_store f g same n (a ∷ xs) h = by_first (no_store f g same n xs) ((f a).number == n) refl
  where
    by_first : (live n (map f xs) ≡ None → find (λ s. s.of == n) (stores_in_order (map g xs)) ≡ None) → (b : Bool) → ((f a).number == n) ≡ b → find (λ s. s.of == n) (stores_in_order (map g (a ∷ xs))) ≡ None
    by_first behind true e = absurd (grind (arith, e, h))
    by_first behind false e =
        let rest : live n (map f xs) ≡ None = grind (arith, e, h) in
        none_among n (g a) (stores_in_order (map g xs)) (ap (λ m. m == n) (same a) ∙ e) (behind rest)
