-- What is true of stores is true of them in order, and in order they are as distinct.
use Rattle.std.proofs.Common.{◌≡◌, ℕ, ◌==◌, Bool, true, false, ◌&&◌, ◌||◌, List, [], ◌∷◌, refl, ap, ◌∙◌, arith}
use Rattle.std.specs.Prelude.{nat_lt, not, if◌then◌else◌}
use Rattle.std.specs.List.{list_any, list_all}
use Rattle.std.proofs.lemmas.Bool.Decides.{nat_tests}
use Rattle.machine_spec.specs.declared.variables.Store.{Store}
use Rattle.variables.specs.Distinct.{numbers, IsDistinct}
use Rattle.saved_spec.specs.Rules.{differ}
use Rattle.saved_spec.specs.RunShapes.{store_among, stores_in_order}
use Rattle.saved_stores.proofs.Comparing.{both}

-- Tests of all stores

all_swap : (a b c : Bool) → (a && (b && c)) ≡ (b && (a && c))
all_swap true true c = refl
all_swap true false c = refl
all_swap false true c = refl
all_swap false false c = refl

module _ (p : Store → Bool) where
  all_if : (c : Bool) (s t : Store) (us ts : List Store) → list_all p us ≡ list_all p (s ∷ ts) → list_all p (if c then t ∷ us else s ∷ t ∷ ts) ≡ list_all p (s ∷ t ∷ ts)
  all_if true s t us ts e = ap (λ r. p t && r) e ∙ all_swap (p t) (p s) (list_all p ts)
  all_if false s t us ts e = refl

  all_among : (s : Store) (ts : List Store) → list_all p (store_among s ts) ≡ list_all p (s ∷ ts)
  all_among s [] = refl
  all_among s (t ∷ ts) = all_if (nat_lt t.of s.of) s t (store_among s ts) ts (all_among s ts)

  -- a test passes at all of them in order just where it does at all
  pub all_order : (ss : List Store) → list_all p (stores_in_order ss) ≡ list_all p ss
  all_order [] = refl
  all_order (s ∷ ss) = all_among s (stores_in_order ss) ∙ ap (λ r. p s && r) (all_order ss)

-- Numbers

any_swap : (a b c : Bool) → (a || (b || c)) ≡ (b || (a || c))
any_swap true true c = refl
any_swap true false c = refl
any_swap false true c = refl
any_swap false false c = refl

abbrev is_among : ℕ → List Store → Bool
is_among k ss = list_any (λ m. m == k) (numbers ss)

any_if : (c : Bool) (k : ℕ) (s t : Store) (us ts : List Store) → is_among k us ≡ is_among k (s ∷ ts) → is_among k (if c then t ∷ us else s ∷ t ∷ ts) ≡ is_among k (s ∷ t ∷ ts)
any_if true k s t us ts e = ap (λ r. (t.of == k) || r) e ∙ any_swap (t.of == k) (s.of == k) (is_among k ts)
any_if false k s t us ts e = refl

any_among : (k : ℕ) (s : Store) (ts : List Store) → is_among k (store_among s ts) ≡ is_among k (s ∷ ts)
any_among k s [] = refl
any_among k s (t ∷ ts) = any_if (nat_lt t.of s.of) k s t (store_among s ts) ts (any_among k s ts)

any_order : (k : ℕ) (ss : List Store) → is_among k (stores_in_order ss) ≡ is_among k ss
any_order k [] = refl
any_order k (s ∷ ss) = any_among k s (stores_in_order ss) ∙ ap (λ r. (s.of == k) || r) (any_order k ss)

neither : (a b : Bool) → (a || b) ≡ false → (a ≡ false) × (b ≡ false)
neither true b h = absurd (cc h)
neither false b h = (refl, h)

nor : (a b : Bool) → a ≡ false → b ≡ false → (a || b) ≡ false
nor a b e f = ap (λ x. x || b) e ∙ f

turned : (m n : ℕ) → (m == n) ≡ false → (n == m) ≡ false
turned m n h = grind (arith, nat_tests)

distinct_if : (c : Bool) (s t : Store) (us ts : List Store) → is_among t.of us ≡ is_among t.of (s ∷ ts) → is_among s.of (t ∷ ts) ≡ false → is_among t.of ts ≡ false
    → IsDistinct (numbers us) → IsDistinct (numbers ts) → IsDistinct (numbers (if c then t ∷ us else s ∷ t ∷ ts))
distinct_if true s t us ts e h g du dt = (e ∙ nor (s.of == t.of) (is_among t.of ts) (turned t.of s.of (neither (t.of == s.of) (is_among s.of ts) h).0) g, du)
distinct_if false s t us ts e h g du dt = (h, (g, dt))

distinct_among : (s : Store) (ts : List Store) → is_among s.of ts ≡ false → IsDistinct (numbers ts) → IsDistinct (numbers (store_among s ts))
distinct_among s [] h d = (refl, tt)
distinct_among s (t ∷ ts) h d =
    distinct_if (nat_lt t.of s.of) s t (store_among s ts) ts (any_among t.of s ts) h d.0
    (distinct_among s ts (neither (t.of == s.of) (is_among s.of ts) h).1 d.1) d.1

no_more : (a : Bool) → not a ≡ true → a ≡ false
no_more true h = absurd (cc h)
no_more false h = refl

-- stores of numbers that differ are distinct in order
pub distinct_order : (ss : List Store) → differ (numbers ss) ≡ true → IsDistinct (numbers (stores_in_order ss))
distinct_order [] h = tt
distinct_order (s ∷ ss) h =
    let d = both (not (is_among s.of ss)) (differ (numbers ss)) h in
    distinct_among s (stores_in_order ss) (any_order s.of ss ∙ no_more (is_among s.of ss) d.0) (distinct_order ss d.1)
