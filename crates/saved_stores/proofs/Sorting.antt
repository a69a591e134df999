-- A stable sort by number leaves the stores in their order.
use Rattle.std.proofs.Common.{◌≡◌, ℕ, suc, ◌<◌, ◌≤◌, ◌==◌, ◌⊎◌, inl, inr, Bool, true, false, ◌&&◌, List, [], ◌∷◌, length, refl, sym, ap, ◌∙◌, arith}
use Rattle.std.specs.Prelude.{nat_lt, filter, not, get_or, if◌then◌else◌}
use Rattle.std.specs.List.Sorted.{IsNonDecreasingBy, IsStableByKey}
use Rattle.std.specs.Ordering.{is_lt, nat_cmp}
use Rattle.std.specs.Fn.{Called, ComputesKey}
use Rattle.std.proofs.lemmas.Fn.{always_returns_same}
use denote.Ref.{Bor}
use denote.Param.Members.{Mut}
use Rattle.std.proofs.lemmas.Bool.{cases_lt}
use Rattle.std.proofs.lemmas.Bool.Decides.{nat_tests}
use Rattle.machine_spec.specs.declared.variables.Store.{Store}
use Rattle.saved_spec.specs.RunShapes.{store_among, stores_in_order}

-- its number is this
abbrev has : ℕ → Store → Bool
has k s = s.of == k

-- each number is from n on; no number is below one before it
abbrev Above : ℕ → List Store → Type 0
Above n [] = Unit {0}
Above n (s ∷ ss) = (n ≤ s.of) × Above n ss

abbrev Up : List Store → Type 0
Up [] = Unit {0}
Up (s ∷ ss) = Above s.of ss × Up ss

above_from : (n : ℕ) (ss : List Store) → ((j : ℕ) (d : Store) → j < length ss → n ≤ (get_or ss j d).of) → Above n ss
above_from n [] h = tt
above_from n (s ∷ ss) h = (h 0 s (omega arith), above_from n ss (λ j d l. h (suc j) d (omega arith)))

up_from : (ss : List Store) → IsNonDecreasingBy (λ s. s.of) ss → Up ss
up_from [] h = tt
up_from (s ∷ ss) h = (above_from s.of ss (λ j d l. h 0 (suc j) d (omega arith) (omega arith)), up_from ss (λ i j d a l. h (suc i) (suc j) d (omega arith) (omega arith)))

above_more : (m n : ℕ) (ss : List Store) → m ≤ n → Above n ss → Above m ss
above_more m n [] le h = tt
above_more m n (s ∷ ss) le h = (omega (arith, h.0), above_more m n ss le h.1)

-- What is inserted

above_if : (c : Bool) (n : ℕ) (s t : Store) (us ts : List Store) → n ≤ s.of → n ≤ t.of → Above n us → Above n ts → Above n (if c then t ∷ us else s ∷ t ∷ ts)
above_if true n s t us ts a b hu ht = (b, hu)
above_if false n s t us ts a b hu ht = (a, (b, ht))

above_among : (n : ℕ) (s : Store) (ts : List Store) → n ≤ s.of → Above n ts → Above n (store_among s ts)
above_among n s [] le h = (le, tt)
above_among n s (t ∷ ts) le h = above_if (nat_lt t.of s.of) n s t (store_among s ts) ts le h.0 (above_among n s ts le h.1) h.1

up_if : (c : Bool) (s t : Store) (us ts : List Store) → nat_lt t.of s.of ≡ c → (t.of ≤ s.of → Above t.of us) → Up us → Above t.of ts → Up ts → Up (if c then t ∷ us else s ∷ t ∷ ts)
up_if true s t us ts e a u b v = (a (grind (arith, nat_tests)), u)
up_if false s t us ts e a u b v = let le : s.of ≤ t.of = grind (arith, nat_tests) in ((le, above_more s.of t.of ts le b), (b, v))

up_among : (s : Store) (ts : List Store) → Up ts → Up (store_among s ts)
up_among s [] h = (tt, tt)
up_among s (t ∷ ts) h = up_if (nat_lt t.of s.of) s t (store_among s ts) ts refl (λ le. above_among t.of s ts le h.0) (up_among s ts h.1) h.0 h.1

up_order : (ss : List Store) → Up (stores_in_order ss)
up_order [] = tt
up_order (s ∷ ss) = up_among s (stores_in_order ss) (up_order ss)

-- Those of one number

swapped : (a b : Bool) (s t : Store) (rest : List Store) → (a ≡ true → b ≡ true → ⊥)
    → (if a then t ∷ (if b then s ∷ rest else rest) else (if b then s ∷ rest else rest)) ≡ (if b then s ∷ (if a then t ∷ rest else rest) else (if a then t ∷ rest else rest))
swapped true true s t rest n = absurd (n refl refl)
swapped true false s t rest n = refl
swapped false true s t rest n = refl
swapped false false s t rest n = refl

kept_if : (c : Bool) (k : ℕ) (s t : Store) (us ts : List Store) → nat_lt t.of s.of ≡ c → filter (has k) us ≡ filter (has k) (s ∷ ts) → filter (has k) (if c then t ∷ us else s ∷ t ∷ ts) ≡ filter (has k) (s ∷ t ∷ ts)
kept_if true k s t us ts e more = ap (λ r. if has k t then t ∷ r else r) more ∙ swapped (has k t) (has k s) s t (filter (has k) ts) (λ a b. grind (arith, nat_tests))
kept_if false k s t us ts e more = refl

kept : (k : ℕ) (s : Store) (ts : List Store) → filter (has k) (store_among s ts) ≡ filter (has k) (s ∷ ts)
kept k s [] = refl
kept k s (t ∷ ts) = kept_if (nat_lt t.of s.of) k s t (store_among s ts) ts refl (kept k s ts)

order_kept : (k : ℕ) (ss : List Store) → filter (has k) (stores_in_order ss) ≡ filter (has k) ss
order_kept k [] = refl
order_kept k (s ∷ ss) = kept k s (stores_in_order ss) ∙ ap (λ r. if has k s then s ∷ r else r) (order_kept k ss)

-- Lists that rise and have the same of each number are the same

has_own : (s : Store) → has s.of s ≡ true
has_own s = grind (arith, nat_tests)

has_no : (k : ℕ) (s : Store) → k < s.of → has k s ≡ false
has_no k s l = grind (arith, nat_tests)

none_above : (k n : ℕ) (ss : List Store) → k < n → Above n ss → filter (has k) ss ≡ []
none_above k n [] l h = refl
none_above k n (s ∷ ss) l h = ap (λ b. if b then s ∷ filter (has k) ss else filter (has k) ss) (has_no k s (omega (arith, h.0))) ∙ none_above k n ss l h.1

one_first : (s : Store) (ss : List Store) → filter (has s.of) (s ∷ ss) ≡ s ∷ filter (has s.of) ss
one_first s ss = ap (λ b. if b then s ∷ filter (has s.of) ss else filter (has s.of) ss) (has_own s)

tail_if : (b : Bool) (s : Store) (us vs : List Store) → (if b then s ∷ us else us) ≡ (if b then s ∷ vs else vs) → us ≡ vs
tail_if true s us vs e = cc e
tail_if false s us vs e = e

abbrev Same : List Store → List Store → Type 0
Same xs ys = (k : ℕ) → filter (has k) xs ≡ filter (has k) ys

same_first : (x y : Store) (xs ys : List Store) → Up (x ∷ xs) → Up (y ∷ ys) → Same (x ∷ xs) (y ∷ ys) → x ≡ y
same_first x y xs ys ux uy h = by (cases_lt x.of y.of) (cases_lt y.of x.of)
  where
    by : (x.of < y.of) ⊎ (y.of ≤ x.of) → (y.of < x.of) ⊎ (x.of ≤ y.of) → x ≡ y
    by (inl l) o = let e = sym (one_first x xs) ∙ h x.of ∙ none_above x.of y.of (y ∷ ys) l (omega arith, uy.0) in absurd (cc e)
    by (inr a) (inl l) = let e = sym (one_first y ys) ∙ sym (h y.of) ∙ none_above y.of x.of (x ∷ xs) l (omega arith, ux.0) in absurd (cc e)
    by (inr a) (inr b) =
        let at : x.of ≡ y.of = omega arith in
        let e = sym (one_first x xs) ∙ h x.of ∙ ap (λ k. filter (has k) (y ∷ ys)) at ∙ one_first y ys in cc e

same : (xs ys : List Store) → Up xs → Up ys → Same xs ys → xs ≡ ys
same [] [] ux uy h = refl
same [] (y ∷ ys) ux uy h = let e = h y.of ∙ one_first y ys in absurd (cc e)
same (x ∷ xs) [] ux uy h = let e = sym (one_first x xs) ∙ h x.of in absurd (cc e)
same (x ∷ xs) (y ∷ ys) ux uy h =
    let first = same_first x y xs ys ux uy h in
    let rest : xs ≡ ys = same xs ys ux.1 uy.1 (λ k. tail_if (has k x) x (filter (has k) xs) (filter (has k) ys) (h k ∙ ap (λ z. filter (has k) (z ∷ ys)) (sym first))) in
    ap (λ z. z ∷ xs) first ∙ ap (λ zs. y ∷ zs) rest

-- What the clauses of a sort say

tie : (x s : Store) → not (is_lt (nat_cmp x.of s.of)) && not (is_lt (nat_cmp s.of x.of)) ≡ has x.of s
tie x s = grind (arith, nat_tests)

numbered : ℕ → Store
numbered k = record { of = k; values = []; lists = [] }

pub sorted_is : (xs ys : List Store) → IsNonDecreasingBy (λ s. s.of) ys → IsStableByKey (λ s. s.of) nat_cmp xs ys → ys ≡ stores_in_order xs
unfolding numbered
sorted_is xs ys up stable =
    same ys (stores_in_order xs) (up_from ys up) (up_order xs)
    (λ k. sym (λ i. filter (λ s. tie (numbered k) s i) ys) ∙ stable (numbered k) ∙ (λ i. filter (λ s. tie (numbered k) s i) xs) ∙ sym (order_kept k xs))

pub stable_from : {F : Type 0} {g : Mut F (Bor Store × Unit {0}) ℕ} {f : F} (xs ys : List Store)
    → ((key : Store → ℕ) → ComputesKey g key f → IsStableByKey key nat_cmp xs ys)
    → ((a : Bor Store × Unit {0}) (r : ℕ) (f' : F) → Called g f a r f' → (r ≡ a.0.now.of) × (f' ≡ f)) → IsStableByKey (λ s. s.of) nat_cmp xs ys
stable_from {g = g} {f = f} xs ys up h = up (λ s. s.of) (always_returns_same g (λ a r. r ≡ a.0.now.of) f h)
