-- Stores that are added or dropped leave those of other instances.
use Rattle.std.proofs.Common.{◌≡◌, ◌≢◌, ℕ, zero, suc, ◌<◌, List, [], ◌∷◌, ◌++◌, length, get_or, Option, Some, None, Bool, true, false, not, cond, inl, inr, refl, sym, ap, ◌∙◌, arith, subst, IsSome}
use Rattle.std.specs.Prelude.{◌==◌, unwrap_or, is_some, IsTrue}
use Rattle.std.specs.List.{position, find, filter, remove}
use Rattle.std.specs.Option.{option_or}
use Rattle.std.proofs.lemmas.List.Folds.{find-append}
use Rattle.std.proofs.lemmas.List.Quantifiers.{position-Some}
use Rattle.std.proofs.lemmas.Bool.{cases_Bool, eqb-true}
use Rattle.std.proofs.lemmas.Bool.Decides.{nat_tests}
use Rattle.machine_spec.specs.declared.variables.Store.{Store}
use Rattle.machine_spec.specs.Stores.{Variables, store_at}
use Rattle.variables.specs.Held.{HasStore, HasNoStore}
use Rattle.variables.proofs.Places.{find_is, find_none}
use Rattle.variables.proofs.Shapes.{no_store}

pub store_is_placed : (n : ℕ) (vs : Variables) → HasStore n vs → position (λ s. s.of == n) vs.stores ≡ None → ⊥
store_is_placed n vs h e = let f = find_none (λ (s : Store). s.of == n) vs.stores e in let g = rw f at h in cc

or_none : (o : Option Store) → option_or o None ≡ o
or_none None = refl
or_none (Some s) = refl

-- a store of another instance is put behind
pub store_at-pushed_other : (n : ℕ) (ss : List Store) (t : Store) → n ≢ t.of → store_at n (ss ++ t ∷ []) ≡ store_at n ss
store_at-pushed_other n ss t e =
    let other : (t.of == n) ≡ false = grind (arith, nat_tests) in
    ap (λ o. unwrap_or o (no_store n))
    (find-append (λ (s : Store). s.of == n) ss (t ∷ []) ∙ ap (λ b. option_or (find (λ s. s.of == n) ss) (cond b (Some t) None)) other ∙ or_none (find (λ s. s.of == n) ss))

pub store_at-pushed : (ss : List Store) (t : Store) → find (λ s. s.of == t.of) ss ≡ None → store_at t.of (ss ++ t ∷ []) ≡ t
store_at-pushed ss t e =
    let own : (t.of == t.of) ≡ true = grind (arith, nat_tests) in
    ap (λ o. unwrap_or o (no_store t.of))
    (find-append (λ (s : Store). s.of == t.of) ss (t ∷ []) ∙ ap (λ o. option_or o (cond (t.of == t.of) (Some t) None)) e ∙ ap (λ b. cond b (Some t) None) own)

find_behind : (b : Bool) (s : Store) (o : Option Store) → b ≡ false → o ≡ cond b (Some s) o
find_behind b s o e = sym (ap (λ c. cond c (Some s) o) e)

find-remove : (n : ℕ) (ss : List Store) (i : ℕ) (d : Store) → i < length ss → ((get_or ss i d).of == n) ≡ false → find (λ s. s.of == n) (remove ss i) ≡ find (λ s. s.of == n) ss
find-remove n [] i d lt e = absurd (omega arith)
find-remove n (s ∷ ss) zero d lt e = find_behind (s.of == n) s (find (λ s. s.of == n) ss) e
find-remove n (s ∷ ss) (suc i) d lt e = ap (λ o. cond (s.of == n) (Some s) o) (find-remove n ss i d (omega arith) e)

-- a store of another instance is taken out
pub store_at-removed : (n : ℕ) (ss : List Store) (i : ℕ) (d : Store) → i < length ss → n ≢ (get_or ss i d).of → store_at n (remove ss i) ≡ store_at n ss
store_at-removed n ss i d lt e =
    let other : ((get_or ss i d).of == n) ≡ false = grind (arith, nat_tests) in
    ap (λ o. unwrap_or o (no_store n)) (find-remove n ss i d lt other)

find-filter : (n : ℕ) (p : Store → Bool) (ss : List Store) → ((s : Store) → s.of ≡ n → p s ≡ true) → find (λ s. s.of == n) (filter p ss) ≡ find (λ s. s.of == n) ss
find-filter n p [] h = refl
find-filter n p (s ∷ ss) h = elim (cases_Bool (s.of == n)) [
  | inl t ↦ rw (h s (eqb-true s.of n t), t) refl
  | inr f ↦ elim (cases_Bool (p s)) [
    | inl t ↦ rw (t, f) (find-filter n p ss h)
    | inr g ↦ rw (g, f) (find-filter n p ss h)
  ]
]

-- the stores that are kept have all of the instance
pub store_at-filtered : (n : ℕ) (p : Store → Bool) (ss : List Store) → ((s : Store) → s.of ≡ n → p s ≡ true) → store_at n (filter p ss) ≡ store_at n ss
store_at-filtered n p ss h = ap (λ o. unwrap_or o (no_store n)) (find-filter n p ss h)

-- the first store of an instance is taken out
pub store_at-dropped : (n id : ℕ) (ss : List Store) (i : ℕ) → position (λ s. s.of == id) ss ≡ Some i → n ≢ id → store_at n (remove ss i) ≡ store_at n ss
store_at-dropped n id ss i p ne =
    let at = position-Some (λ (s : Store). s.of == id) ss i (no_store n) p in
    store_at-removed n ss i (no_store n) at.0 (λ e. ne (e ∙ eqb-true _ id at.1))

twice : (b : Bool) → b ≡ not (not b)
twice true = refl
twice false = refl

pub kept_twice : (p : Store → Bool) (ss : List Store) → filter p ss ≡ filter (λ s. not (not (p s))) ss
kept_twice p [] = refl
kept_twice p (s ∷ ss) =
    ap (λ l. cond (p s) (s ∷ l) l) (kept_twice p ss) ∙ ap (λ b. cond b (s ∷ filter (λ x. not (not (p x))) ss) (filter (λ x. not (not (p x))) ss)) (twice (p s))

store_by : (n : ℕ) (vs : Variables) (o : Option ℕ) → position (λ s. s.of == n) vs.stores ≡ o → (IsTrue (is_some o) → HasStore n vs) × (HasStore n vs → IsTrue (is_some o))
store_by n vs (Some k) e =
    let P : Option Store → Type 0 = IsSome in
    (λ t. subst P (sym (find_is (λ (s : Store). s.of == n) vs.stores k (no_store n) e)) refl, λ h. refl)
store_by n vs None e = (λ t. absurd (cc t), λ h. absurd (store_is_placed n vs h e))

-- an instance has a store where it has a place
pub store_held : (n : ℕ) (vs : Variables) (o : Option ℕ) (b : Bool) → position (λ s. s.of == n) vs.stores ≡ o → b ≡ is_some o → (IsTrue b → HasStore n vs) × (HasStore n vs → IsTrue b)
store_held n vs o b e f =
    let P : Bool → Type 0 = λ c. (IsTrue c → HasStore n vs) × (HasStore n vs → IsTrue c) in
    subst P (sym f) (store_by n vs o e)

pub store_free : (n : ℕ) (vs : Variables) (o : Option ℕ) (b : Bool) → position (λ s. s.of == n) vs.stores ≡ o → b ≡ is_some o → b ≡ false → HasNoStore n vs
store_free n vs (Some k) b e f g = absurd (cc (f, g))
store_free n vs None b e f g = find_none (λ (s : Store). s.of == n) vs.stores e
