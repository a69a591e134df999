-- First places of ids, as they are noted one after another.
use Rattle.std.proofs.Common.{◌≡◌, ℕ, ◌+◌, Bool, true, false, cond, List, [], ◌∷◌, ◌++◌, length, position, Option, None, Some, is_some, refl, sym, ◌∙◌, ap, arith, if◌then◌else◌}
use Rattle.std.specs.Str.{bytes_eq}
use Rattle.std.specs.List.{position_from}
use Rattle.std.specs.Map.{update}
use Rattle.std.proofs.lemmas.Slice.Eq.{bytes_eq-Decides}
use Rattle.std.proofs.lemmas.Iterator.Adapters.{position_from-zero}
use Rattle.block_table.specs.Places.{noted, Notes, AreFirst}
use Rattle.std.specs.Prelude.{String}
use Rattle.std.specs.HashMap.{HashMap}

position_from-push : {X : Type 0} (t : X → Bool) (i : ℕ) (xs : List X) (x : X) → position_from t i (xs ++ x ∷ []) ≡ noted (position_from t i xs) (t x) (i + length xs)
position_from-push t i [] x = ap (λ n. if t x then Some n else None) (omega arith)
position_from-push t i (y ∷ ys) x = by (t y) (position_from-push t (i + 1) ys x)
  where
    by : (b : Bool) → position_from t (i + 1) (ys ++ x ∷ []) ≡ noted (position_from t (i + 1) ys) (t x) (i + 1 + length ys) → cond b (Some i) (position_from t (i + 1) (ys ++ x ∷ [])) ≡ noted (cond b (Some i) (position_from t (i + 1) ys)) (t x) (i + length (y ∷ ys))
    by true rest = refl
    by false rest = rest ∙ ap (λ n. noted (position_from t (i + 1) ys) (t x) n) (omega arith)

-- the first place of an id in ids that one more follows
pub position-push : {X : Type 0} (t : X → Bool) (xs : List X) (x : X) → position t (xs ++ x ∷ []) ≡ noted (position t xs) (t x) (length xs)
position-push t xs x =
    position_from-zero t (xs ++ x ∷ []) ∙ position_from-push t 0 xs x
    ∙ ap (λ n. noted (position_from t 0 xs) (t x) n) (omega arith)
    ∙ ap (λ o. noted o (t x) (length xs)) (sym (position_from-zero t xs))

module _ (f : List ℕ → Option ℕ) (id : List ℕ) (place : ℕ) where
  -- an id that has a place keeps it
  pub noted-present : is_some (f id) ≡ true → (other : List ℕ) → f other ≡ noted (f other) (bytes_eq id other) place
  noted-present there other = by (f other) refl (bytes_eq id other) refl
    where
      by : (o : Option ℕ) → f other ≡ o → (b : Bool) → bytes_eq id other ≡ b → o ≡ noted o b place
      by (Some k) e b same = refl
      by None e false same = refl
      by None e true same = absurd (cc (sym there ∙ ap (λ i. is_some (f i)) ((bytes_eq-Decides id other).0 same) ∙ ap is_some e))

  -- another has the place from then on
  pub noted-absent : f id ≡ None → (other : List ℕ) → update bytes_eq f id (Some place) other ≡ noted (f other) (bytes_eq id other) place
  noted-absent absent other = by (f other) refl (bytes_eq id other) refl
    where
      by : (o : Option ℕ) → f other ≡ o → (b : Bool) → bytes_eq id other ≡ b → cond b (Some place) o ≡ noted o b place
      by None e true same = refl
      by None e false same = refl
      by (Some k) e false same = refl
      by (Some k) e true same = absurd (cc (sym absent ∙ ap f ((bytes_eq-Decides id other).0 same) ∙ e))

-- the places of ids that one more follows are first places
pub first_push : {Y S : Type 0} (old new : HashMap (String Y) ℕ S) (ids : List (List ℕ)) (id : List ℕ)
    → Notes old new id (length ids) → AreFirst old ids → AreFirst new (ids ++ id ∷ [])
first_push old new ids id notes first other =
    notes other ∙ ap (λ o. noted o (bytes_eq id other) (length ids)) (first other)
    ∙ sym (position-push (λ x. bytes_eq x other) ids id)
