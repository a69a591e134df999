-- Whether a thread of a hat is alive, told by the first one of the hat.
use Rattle.std.proofs.Common.{◌≡◌, ℕ, ◌+◌, Bool, true, false, List, [], ◌∷◌, position, refl, sym, ◌∙◌, ap, ap₂, Option, Some, None, option_map, slice_get, inl, inr}
use Rattle.std.specs.Prelude.{◌&&◌, not}
use Rattle.std.specs.List.{list_any, position_from}
use Rattle.std.proofs.lemmas.Bool.{cases_Bool}
use Rattle.std.proofs.lemmas.Iterator.Adapters.{position_from-zero}
use Rattle.std.proofs.lemmas.List.Folds.{list_any_at}
use Rattle.std.proofs.lemmas.List.Quantifiers.{position-Some}
use Rattle.std.proofs.lemmas.Option.{get_or_from_slice_get}
use Rattle.machine_spec.specs.Threads.{is_done}
use Rattle.thread_frames.specs.Threads.{Thread, Bare, bare, is_of, is_alive_of}

none_from : {X : Type 0} (p q : X → Bool) (i : ℕ) (xs : List X) → position_from p i xs ≡ None → list_any (λ x. p x && q x) xs ≡ false
none_from p q i [] none = refl
none_from p q i (x ∷ xs) none = elim (cases_Bool (p x)) [
  | inl t ↦ let found : Some i ≡ None = rw t at none in cc
  | inr f ↦ rw f (none_from p q (i + 1) xs (rw f at none))
]

-- there is none of the hat
pub none_alive : (of hat : ℕ) (xs : List Thread) → position (is_of of hat) xs ≡ None → list_any (is_alive_of of hat) xs ≡ false
none_alive of hat xs none = none_from (is_of of hat) (λ t. not (is_done t.status)) 0 xs (sym (position_from-zero (is_of of hat) xs) ∙ none)

first_is_alive : (of hat : ℕ) (xs : List Thread) (i : ℕ) (t : Thread) → position (is_of of hat) xs ≡ Some i → slice_get xs i ≡ Some t → is_done t.status ≡ false → list_any (is_alive_of of hat) xs ≡ true
first_is_alive of hat xs i t first at alive =
    let found = position-Some (is_of of hat) xs i t first in
    let same = get_or_from_slice_get xs i t t at in
    list_any_at (is_alive_of of hat) xs i t found.0 (ap₂ (λ (a b : Bool). a && b) found.1 (ap (λ (x : Thread). not (is_done x.status)) same ∙ ap not alive))

-- the first one is not done, as it is seen without its levels
pub bare_at : (o : Option Thread) (b : Bare) → Some b ≡ option_map bare o → (t : Thread) × (o ≡ Some t) × (bare t ≡ b)
bare_at None b is = absurd (cc)
bare_at (Some t) b is = let same : b ≡ bare t = cc in (t, refl, sym same)

pub first_alive : (of hat : ℕ) (xs : List Thread) (i : ℕ) (b : Bare) → position (is_of of hat) xs ≡ Some i → Some b ≡ option_map bare (slice_get xs i) → is_done b.status ≡ false → list_any (is_alive_of of hat) xs ≡ true
first_alive of hat xs i b first at alive =
    let found = bare_at (slice_get xs i) b at in
    first_is_alive of hat xs i found.0 first found.1 (ap (λ (x : Bare). is_done x.status) found.2 ∙ alive)
