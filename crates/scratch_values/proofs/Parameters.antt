-- Setting a parameter by the place of its name.
use Rattle.std.proofs.Common.{◌≡◌, ℕ, zero, suc, ◌+◌, ◌<◌, Bool, true, false, List, [], ◌∷◌, ◌++◌, length, set, get_or, Some, None, inl, inr, refl, sym, ap, ◌∙◌, arith}
use Rattle.std.specs.List.{position, position_from}
use Rattle.std.specs.Str.{bytes_eq}
use Rattle.std.proofs.lemmas.Bool.{cases_Bool}
use Rattle.std.proofs.lemmas.Iterator.Adapters.{position_from-zero}
use Rattle.std.proofs.lemmas.List.Quantifiers.{position-Some}
use Rattle.std.proofs.lemmas.Slice.Eq.{bytes_eq-Decides}
use Rattle.scratch_values.specs.declared.value.Value.{Value}
use Rattle.scratch_values.specs.Named.{with_param}

abbrev has_name : List ℕ → List ℕ × Value → Bool
has_name name p = bytes_eq p.0 name

absent_from : (name : List ℕ) (v : Value) (ps : List (List ℕ × Value)) (i : ℕ) → position_from (has_name name) i ps ≡ None → with_param name v ps ≡ ps ++ (name, v) ∷ []
absent_from name v [] i none = refl
absent_from name v (p ∷ ps) i none = elim (cases_Bool (bytes_eq p.0 name)) [
  | inl same ↦ absurd (let found = rw same at none in cc)
  | inr other ↦ rw other (ap (λ (l : List (List ℕ × Value)). p ∷ l) (absent_from name v ps (i + 1) (rw other at none)))
]

-- a name that no parameter has is put behind them
pub with_param-absent : (name : List ℕ) (v : Value) (ps : List (List ℕ × Value)) → position (has_name name) ps ≡ None → with_param name v ps ≡ ps ++ (name, v) ∷ []
with_param-absent name v ps none = absent_from name v ps 0 (sym (position_from-zero (has_name name) ps) ∙ none)

present_at : (name : List ℕ) (v : Value) (ps : List (List ℕ × Value)) (i : ℕ) (d : List ℕ × Value) → i < length ps → bytes_eq (get_or ps i d).0 name ≡ true
    → ((k : ℕ) → k < i → bytes_eq (get_or ps k d).0 name ≡ false) → with_param name v ps ≡ set ps i (name, v)
present_at name v [] i d within here before = absurd (omega arith)
present_at name v (p ∷ ps) zero d within here before =
    rw here (ap (λ (n : List ℕ). (n, v) ∷ ps) ((bytes_eq-Decides p.0 name).0 here))
present_at name v (p ∷ ps) (suc i) d within here before =
    rw (before 0 (omega arith)) (ap (λ (l : List (List ℕ × Value)). p ∷ l) (present_at name v ps i d (omega arith) here (λ k h. before (suc k) (omega arith))))

-- a name that a parameter has is put at its place
pub with_param-present : (name : List ℕ) (v : Value) (ps : List (List ℕ × Value)) (i : ℕ) → position (has_name name) ps ≡ Some i → with_param name v ps ≡ set ps i (name, v)
with_param-present name v ps i found =
    let at = position-Some (has_name name) ps i (name, v) found in
    present_at name v ps i (name, v) at.0 at.1 at.2
