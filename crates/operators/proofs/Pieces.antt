-- The contents of lists, piece by piece.
use Rattle.std.proofs.Common.{◌≡◌, ◌<◌, ◌+◌, ℕ, Bool, true, false, List, [], ◌∷◌, ◌++◌, length, map, refl, sym, ap, ◌∙◌, arith, append-nil, length-append, Result, IfOk, subst}
use Rattle.std.specs.Prelude.{flat_map, nat_le, if◌then◌else◌}
use Rattle.std.specs.List.{concat, join_with_byte, sum_by}
use Rattle.std.proofs.lemmas.Bool.Decides.{nat_tests}
use Rattle.std.proofs.lemmas.List.Concat.{length-flat_map}
use Rattle.scratch_values.specs.declared.value.Value.{Value}
use Rattle.scratch_values.specs.declared.value.Value.TheVariants.{Text}
use Rattle.scratch_values.specs.Longest.{longest}
use Rattle.scratch_values.specs.Value.{text_of}
use Rattle.script_words.specs.declared.stops.Stop.{Stop}
use Rattle.machine_spec.specs.Outcome.{Goes, TooLong, StopIs}
use Rattle.machine_spec.specs.Texts.{text_value}
use Rattle.operators.specs.Pieces.{piece}

pub length-pieces : (first : List ℕ) (spaced : Bool) (items : List Value) → length (first ++ flat_map (piece spaced) items) ≡ length first + sum_by (λ v. length (piece spaced v)) items
length-pieces first spaced items = length-append first (flat_map (piece spaced) items) ∙ ap (λ n. length first + n) (length-flat_map (piece spaced) items)

pub pieces_together : (items : List Value) → flat_map (piece false) items ≡ concat (map text_of items)
pieces_together [] = refl
pieces_together (x ∷ xs) = ap (λ t. text_of x ++ t) (pieces_together xs)

pub pieces_apart : (x : Value) (xs : List Value) → text_of x ++ flat_map (piece true) xs ≡ join_with_byte 32 (map text_of (x ∷ xs))
pieces_apart x [] = append-nil (text_of x)
pieces_apart x (y ∷ ys) = ap (λ t. text_of x ++ (32 ∷ t)) (pieces_apart y ys)

not_longer : (n : ℕ) → longest < n → nat_le n longest ≡ false
not_longer n h = grind (arith, nat_tests)

-- a text that is longer than a value may be
pub too_long : (t : List ℕ) (n : ℕ) → n ≡ length t → longest < n → text_value t ≡ TooLong n
too_long t n is long =
    ap (λ b. if b then Goes (Text t) else TooLong (length t)) (not_longer (length t) (subst (λ k. longest < k) is long)) ∙ ap TooLong (sym is)

-- what is told of a text is told of the same text
pub made_of_same : (r : Result Value Stop) (s t : List ℕ) → s ≡ t → IfOk r (λ v. text_value s ≡ Goes v) → IfOk r (λ v. text_value t ≡ Goes v)
made_of_same r s t same h = subst (λ u. IfOk r (λ v. text_value u ≡ Goes v)) same h

pub stops_of_same : (r : Result Value Stop) (s t : List ℕ) → s ≡ t → StopIs r (text_value s) → StopIs r (text_value t)
stops_of_same r s t same h = subst (λ u. StopIs r (text_value u)) same h
