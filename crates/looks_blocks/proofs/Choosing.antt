-- Texts and truths choose alike.
use Rattle.std.proofs.Common.{◌≡◌, ℕ, List, Bool, refl}
use Rattle.std.specs.Prelude.{bytes_eq, position}
use Rattle.scratch_values.specs.Comparison.{numeric}
use Rattle.scratch_values.specs.Value.{text_of}
use Rattle.scratch_values.specs.declared.value.Value.{Value}
use Rattle.scratch_values.specs.declared.value.Value.TheVariants.{Truth, Text}
use Rattle.machine_spec.specs.Costume.{Choice, by_name, by_number, by_words, choice}

-- the first rule that fits the text of a value
abbrev pub by_text : Bool → List (List ℕ) → ℕ → Value → Choice
by_text is_backdrop names now v =
    by_name (position (λ name. bytes_eq name (text_of v)) names) (by_words is_backdrop (text_of v) now (by_number (numeric v)))

pub choice_truth : (is_backdrop : Bool) (names : List (List ℕ)) (now : ℕ) (v : Value) (b : Bool) → v ≡ Truth b → by_text is_backdrop names now v ≡ choice is_backdrop names now v
choice_truth is_backdrop names now v b e = rw e refl

pub choice_text : (is_backdrop : Bool) (names : List (List ℕ)) (now : ℕ) (v : Value) (t : List ℕ) → v ≡ Text t → by_text is_backdrop names now v ≡ choice is_backdrop names now v
choice_text is_backdrop names now v t e = rw e refl
