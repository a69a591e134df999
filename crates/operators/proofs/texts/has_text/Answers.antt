use Rattle.std.proofs.Common.{Result, Ok, Err, Bool, ◌≡◌, ◌↔◌, IfOk, IsTrue, List, ℕ}
use Rattle.scratch_values.specs.Folding.{HasPart}
use Rattle.machine_spec.specs.Texts.{has_part}
use Rattle.operators.proofs.Parts.{part_found}
use Rattle.operators.proofs.texts.has_text.Goals as goal

found : {E : Type 0} (r : Result Bool E) (whole part : List ℕ) → IfOk r (λ f. IsTrue f ↔ HasPart whole part) → IfOk r (λ f. f ≡ has_part whole part)
found (Ok f) whole part h = part_found f whole part h
found (Err e) whole part h = tt

pub returns : goal.returns
returns c = found c.contains.result _ _ c.contains.ensures
