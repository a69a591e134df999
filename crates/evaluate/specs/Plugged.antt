-- Inputs whose reporters have smaller ranks than their block; the contracts of private functions alone cite it.
use Rattle.std.specs.Prelude.{ℕ, List, [], ◌∷◌}
use Rattle.project_spec.specs.declared.blocks.Operand.{Operand}
use Rattle.cached_blocks.specs.Told.{IsPlugged}
use Rattle.project_check.specs.Loaded.{blocks_at, ranks_at}
use Rattle.evaluate.specs.declared.view.View.{View}

abbrev pub IsPluggedIn : View → ℕ → Operand → Type 0
IsPluggedIn v k x = IsPlugged (blocks_at v.target v.project.now) (ranks_at v.target v.project.now) k x

abbrev pub ArePluggedIn : View → ℕ → List (List ℕ × Operand) → Type 0
ArePluggedIn v k [] = Unit {0}
ArePluggedIn v k (x ∷ xs) = IsPluggedIn v k x.1 × ArePluggedIn v k xs
