-- Texts of fields that a run can use as values (the limit on texts of a project file).
use Rattle.std.specs.Prelude.{ℕ, ◌≤◌, List, length}
use Rattle.std.specs.List.{All}
use Rattle.scratch_values.specs.Longest.{longest}
use Rattle.scratch_values.specs.declared.names.VarName.{VarName}
use Rattle.project_spec.specs.declared.blocks.Block.{Block}

-- no field's text is longer than a text of a run
abbrev pub AreShort : List (List ℕ × VarName) → Type 0
AreShort fields = All (λ f. length f.1.name ≤ longest) fields

abbrev pub HaveShortFields : List Block → Type 0
HaveShortFields blocks = All (λ b. AreShort b.fields) blocks
