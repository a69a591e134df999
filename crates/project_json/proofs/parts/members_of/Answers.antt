use Rattle.std.proofs.Common.{ℕ, Some, sym, ap, ◌∙◌, map, List}
use Rattle.project_json.specs.Tree.{Tree, field_list}
use Rattle.project_json.specs.Parts.{members_in}
use Rattle.project_json.specs.View.{tree, field}
use Rattle.project_json.proofs.Views.{tree-object, field_list-fields_of}
use Rattle.project_json.proofs.parts.members_of.Goals as goal

pub returns-in-Object : goal.returns-in-Object
returns-in-Object c =
    ap (λ (ms : List (List ℕ × Tree)). Some ms) (sym (ap field_list c.as_slice.ensures ∙ field_list-fields_of (map field c.as_slice.result.now)))
    ∙ ap members_in (sym (tree-object c.in-Object.members) ∙ ap tree (sym c.in-Object.is))
