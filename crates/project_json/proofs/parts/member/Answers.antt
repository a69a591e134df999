use Rattle.std.proofs.Common.{sym, ap, ◌∙◌, map}
use Rattle.project_json.specs.Tree.{field_list}
use Rattle.project_json.specs.Parts.{value_named, member_of}
use Rattle.project_json.specs.View.{tree, field}
use Rattle.project_json.proofs.Views.{tree-object, field_list-fields_of}
use Rattle.project_json.proofs.parts.member.Goals as goal

pub returns-in-Object : goal.returns-in-Object
returns-in-Object c =
    c.value_named.ensures
    ∙ ap (value_named c.args.name.now) (sym (ap field_list c.as_slice.ensures ∙ field_list-fields_of (map field c.as_slice.result.now)))
    ∙ ap (λ t. member_of t c.args.name.now) (sym (tree-object c.in-Object.members) ∙ ap tree (sym c.in-Object.is))
