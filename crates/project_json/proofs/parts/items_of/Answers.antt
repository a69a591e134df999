use Rattle.std.proofs.Common.{Some, sym, ap, ◌∙◌, map, List}
use Rattle.project_json.specs.Tree.{Tree, tree_list}
use Rattle.project_json.specs.Parts.{items_in}
use Rattle.project_json.specs.View.{tree}
use Rattle.project_json.proofs.Views.{tree-list, tree_list-trees_of}
use Rattle.project_json.proofs.parts.items_of.Goals as goal

pub returns-in-List : goal.returns-in-List
returns-in-List c =
    ap (λ (ts : List Tree). Some ts) (sym (ap tree_list c.as_slice.ensures ∙ tree_list-trees_of (map tree c.as_slice.result.now)))
    ∙ ap items_in (sym (tree-list c.in-List.items) ∙ ap tree (sym c.in-List.is))
