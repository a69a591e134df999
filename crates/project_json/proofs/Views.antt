-- The trees of lists and objects, and lists of trees there and back.
use Rattle.std.proofs.Common.{◌≡◌, ℕ, List, [], ◌∷◌, refl, sym, ap, ◌∙◌}
use Rattle.project_json.specs.Tree.{Tree, Trees, Fields, list, object, trees_of, fields_of, tree_list, field_list}
use Rattle.project_json.specs.View.{json_step, items_step, member_step, members_step, tree, trees_in, fields_in}
use Rattle.project_json.specs.declared.json.Json.{List as JsonList, Object}
use Rattle.project_json.specs.declared.json.Json.TheOpen.{Json-F}
use Rattle.project_json.specs.declared.json.Json.TheViews.{rolls-List, rolls-Object}
use Rattle.project_json.specs.declared.json.Json.TheFolds.{fold-roll-Json}
use Rattle.project_json.specs.declared.json.Items.{Items}
use Rattle.project_json.specs.declared.json.Members.{Members}

pub tree-object : (ms : Members) → tree (Object ms) ≡ object (fields_in ms)
tree-object ms = ap tree (sym (rolls-Object ms)) ∙ fold-roll-Json Tree Trees (List ℕ × Tree) Fields json_step items_step member_step members_step (Json-F.Object ms)

pub tree-list : (js : Items) → tree (JsonList js) ≡ list (trees_in js)
tree-list js = ap tree (sym (rolls-List js)) ∙ fold-roll-Json Tree Trees (List ℕ × Tree) Fields json_step items_step member_step members_step (Json-F.List js)

pub tree_list-trees_of : (ts : List Tree) → tree_list (trees_of ts) ≡ ts
tree_list-trees_of [] = refl
tree_list-trees_of (t ∷ ts) = ap (λ xs. t ∷ xs) (tree_list-trees_of ts)

pub field_list-fields_of : (ms : List (List ℕ × Tree)) → field_list (fields_of ms) ≡ ms
field_list-fields_of [] = refl
field_list-fields_of (m ∷ ms) = ap (λ xs. m ∷ xs) (field_list-fields_of ms)
