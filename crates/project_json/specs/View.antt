-- The tree that a value stands for.
use Rattle.std.specs.Prelude.{ℕ, List}
use Rattle.project_json.specs.Tree.{Tree, null, truth, number, text, list, object, Trees, Fields, trees_of, fields_of}
use Rattle.project_json.specs.declared.json.Json.{Json}
use Rattle.project_json.specs.declared.json.Json.TheOpen.{Json-F, Items-F, Member-F, Members-F}
use Rattle.project_json.specs.declared.json.Json.TheFolds.{fold-Json, fold-Items, fold-Member, fold-Members}
use Rattle.project_json.specs.declared.json.Member.{Member}
use Rattle.project_json.specs.declared.json.Items.{Items}
use Rattle.project_json.specs.declared.json.Members.{Members}

-- one level, where what is inside stands for a tree already
abbrev pub json_step : Json-F Tree Trees (List ℕ × Tree) Fields → Tree
json_step Json-F.Null = null
json_step (Json-F.Truth b) = truth b
json_step (Json-F.Number n) = number n
json_step (Json-F.Text t) = text t
json_step (Json-F.List ts) = list ts
json_step (Json-F.Object ms) = object ms

abbrev pub items_step : Items-F Tree Trees (List ℕ × Tree) Fields → Trees
items_step x = trees_of x.items.items

abbrev pub member_step : Member-F Tree Trees (List ℕ × Tree) Fields → List ℕ × Tree
member_step x = (x.name, x.value)

abbrev pub members_step : Members-F Tree Trees (List ℕ × Tree) Fields → Fields
members_step x = fields_of x.members.items

-- the tree of a value
abbrev pub tree : Json → Tree
tree = fold-Json Tree Trees (List ℕ × Tree) Fields json_step items_step member_step members_step

-- the name of a member, and the tree of its value
abbrev pub field : Member → List ℕ × Tree
field = fold-Member Tree Trees (List ℕ × Tree) Fields json_step items_step member_step members_step

-- the items of a list
abbrev pub trees_in : Items → Trees
trees_in = fold-Items Tree Trees (List ℕ × Tree) Fields json_step items_step member_step members_step

-- the members of an object
abbrev pub fields_in : Members → Fields
fields_in = fold-Members Tree Trees (List ℕ × Tree) Fields json_step items_step member_step members_step
