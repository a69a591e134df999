-- What a tree holds, by its kind.
use Rattle.std.specs.Prelude.{ℕ, List, [], ◌∷◌, Bool, true, false, Option, None, Some, bytes_eq, if◌then◌else◌}
use Rattle.project_json.specs.Tree.{Tree, null, truth, number, text, list, object, tree_list, field_list}

-- the value of the first member with the name
abbrev pub value_named : List ℕ → List (List ℕ × Tree) → Option Tree
value_named name [] = None
value_named name (m ∷ ms) = if bytes_eq m.0 name then Some m.1 else value_named name ms

-- the value of the member of an object with the name
abbrev pub member_of : Tree → List ℕ → Option Tree
member_of null name = None
member_of (truth b) name = None
member_of (number n) name = None
member_of (text t) name = None
member_of (list ts) name = None
member_of (object ms) name = value_named name (field_list ms)

-- the members of an object, in the order of the document
abbrev pub members_in : Tree → Option (List (List ℕ × Tree))
members_in null = None
members_in (truth b) = None
members_in (number n) = None
members_in (text t) = None
members_in (list ts) = None
members_in (object ms) = Some (field_list ms)

-- the items of a list
abbrev pub items_in : Tree → Option (List Tree)
items_in null = None
items_in (truth b) = None
items_in (number n) = None
items_in (text t) = None
items_in (list ts) = Some (tree_list ts)
items_in (object ms) = None

-- the bytes of a text
abbrev pub text_in : Tree → Option (List ℕ)
text_in null = None
text_in (truth b) = None
text_in (number n) = None
text_in (text t) = Some t
text_in (list ts) = None
text_in (object ms) = None

-- a number's own text
abbrev pub digits_in : Tree → Option (List ℕ)
digits_in null = None
digits_in (truth b) = None
digits_in (number n) = Some n
digits_in (text t) = None
digits_in (list ts) = None
digits_in (object ms) = None

-- the value of a truth
abbrev pub truth_in : Tree → Option Bool
truth_in null = None
truth_in (truth b) = Some b
truth_in (number n) = None
truth_in (text t) = None
truth_in (list ts) = None
truth_in (object ms) = None

-- whether it is null
abbrev pub is_null : Tree → Bool
is_null null = true
is_null (truth b) = false
is_null (number n) = false
is_null (text t) = false
is_null (list ts) = false
is_null (object ms) = false
