-- How much a tree holds.
use Rattle.std.specs.Prelude.{ℕ, ◌+◌}
use Rattle.project_json.specs.Tree.{Tree, null, truth, number, text, list, object, Trees, no_trees, tree_and, Fields, no_fields, field_and}

-- how many members of objects and items of lists there are in all, those inside others too
abbrev mutual
  pub size_of : Tree → ℕ
  size_of null = 0
  size_of (truth b) = 0
  size_of (number n) = 0
  size_of (text t) = 0
  size_of (list ts) = items_size ts
  size_of (object ms) = members_size ms

  pub items_size : Trees → ℕ
  items_size no_trees = 0
  items_size (tree_and t ts) = 1 + size_of t + items_size ts

  pub members_size : Fields → ℕ
  members_size no_fields = 0
  members_size (field_and name t ms) = 1 + size_of t + members_size ms
