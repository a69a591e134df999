-- A JSON document as a tree (RFC 8259 section 3). A text, a name and a number's own text are lists of bytes.
use Rattle.std.specs.Prelude.{ℕ, List, [], ◌∷◌, Bool}

mutual
  pub data Tree : Type 0 where
    null : Tree
    truth : Bool → Tree
    number : List ℕ → Tree
    text : List ℕ → Tree
    list : Trees → Tree
    object : Fields → Tree

  -- the items of a list, in order
  pub data Trees : Type 0 where
    no_trees : Trees
    tree_and : Tree → Trees → Trees

  -- the members of an object, each with its name, in the order of the document
  pub data Fields : Type 0 where
    no_fields : Fields
    field_and : List ℕ → Tree → Fields → Fields

-- the items as they stand in a tree
abbrev pub trees_of : List Tree → Trees
trees_of [] = no_trees
trees_of (t ∷ ts) = tree_and t (trees_of ts)

-- the members as they stand in a tree
abbrev pub fields_of : List (List ℕ × Tree) → Fields
fields_of [] = no_fields
fields_of (m ∷ ms) = field_and m.0 m.1 (fields_of ms)

-- the items as a list
abbrev pub tree_list : Trees → List Tree
tree_list no_trees = []
tree_list (tree_and t ts) = t ∷ tree_list ts

-- the members as a list of names and values
abbrev pub field_list : Fields → List (List ℕ × Tree)
field_list no_fields = []
field_list (field_and name t ms) = (name, t) ∷ field_list ms
