-- What the trees of JSON texts have: their numbers are those of the grammar, and their lists are short.
use Rattle.std.proofs.Common.{ℕ, ◌<◌, ◌≤◌, Bool, true, false, cond, List, [], ◌∷◌, length, sym, subst, arith}
use Rattle.std.specs.Prelude.{bytes_eq}
use Rattle.project_json.specs.Tree.{Tree, null, truth, number, text, list, object, Trees, no_trees, tree_and, Fields, no_fields, field_and, trees_of, fields_of, tree_list, field_list}
use Rattle.project_json.specs.Size.{size_of, items_size, members_size}
use Rattle.project_json.specs.Numbers.{IsNumber}
use Rattle.project_json.specs.Grammar.{put, Value, null_here, true_here, false_here, number_here, text_here, no_items_here, items_here, no_members_here, members_here, Spaced, spaced, Items, last_item, more_items, Members, last_member, more_members, IsJson}
use Rattle.project_json.proofs.Sizes.{IsJson-size}
use Rattle.laws_of_threads.specs.Lists.{Each}
use Rattle.laws_of_programs.proofs.Readers.{Gives}
use Rattle.json_shapes.specs.Shapes.{items, members, digits}

-- each number in it is one of the grammar
abbrev mutual
  pub Numbered : Tree → Type 0
  Numbered null = Unit {0}
  Numbered (truth b) = Unit {0}
  Numbered (number ds) = IsNumber ds
  Numbered (text t) = Unit {0}
  Numbered (list ts) = NumberedItems ts
  Numbered (object ms) = NumberedMembers ms

  NumberedItems : Trees → Type 0
  NumberedItems no_trees = Unit {0}
  NumberedItems (tree_and t ts) = Numbered t × NumberedItems ts

  NumberedMembers : Fields → Type 0
  NumberedMembers no_fields = Unit {0}
  NumberedMembers (field_and name t ms) = Numbered t × NumberedMembers ms

put_by : (c : Bool) (m : List ℕ × Tree) (t : Tree) (ms : List (List ℕ × Tree)) (rest : List (List ℕ × Tree)) → Numbered t → NumberedMembers (fields_of (m ∷ ms)) → NumberedMembers (fields_of rest) → NumberedMembers (fields_of (cond c ((m.0, t) ∷ ms) (m ∷ rest)))
put_by true m t ms rest h g k = (h, g.1)
put_by false m t ms rest h g k = (g.0, k)

put_numbered : (name : List ℕ) (t : Tree) (ms : List (List ℕ × Tree)) → Numbered t → NumberedMembers (fields_of ms) → NumberedMembers (fields_of (put name t ms))
put_numbered name t [] h g = (h, tt)
put_numbered name t (m ∷ ms) h g = put_by (bytes_eq m.0 name) m t ms (put name t ms) h g (put_numbered name t ms h g.1)

mutual
  value_numbered : {n : ℕ} {t : Tree} {old new : List ℕ} → Value n t old new → Numbered t
  value_numbered null_here = tt
  value_numbered true_here = tt
  value_numbered false_here = tt
  value_numbered (number_here ds w e) = w
  value_numbered (text_here ps is e) = subst Numbered (sym e) tt
  value_numbered (no_items_here g) = tt
  value_numbered (items_here ts is e) = subst Numbered (sym e) (items_numbered is)
  value_numbered (no_members_here g) = tt
  value_numbered (members_here ms is e) = subst Numbered (sym e) (members_numbered is tt)

  spaced_numbered : {n : ℕ} {t : Tree} {old new : List ℕ} → Spaced n t old new → Numbered t
  spaced_numbered (spaced begin end f v g) = value_numbered v

  items_numbered : {n : ℕ} {ts : List Tree} {old new : List ℕ} → Items n ts old new → NumberedItems (trees_of ts)
  items_numbered (last_item p) = (spaced_numbered p, tt)
  items_numbered (more_items mid p is) = (spaced_numbered p, items_numbered is)

  members_numbered : {n : ℕ} {before ms : List (List ℕ × Tree)} {old new : List ℕ} → Members n before ms old new → NumberedMembers (fields_of before) → NumberedMembers (fields_of ms)
  members_numbered (last_member name t {before} mid a p e) h = subst (λ xs. NumberedMembers (fields_of xs)) (sym e) (put_numbered name t before (spaced_numbered p) h)
  members_numbered (more_members name t {before} mid next a p is) h = members_numbered is (put_numbered name t before (spaced_numbered p) h)

-- and its lists have less items than this
pub record IsTold (b : ℕ) (t : Tree) : Type 0 where
  pub numbered : Numbered t
  pub small : size_of t < b

-- the tree of a JSON text that is shorter
pub text_told : (n b : ℕ) (bytes : List ℕ) (t : Tree) → IsJson n bytes t → length bytes < b → IsTold b t
text_told n b bytes t h l = let s = IsJson-size n bytes t h in record { numbered = spaced_numbered h; small = omega arith }

-- Parts

told_items : (b : ℕ) (ts : Trees) → NumberedItems ts → items_size ts < b → Each (IsTold b) (tree_list ts) × (length (tree_list ts) < b)
told_items b no_trees h l = (tt, omega arith)
told_items b (tree_and t ts) h l = (
  (record { numbered = h.0; small = omega arith }, (told_items b ts h.1 (omega arith)).0),
  omega (arith, length_at ts),
)
  where
    length_at : (ts : Trees) → length (tree_list ts) ≤ items_size ts
    length_at no_trees = omega arith
    length_at (tree_and t ts) = let k = length_at ts in omega (arith, k)

told_members : (b : ℕ) (ms : Fields) → NumberedMembers ms → members_size ms < b → Each (λ m. IsTold b m.1) (field_list ms)
told_members b no_fields h l = tt
told_members b (field_and name t ms) h l = (record { numbered = h.0; small = omega arith }, told_members b ms h.1 (omega arith))

pub items_told : (b : ℕ) (at : List (List ℕ)) (t : Tree) → IsTold b t → Gives (λ ts. Each (IsTold b) ts × (length ts < b)) (items at t)
items_told b at null h = tt
items_told b at (truth x) h = tt
items_told b at (number ds) h = tt
items_told b at (text t) h = tt
items_told b at (list ts) h = told_items b ts h.numbered h.small
items_told b at (object ms) h = tt

pub members_told : (b : ℕ) (at : List (List ℕ)) (t : Tree) → IsTold b t → Gives (Each (λ m. IsTold b m.1)) (members at t)
members_told b at null h = tt
members_told b at (truth x) h = tt
members_told b at (number ds) h = tt
members_told b at (text t) h = tt
members_told b at (list ts) h = tt
members_told b at (object ms) h = told_members b ms h.numbered h.small

pub digits_told : (b : ℕ) (at : List (List ℕ)) (t : Tree) → IsTold b t → Gives IsNumber (digits at t)
digits_told b at null h = tt
digits_told b at (truth x) h = tt
digits_told b at (number ds) h = h.numbered
digits_told b at (text t) h = tt
digits_told b at (list ts) h = tt
digits_told b at (object ms) h = tt
