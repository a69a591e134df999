-- Links, checked scripts, what each block has to have, and how deep reporters nest.
use Rattle.std.specs.Prelude.{◌≡◌, ℕ, ◌+◌, ◌<◌, Bool, true, false, not, ◌&&◌, ◌||◌, ◌==◌, if◌then◌else◌, List, [], ◌∷◌, ◌++◌, length, flat_map, find, take, slice_get, slice_index, bytes_eq, codes, Option, None, Some, option_map, IsTrue, Contains}
use Rattle.std.specs.List.{list_any}
use Rattle.opcode_table.specs.declared.opcode.Opcode.{Opcode}
use Rattle.opcode_table.specs.declared.opcode.Opcode.TheVariants.{OperatorMathOp}
use Rattle.opcode_table.specs.declared.shape.Role.{Role}
use Rattle.opcode_table.specs.declared.shape.Role.TheVariants as role
use Rattle.opcode_table.specs.Table.{row, Input as Wanted}
use Rattle.scratch_values.specs.Folding.{folded}
use Rattle.scratch_values.specs.declared.names.VarName.{VarName}
use Rattle.project_spec.specs.Blocks.{Link, To, Unknown, Code, Known, Other, Input, Block}
use Rattle.project_spec.specs.declared.blocks.Input.TheVariants as input

-- Links

-- what a link stands for in its block
pub data Place : Type 0 where
  Behind : Place
  In : (name : List ℕ) → Place

abbrev pub next_link : Option Link → List (Place × Link)
next_link None = []
next_link (Some l) = (Behind, l) ∷ []

abbrev pub input_link : List ℕ × Input → List (Place × Link)
input_link (name, input.Reporter l) = (In name, l) ∷ []
input_link (name, _) = []

abbrev pub input_links : Block → List (Place × Link)
input_links b = flat_map input_link b.inputs

-- the links of a block: its next, then its inputs in document order
abbrev pub links : Block → List (Place × Link)
links b = next_link b.next ++ input_links b

-- the id that names no block
abbrev pub unknown_id : Place × Link → List (List ℕ)
unknown_id (place, To k) = []
unknown_id (place, Unknown id) = id ∷ []

abbrev pub first : {A : Type 0} → List A → Option A
first [] = None
first (a ∷ rest) = Some a

-- the first link of a block that names none
abbrev pub dangling : Block → Option (List ℕ)
dangling b = first (flat_map unknown_id (links b))

-- the blocks that links lead to
abbrev pub known_block : Place × Link → List (Place × ℕ)
known_block (place, To k) = (place, k) ∷ []
known_block (place, Unknown id) = []

abbrev pub leads_to : Block → List (Place × ℕ)
leads_to b = flat_map known_block (links b)

-- Places and roles

-- an input whose name begins so is a branch
abbrev pub is_branch : List ℕ → Bool
is_branch name = bytes_eq (take 8 name) (codes "SUBSTACK")

abbrev pub custom_block : List ℕ
custom_block = codes "custom_block"

abbrev pub role_of : Code → Option Role
role_of (Known op) = Some (row op).role
role_of (Other name) = None

abbrev pub has_role : Role → Code → Bool
has_role wanted c = is_role (role_of c)
  where
    same : Role → Role → Bool
    same role.Hat role.Hat = true
    same role.Definition role.Definition = true
    same role.Prototype role.Prototype = true
    same role.Command role.Command = true
    same role.Reporter role.Reporter = true
    same a b = false

    is_role : Option Role → Bool
    is_role None = false
    is_role (Some r) = same wanted r

-- a menu is a shadow block whose opcode is not known, with one field and no inputs
abbrev pub is_menu : Block → Bool
is_menu b = b.shadow && is_other b.code && length b.fields == 1 && length b.inputs == 0
  where
    is_other : Code → Bool
    is_other (Known op) = false
    is_other (Other name) = true

abbrev pub is_value : Block → Bool
is_value b = has_role role.Reporter b.code || is_menu b

-- a block that fits the place of a link of another: next and branches lead to commands, the custom block of a definition to
-- a prototype, other inputs to reporters and menus
abbrev pub fits : Block → Place → Block → Bool
fits b Behind c = has_role role.Command c.code
fits b (In name) c =
    if is_branch name then has_role role.Command c.code
    else (if bytes_eq name custom_block && has_role role.Definition b.code then has_role role.Prototype c.code
    else is_value c)

-- a head: a hat or a definition at the top of a stack
abbrev pub is_head : Block → Bool
is_head b = b.top_level && (has_role role.Hat b.code || has_role role.Definition b.code)

-- Chains of links in the blocks of a target

-- there is a link from block i to block j
pub record Leads (blocks : List Block) (i j : ℕ) : Type 0 where
  pub block : Block
  pub place : Place
  pub held : slice_get blocks i ≡ Some block
  pub link : Contains (leads_to block) (place, j)

-- every link that names a block leads to one of the target's
abbrev pub IsClosed : List Block → Type 0
IsClosed blocks = (i j : ℕ) → Leads blocks i j → j < length blocks

-- a rank for each block, below their number, which falls along every link
pub record AreRanks (blocks : List Block) (ranks : List ℕ) : Type 0 where
  pub each : length ranks ≡ length blocks
  pub bounded : (i : ℕ) → i < length blocks → slice_index ranks i < length blocks
  pub falls : (i j : ℕ) → Leads blocks i j → slice_index ranks j < slice_index ranks i

-- one link or more lead from block i to block j
pub data Chain (blocks : List Block) : ℕ → ℕ → Type 0 where
  one : {i j : ℕ} → Leads blocks i j → Chain blocks i j
  more : {i j k : ℕ} → Leads blocks i j → Chain blocks j k → Chain blocks i k

-- a block on a cycle
abbrev pub IsCyclic : List Block → ℕ → Type 0
IsCyclic blocks i = Chain blocks i i

-- a block of a checked script: a head, or what links lead to from one
pub data IsChecked (blocks : List Block) : ℕ → Type 0 where
  head : {i : ℕ} {b : Block} → slice_get blocks i ≡ Some b → IsTrue (is_head b) → IsChecked blocks i
  linked : {i j : ℕ} → IsChecked blocks i → Leads blocks i j → IsChecked blocks j

-- there is a link of an input from block i to block j
pub record Takes (blocks : List Block) (i j : ℕ) : Type 0 where
  pub block : Block
  pub name : List ℕ
  pub held : slice_get blocks i ≡ Some block
  pub link : Contains (leads_to block) (In name, j)

-- a reporter counts for the depth; a menu is none
abbrev pub weight : Option Block → ℕ
weight None = 0
weight (Some b) = if has_role role.Reporter b.code then 1 else 0

-- a chain of input links from block i has so many reporters, itself counted
pub data Nests (blocks : List Block) : (i depth : ℕ) → Type 0 where
  ends : {i : ℕ} → Nests blocks i (weight (slice_get blocks i))
  takes : {i j depth : ℕ} → Takes blocks i j → Nests blocks j depth → Nests blocks i (weight (slice_get blocks i) + depth)

-- how deep reporters may nest
abbrev pub deepest : ℕ
deepest = 256

-- What a checked block has to have

-- a block of a link that does not fit its place
abbrev pub misfit : List Block → Block → Place × ℕ → List (ℕ × Block)
misfit blocks b (place, j) = unless (slice_get blocks j)
  where
    unless : Option Block → List (ℕ × Block)
    unless None = []
    unless (Some c) = if fits b place c then [] else (j, c) ∷ []

-- the blocks that a block leads to and that do not fit their places
abbrev pub misfits : List Block → Block → List (ℕ × Block)
misfits blocks b = flat_map (misfit blocks b) (leads_to b)

abbrev pub named : {A : Type 0} → List ℕ → List (List ℕ × A) → Option A
named name xs = option_map (λ x. x.1) (find (λ x. bytes_eq x.0 name) xs)

-- an input is there where it holds something; a custom block is there where it leads to a block
abbrev pub is_there : (name : List ℕ) → Option Input → Bool
is_there name None = false
is_there name (Some input.Absent) = false
is_there name (Some (input.Reporter l)) = true
is_there name (Some _) = not (bytes_eq name custom_block)

-- the first required input that is not there, in the order of the table
abbrev pub missing_in : Block → List Wanted → Option (List ℕ)
missing_in b [] = None
missing_in b (w ∷ ws) = if w.required && not (is_there w.name (named w.name b.inputs)) then Some w.name else missing_in b ws

abbrev pub missing_by : Code → Block → Option (List ℕ)
missing_by (Known op) b = missing_in b (row op).inputs
missing_by (Other name) b = None

abbrev pub missing_input : Block → Option (List ℕ)
missing_input b = missing_by b.code b

-- the functions that the profile leaves out
abbrev pub is_refused_function : List ℕ → Bool
is_refused_function name = list_any (bytes_eq (folded name)) (codes "ln" ∷ codes "log" ∷ codes "e ^" ∷ codes "10 ^" ∷ [])

abbrev pub refuses : Opcode → VarName → Bool
refuses OperatorMathOp f = is_refused_function f.name
refuses _ f = false

abbrev pub is_unfit_field : Opcode → Option VarName → Bool
is_unfit_field op None = true
is_unfit_field op (Some f) = refuses op f

-- the first field of the table that is absent, or holds what is refused
abbrev pub unfit_by : Code → Block → Option (List ℕ)
unfit_by (Known op) b = find (λ name. is_unfit_field op (named name b.fields)) (row op).fields
unfit_by (Other name) b = None

abbrev pub unfit_field : Block → Option (List ℕ)
unfit_field b = unfit_by b.code b
