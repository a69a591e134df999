-- The blocks of a target, as its `blocks` tell them (Scratch 3 project file format; scratch-vm, serialization/sb3.js).
pub use Rattle.project_spec.specs.declared.blocks.Link.{Link}
pub use Rattle.project_spec.specs.declared.blocks.Link.TheVariants.{To, Unknown}
pub use Rattle.project_spec.specs.declared.blocks.Code.{Code}
pub use Rattle.project_spec.specs.declared.blocks.Code.TheVariants.{Known, Other}
pub use Rattle.project_spec.specs.declared.blocks.Input.{Input}
pub use Rattle.project_spec.specs.declared.blocks.Input.TheVariants as input
pub use Rattle.project_spec.specs.declared.blocks.Mutation.{Mutation}
pub use Rattle.project_spec.specs.declared.blocks.Mutation.TheVariants as mutation
pub use Rattle.project_spec.specs.declared.blocks.Block.{Block}
use Rattle.std.specs.Prelude.{ℕ, nat_lt, pos, ◌*ℤ◌, Bool, true, false, if◌then◌else◌, List, [], ◌∷◌, length, map, position, slice_get, bytes_eq, codes, Option, None, Some, option_map, Result, Ok, Err}
use Rattle.std.specs.List.{list_any}
use Rattle.std.specs.Ordering.{is_eq}
use Rattle.project_json.specs.Tree.{Tree, null, text, list}
use Rattle.opcode_table.specs.declared.opcode.Opcode.{Opcode}
use Rattle.opcode_table.specs.declared.opcode.Opcode.TheVariants.{DataVariable, DataListContents, ProceduresPrototype, ProceduresCall}
use Rattle.opcode_table.specs.Table.{of_name}
use Rattle.scratch_number.specs.declared.number.Num.{Num}
use Rattle.scratch_number.specs.declared.number.Num.TheVariants.{Fixed}
use Rattle.scratch_number.specs.Arithmetic.{million}
use Rattle.scratch_values.specs.Comparison.{number_order}
use Rattle.scratch_values.specs.declared.value.Value.TheVariants.{Text}
use Rattle.scratch_values.specs.declared.names.VarName.{VarName}
use Rattle.json_shapes.specs.Places.{path}
use Rattle.json_shapes.specs.Shapes as shape
use Rattle.json_shapes.specs.Shapes.{Reader, ◌>>=◌}
use Rattle.project_spec.specs.declared.refusals.MutationRefusal.{MutationRefusal}
use Rattle.project_spec.specs.declared.refusals.MutationRefusal.TheVariants.{Missing}
use Rattle.project_spec.specs.Values.{num, value, field_text}
use Rattle.project_spec.specs.Mutation.{Prototype, prototype_in, call_in}

-- the names of the blocks of a target
abbrev pub Ids : Type 0
Ids = List (List ℕ)

-- Kinds of lists: each is told by the number at its place 0

abbrev pub is_same_number : Num → Num → Bool
is_same_number a b = is_eq (number_order a b)

-- which of some whole numbers a number is
abbrev pub is_one_of : List ℕ → Num → Bool
is_one_of ks n = list_any (λ k. is_same_number (Fixed (pos k *ℤ million)) n) ks

-- the number at place 0, which is one of these
abbrev pub tag : List ℕ → Reader (List Tree) Num
tag ks at ts =
    shape.required_item num 0 at ts >>= (λ n. if is_one_of ks n then Ok n else Err (path (codes "0" ∷ at)))

-- Links

-- the block with an id
abbrev pub link_by : List ℕ → Option ℕ → Link
link_by id None = Unknown id
link_by id (Some k) = To k

abbrev pub link_to : Ids → List ℕ → Link
link_to ids id = link_by id (position (λ other. bytes_eq other id) ids)

-- Primitives: what the editor writes in place of a block

-- texts at places 1 and 2: a name and an id
abbrev pub name_and_id : Reader (List Tree) VarName
name_and_id at ts =
    shape.required_item shape.text 1 at ts >>= (λ name.
    shape.required_item shape.text 2 at ts >>= (λ id.
    Ok (record { name = name; id = Some id })))

-- a value at place 1
abbrev pub literal : Reader (List Tree) Input
literal at ts = shape.required_item value 1 at ts >>= (λ v. Ok (input.Literal v))

-- a text at place 1: the name of a broadcast
abbrev pub message : Reader (List Tree) Input
message at ts = shape.required_item shape.text 1 at ts >>= (λ t. Ok (input.Literal (Text t)))

abbrev pub primitive_by : Num → Reader (List Tree) Input
primitive_by kind at ts =
    if is_one_of (12 ∷ []) kind then name_and_id at ts >>= (λ name. Ok (input.Variable name))
    else (if is_one_of (13 ∷ []) kind then name_and_id at ts >>= (λ name. Ok (input.List name))
    else (if is_one_of (11 ∷ []) kind then message at ts
    else literal at ts))

-- 4 to 10 with a value, 11 with a broadcast's name, 12 and 13 with a variable and a list
abbrev pub primitive : Reader (List Tree) Input
primitive at ts = tag (4 ∷ 5 ∷ 6 ∷ 7 ∷ 8 ∷ 9 ∷ 10 ∷ 11 ∷ 12 ∷ 13 ∷ []) at ts >>= (λ kind. primitive_by kind at ts)

-- Inputs and fields

-- item 1 of an input: null, the id of a block, or a primitive
abbrev pub input_value : Ids → Reader Tree Input
input_value ids at null = Ok input.Absent
input_value ids at (text id) = Ok (input.Reporter (link_to ids id))
input_value ids at t = shape.items at t >>= primitive at

-- a list of so many items at least
abbrev pub items_from : ℕ → Reader Tree (List Tree)
items_from count at t = shape.items at t >>= (λ ts. if nat_lt (length ts) count then Err (path at) else Ok ts)

-- an input is a list: 1, 2 or 3, its value, and what is not read
abbrev pub input_of : Ids → Reader (List ℕ × Tree) (List ℕ × Input)
input_of ids at (name, t) =
    items_from 2 (name ∷ at) t >>= (λ ts.
    tag (1 ∷ 2 ∷ 3 ∷ []) (name ∷ at) ts >>= (λ kind.
    shape.required_item (input_value ids) 1 (name ∷ at) ts >>= (λ v.
    Ok (name, v))))

-- item 1 of a field: an id, or absent or null
abbrev pub field_id : Reader (Option Tree) (Option (List ℕ))
field_id at t = shape.absent_or None (λ place u. shape.text place u >>= (λ id. Ok (Some id))) (codes "1" ∷ at) (shape.present t)

-- a field is a list: its text, and the id of a variable or list
abbrev pub field_of : Reader (List ℕ × Tree) (List ℕ × VarName)
field_of at (name, t) =
    items_from 1 (name ∷ at) t >>= (λ ts.
    shape.required_item field_text 0 (name ∷ at) ts >>= (λ said.
    field_id (name ∷ at) (slice_get ts 1) >>= (λ id.
    Ok (name, record { name = said; id = id }))))

-- Blocks

abbrev pub code_named : List ℕ → Code
code_named name = code_by (of_name name)
  where
    code_by : Option Opcode → Code
    code_by None = Other name
    code_by (Some op) = Known op

-- what a prototype and a call say; every other block says nothing
abbrev pub prototype_by : Result Prototype MutationRefusal → Mutation
prototype_by (Ok q) = mutation.Prototype q
prototype_by (Err refusal) = mutation.Bad refusal

abbrev pub call_by : Result (List ℕ) MutationRefusal → Mutation
call_by (Ok code) = mutation.Call code
call_by (Err refusal) = mutation.Bad refusal

abbrev pub mutation_by : Code → Option Tree → Mutation
mutation_by (Known ProceduresPrototype) None = mutation.Bad Missing
mutation_by (Known ProceduresPrototype) (Some t) = prototype_by (prototype_in t)
mutation_by (Known ProceduresCall) None = mutation.Bad Missing
mutation_by (Known ProceduresCall) (Some t) = call_by (call_in t)
mutation_by _ t = mutation.None

-- a member that is an object, absent or null
abbrev pub object_here : Reader Tree Tree
object_here at t = shape.members at t >>= (λ ms. Ok t)

-- a block that is an object, by its members in this order
abbrev pub block_object : Ids → Reader (List (List ℕ × Tree)) Block
block_object ids at ms =
    shape.required shape.text (codes "opcode") at ms >>= (λ opcode.
    shape.optional shape.text (codes "next") at ms >>= (λ next.
    shape.given shape.members [] (codes "inputs") at ms >>= shape.each_member (input_of ids) (codes "inputs" ∷ at) >>= (λ inputs.
    shape.given shape.members [] (codes "fields") at ms >>= shape.each_member field_of (codes "fields" ∷ at) >>= (λ fields.
    shape.given shape.truth false (codes "shadow") at ms >>= (λ shadow.
    shape.given shape.truth false (codes "topLevel") at ms >>= (λ top_level.
    shape.optional object_here (codes "mutation") at ms >>= (λ said.
    Ok (record {
      code = code_named opcode;
      next = option_map (link_to ids) next;
      inputs = inputs;
      fields = fields;
      shadow = shadow;
      top_level = top_level;
      mutation = mutation_by (code_named opcode) said;
    }))))))))

-- a block that is a list: a loose reporter of a variable, 12, or of a list, 13
abbrev pub reporter : Opcode → List ℕ → VarName → Block
reporter op field name = record { code = Known op; next = None; inputs = []; fields = (field, name) ∷ []; shadow = false; top_level = true; mutation = mutation.None }

abbrev pub block_list : Reader (List Tree) Block
block_list at ts =
    tag (12 ∷ 13 ∷ []) at ts >>= (λ kind.
    name_and_id at ts >>= (λ name.
    Ok (if is_one_of (12 ∷ []) kind then reporter DataVariable (codes "VARIABLE") name else reporter DataListContents (codes "LIST") name)))

abbrev pub block_at : Ids → Reader Tree Block
block_at ids at (list ts) = shape.items at (list ts) >>= block_list at
block_at ids at t = shape.members at t >>= block_object ids at

abbrev pub block_of : Ids → Reader (List ℕ × Tree) Block
block_of ids at (id, t) = block_at ids (id ∷ at) t

-- the blocks of a target, in the order of the document
abbrev pub blocks_of : Reader (List (List ℕ × Tree)) (List Block)
blocks_of at ms = shape.each_member (block_of (map (λ m. m.0) ms)) at ms
