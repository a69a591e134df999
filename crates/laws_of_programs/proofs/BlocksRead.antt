-- The values in blocks as they are read: their numbers are within the limit.
use Rattle.std.proofs.Common.{◌≡◌, ℕ, zero, suc, Bool, true, false, cond, List, [], ◌∷◌, length, map}
use Rattle.std.specs.Prelude.{codes, ◌==◌, ◌&&◌, replicate, Option, None, Some, IfSome, Result, Ok, Err}
use Rattle.std.specs.Option.{option_and_then}
use Rattle.opcode_table.specs.declared.opcode.Opcode.TheVariants.{ProceduresPrototype, ProceduresCall, DataVariable, DataListContents}
use Rattle.project_json.specs.Tree.{Tree, null, truth, number, text, list, object}
use Rattle.project_json.specs.Parts.{member_of, text_in, items_in}
use Rattle.project_json.specs.TextTree.{tree_of}
use Rattle.scratch_number.specs.declared.number.Num.{Num}
use Rattle.scratch_values.specs.declared.names.VarName.{VarName}
use Rattle.scratch_values.specs.declared.value.Value.{Value}
use Rattle.scratch_values.specs.declared.value.Value.TheVariants.{Text}
use Rattle.json_shapes.specs.Shapes as shape
use Rattle.json_shapes.specs.Shapes.{◌>>=◌, present}
use Rattle.project_spec.specs.declared.refusals.MutationRefusal.{MutationRefusal}
use Rattle.project_spec.specs.declared.refusals.MutationRefusal.TheVariants.{BadText}
use Rattle.project_spec.specs.declared.blocks.Code.{Code}
use Rattle.project_spec.specs.declared.blocks.Code.TheVariants.{Known, Other}
use Rattle.project_spec.specs.declared.blocks.Input.{Input}
use Rattle.project_spec.specs.declared.blocks.Input.TheVariants as input
use Rattle.project_spec.specs.declared.blocks.Mutation.{Mutation}
use Rattle.project_spec.specs.declared.blocks.Mutation.TheVariants as mutation
use Rattle.project_spec.specs.declared.blocks.Block.{Block}
use Rattle.project_spec.specs.declared.blocks.Prototype.{Prototype}
use Rattle.project_spec.specs.Values.{value}
use Rattle.project_spec.specs.Mutation.{◌>>>◌, or_refuse, text_named, add_some, all_some, listed, texts_of, default_of, defaults_of, warp_of, prototype_in, call_in}
use Rattle.project_spec.specs.Blocks.{Ids, is_one_of, tag, code_named, name_and_id, literal, message, primitive_by, primitive, input_value, items_from, input_of, field_of, prototype_by, call_by, mutation_by, object_here, block_object, reporter, block_list, block_at, block_of, blocks_of}
use Rattle.project_spec.specs.Reading.{Table, table_of, table_in}
use Rattle.laws_of_threads.specs.Lists.{Each}
use Rattle.laws_of_turns.specs.Within.{IsValueWithin}
use Rattle.laws_of_programs.proofs.Readers.{Gives, Anything, goes_on, goes_any, gives_more, each_all, required_item_gives, each_member_gives}
use Rattle.laws_of_programs.proofs.TargetsRead.{value_within, value_at_within}

-- Inputs

abbrev pub IsInputWithin : List ℕ × Input → Type 0
IsInputWithin (name, input.Literal v) = IsValueWithin v
IsInputWithin (name, _) = Unit {0}

abbrev IsHeldWithin : Input → Type 0
IsHeldWithin x = IsInputWithin ([], x)

gives_cond : {A : Type 0} (P : A → Type 0) (c : Bool) (r s : Result A (List ℕ)) → Gives P r → Gives P s → Gives P (cond c r s)
gives_cond P true r s h g = h
gives_cond P false r s h g = g

primitive_by_within : (kind : Num) (at : List (List ℕ)) (ts : List Tree) → Gives IsHeldWithin (primitive_by kind at ts)
primitive_by_within kind at ts =
    gives_cond IsHeldWithin (is_one_of (12 ∷ []) kind) _ _ (goes_any IsHeldWithin (name_and_id at ts) (λ name. Ok (input.Variable name)) (λ name. tt))
    (gives_cond IsHeldWithin (is_one_of (13 ∷ []) kind) _ _ (goes_any IsHeldWithin (name_and_id at ts) (λ name. Ok (input.List name)) (λ name. tt))
    (gives_cond IsHeldWithin (is_one_of (11 ∷ []) kind) (message at ts) (literal at ts) (goes_any IsHeldWithin (shape.required_item shape.text 1 at ts) (λ t. Ok (input.Literal (Text t))) (λ t. tt))
    (goes_on IsValueWithin IsHeldWithin (shape.required_item value 1 at ts) (λ v. Ok (input.Literal v)) (value_at_within 1 at ts) (λ v h. h))))

primitive_within : (at : List (List ℕ)) (ts : List Tree) → Gives IsHeldWithin (primitive at ts)
primitive_within at ts = goes_any IsHeldWithin (tag (4 ∷ 5 ∷ 6 ∷ 7 ∷ 8 ∷ 9 ∷ 10 ∷ 11 ∷ 12 ∷ 13 ∷ []) at ts) (λ kind. primitive_by kind at ts) (λ kind. primitive_by_within kind at ts)

input_value_within : (ids : Ids) (at : List (List ℕ)) (t : Tree) → Gives IsHeldWithin (input_value ids at t)
input_value_within ids at null = tt
input_value_within ids at (text id) = tt
input_value_within ids at (truth b) = tt
input_value_within ids at (number ds) = tt
input_value_within ids at (list ts) = goes_any IsHeldWithin (shape.items at (list ts)) (primitive at) (λ us. primitive_within at us)
input_value_within ids at (object ms) = tt

-- the name of an input tells nothing of its value
renamed : (name : List ℕ) (x : Input) → IsHeldWithin x → IsInputWithin (name, x)
renamed name (input.Literal v) h = h
renamed name (input.Reporter l) h = tt
renamed name (input.Variable n) h = tt
renamed name (input.List n) h = tt
renamed name input.Absent h = tt

input_within : (ids : Ids) (at : List (List ℕ)) (m : List ℕ × Tree) → Gives IsInputWithin (input_of ids at m)
input_within ids at (name, t) =
    goes_any IsInputWithin (items_from 2 (name ∷ at) t) _ (λ ts.
    goes_any IsInputWithin (tag (1 ∷ 2 ∷ 3 ∷ []) (name ∷ at) ts) _ (λ kind.
    goes_on IsHeldWithin IsInputWithin (shape.required_item (input_value ids) 1 (name ∷ at) ts) (λ v. Ok (name, v)) (required_item_gives Anything IsHeldWithin (input_value ids) (λ place u h. input_value_within ids place u) 1 (name ∷ at) ts (each_all Anything ts (λ u. tt))) (λ v h. renamed name v h)))

-- Defaults of prototypes

abbrev pub IsMutationWithin : Mutation → Type 0
IsMutationWithin (mutation.Prototype q) = Each IsValueWithin q.defaults
IsMutationWithin _ = Unit {0}

abbrev Yields : {A : Type 0} → (A → Type 0) → Result A MutationRefusal → Type 0
Yields P (Ok a) = P a
Yields P (Err r) = Unit {0}

yields_on : {A B : Type 0} (P : A → Type 0) (Q : B → Type 0) (r : Result A MutationRefusal) (next : A → Result B MutationRefusal) → Yields P r → ((a : A) → P a → Yields Q (next a)) → Yields Q (r >>> next)
yields_on P Q (Ok a) next h f = f a h
yields_on P Q (Err r) next h f = tt

yields_any : {A B : Type 0} (Q : B → Type 0) (r : Result A MutationRefusal) (next : A → Result B MutationRefusal) → ((a : A) → Yields Q (next a)) → Yields Q (r >>> next)
yields_any Q (Ok a) next f = f a
yields_any Q (Err r) next f = tt

or_yields : {A : Type 0} (P : A → Type 0) (r : MutationRefusal) (o : Option A) → IfSome o P → Yields P (or_refuse r o)
or_yields P r None h = tt
or_yields P r (Some a) h = h

default_within : (t : Tree) → IfSome (default_of t) IsValueWithin
default_within null = tt
default_within (truth b) = tt
default_within (number ds) = value_within [] (number ds)
default_within (text t) = tt
default_within (list ts) = tt
default_within (object ms) = tt

add_within : (o : Option Value) (rest : Option (List Value)) → IfSome o IsValueWithin → IfSome rest (Each IsValueWithin) → IfSome (add_some o rest) (Each IsValueWithin)
add_within None rest h g = tt
add_within (Some a) None h g = tt
add_within (Some a) (Some rest) h g = (h, g)

all_within : (ts : List Tree) → IfSome (all_some (map default_of ts)) (Each IsValueWithin)
all_within [] = tt
all_within (t ∷ ts) = add_within (default_of t) (all_some (map default_of ts)) (default_within t) (all_within ts)

then_has : {A B : Type 0} (P : B → Type 0) (f : A → Option B) (o : Option A) → ((a : A) → IfSome (f a) P) → IfSome (option_and_then f o) P
then_has P f None h = tt
then_has P f (Some a) h = h a

listed_within : (t : List ℕ) → IfSome (listed default_of t) (Each IsValueWithin)
listed_within t = then_has (Each IsValueWithin) (λ ts. all_some (map default_of ts)) (option_and_then items_in (tree_of t)) all_within

empty_within : (count : ℕ) → Each IsValueWithin (replicate count (Text []))
empty_within zero = tt
empty_within (suc n) = (tt, empty_within n)

defaults_within : (count : ℕ) (o : Option Tree) → Yields (Each IsValueWithin) (defaults_of count o)
defaults_within count None = empty_within count
defaults_within count (Some t) = or_yields (Each IsValueWithin) BadText (option_and_then (listed default_of) (text_in t)) (then_has (Each IsValueWithin) (listed default_of) (text_in t) listed_within)

abbrev IsPrototypeWithin : Prototype → Type 0
IsPrototypeWithin q = Each IsValueWithin q.defaults

same_by : (c : Bool) (q : Prototype) (r : MutationRefusal) → IsPrototypeWithin q → Yields IsPrototypeWithin (cond c (Ok q) (Err r))
same_by true q r h = h
same_by false q r h = tt

prototype_within : (t : Tree) → Yields IsPrototypeWithin (prototype_in t)
prototype_within t =
    yields_any IsPrototypeWithin (text_named (codes "proccode") t) _ (λ code.
    yields_any IsPrototypeWithin (text_named (codes "argumentids") t) _ (λ ids.
    yields_any IsPrototypeWithin (text_named (codes "argumentnames") t) _ (λ names.
    yields_any IsPrototypeWithin (texts_of ids) _ (λ id_list.
    yields_any IsPrototypeWithin (texts_of names) _ (λ name_list.
    yields_on (Each IsValueWithin) IsPrototypeWithin (defaults_of (length id_list) (present (member_of t (codes "argumentdefaults")))) _ (defaults_within (length id_list) (present (member_of t (codes "argumentdefaults")))) (λ defaults h.
    yields_any IsPrototypeWithin (warp_of (present (member_of t (codes "warp")))) _ (λ warp.
    same_by (length id_list == length name_list && length id_list == length defaults) (record { code = code; ids = id_list; names = name_list; defaults = defaults; warp = warp }) _ h)))))))

prototype_by_within : (r : Result Prototype MutationRefusal) → Yields IsPrototypeWithin r → IsMutationWithin (prototype_by r)
prototype_by_within (Ok q) h = h
prototype_by_within (Err r) h = tt

call_by_within : (r : Result (List ℕ) MutationRefusal) → IsMutationWithin (call_by r)
call_by_within (Ok code) = tt
call_by_within (Err r) = tt

mutation_within : (c : Code) (o : Option Tree) → IsMutationWithin (mutation_by c o)
mutation_within (Known ProceduresPrototype) None = tt
mutation_within (Known ProceduresPrototype) (Some t) = prototype_by_within (prototype_in t) (prototype_within t)
mutation_within (Known ProceduresCall) None = tt
mutation_within (Known ProceduresCall) (Some t) = call_by_within (call_in t)
mutation_within (Known _) o = tt
mutation_within (Other name) o = tt

-- Blocks

pub record IsBlockWithin (b : Block) : Type 0 where
  pub inputs : Each IsInputWithin b.inputs
  pub mutation : IsMutationWithin b.mutation

object_within : (ids : Ids) (at : List (List ℕ)) (ms : List (List ℕ × Tree)) → Gives IsBlockWithin (block_object ids at ms)
object_within ids at ms =
    goes_any IsBlockWithin (shape.required shape.text (codes "opcode") at ms) _ (λ opcode.
    goes_any IsBlockWithin (shape.optional shape.text (codes "next") at ms) _ (λ next.
    goes_on (Each IsInputWithin) IsBlockWithin (shape.given shape.members [] (codes "inputs") at ms >>= shape.each_member (input_of ids) (codes "inputs" ∷ at)) _ inputs_read (λ inputs are_i.
    goes_any IsBlockWithin (shape.given shape.members [] (codes "fields") at ms >>= shape.each_member field_of (codes "fields" ∷ at)) _ (λ fields.
    goes_any IsBlockWithin (shape.given shape.truth false (codes "shadow") at ms) _ (λ shadow.
    goes_any IsBlockWithin (shape.given shape.truth false (codes "topLevel") at ms) _ (λ top_level.
    goes_any IsBlockWithin (shape.optional object_here (codes "mutation") at ms) _ (λ said.
    record { inputs = are_i; mutation = mutation_within (code_named opcode) said })))))))
  where
    inputs_read : Gives (Each IsInputWithin) (shape.given shape.members [] (codes "inputs") at ms >>= shape.each_member (input_of ids) (codes "inputs" ∷ at))
    inputs_read =
        goes_any (Each IsInputWithin) (shape.given shape.members [] (codes "inputs") at ms) (shape.each_member (input_of ids) (codes "inputs" ∷ at)) (λ xs.
        gives_more (λ vs. Each IsInputWithin vs × (length vs ≡ length xs)) (Each IsInputWithin) _ (each_member_gives Anything IsInputWithin (input_of ids) (codes "inputs" ∷ at) xs (λ place m k. input_within ids place m) (each_all Anything xs (λ m. tt))) (λ vs k. k.0))

list_by : (c : Bool) (name : VarName) → IsBlockWithin (cond c (reporter DataVariable (codes "VARIABLE") name) (reporter DataListContents (codes "LIST") name))
list_by true name = record { inputs = tt; mutation = tt }
list_by false name = record { inputs = tt; mutation = tt }

list_block_within : (at : List (List ℕ)) (ts : List Tree) → Gives IsBlockWithin (block_list at ts)
list_block_within at ts =
    goes_any IsBlockWithin (tag (12 ∷ 13 ∷ []) at ts) _ (λ kind.
    goes_any IsBlockWithin (name_and_id at ts) _ (λ name. list_by (is_one_of (12 ∷ []) kind) name))

block_at_within : (ids : Ids) (at : List (List ℕ)) (t : Tree) → Gives IsBlockWithin (block_at ids at t)
block_at_within ids at null = tt
block_at_within ids at (truth b) = tt
block_at_within ids at (number ds) = tt
block_at_within ids at (text t) = tt
block_at_within ids at (list ts) = goes_any IsBlockWithin (shape.items at (list ts)) (block_list at) (list_block_within at)
block_at_within ids at (object ms) = goes_any IsBlockWithin (shape.members at (object ms)) (block_object ids at) (object_within ids at)

block_within : (ids : Ids) (at : List (List ℕ)) (m : List ℕ × Tree) → Gives IsBlockWithin (block_of ids at m)
block_within ids at (id, t) = block_at_within ids (id ∷ at) t

abbrev pub IsTableWithin : Table → Type 0
IsTableWithin table = Each IsBlockWithin table.blocks

pub table_within : (at : List (List ℕ)) (t : Tree) → Gives IsTableWithin (table_in at t)
table_within at t =
    goes_any IsTableWithin (shape.members at t >>= shape.required shape.members (codes "blocks") at) (table_of (codes "blocks" ∷ at)) (λ ms.
    goes_on (λ bs. Each IsBlockWithin bs × (length bs ≡ length ms)) IsTableWithin (blocks_of (codes "blocks" ∷ at) ms) _ (each_member_gives Anything IsBlockWithin (block_of (map (λ m. m.0) ms)) (codes "blocks" ∷ at) ms (λ place m k. block_within (map (λ x. x.0) ms) place m) (each_all Anything ms (λ m. tt))) (λ bs k. k.0))
