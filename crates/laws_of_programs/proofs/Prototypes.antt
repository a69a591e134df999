-- A prototype of an accepted file has as many names and defaults as ids.
use Rattle.std.proofs.Common.{◌≡◌, ℕ, Bool, true, false, cond, List, [], ◌∷◌, length, map, refl, sym, ◌∙◌}
use Rattle.std.specs.Prelude.{slice_get, option_map, codes, ◌==◌, ◌&&◌, Option, None, Some, IfSome, Result, Ok, Err}
use Rattle.opcode_table.specs.declared.opcode.Opcode.TheVariants.{ProceduresPrototype, ProceduresCall, DataVariable, DataListContents}
use Rattle.project_json.specs.Tree.{Tree, null, truth, number, text, list, object}
use Rattle.project_json.specs.Parts.{member_of}
use Rattle.scratch_values.specs.declared.names.VarName.{VarName}
use Rattle.json_shapes.specs.Shapes as shape
use Rattle.json_shapes.specs.Shapes.{◌>>=◌, present}
use Rattle.project_spec.specs.declared.refusals.MutationRefusal.{MutationRefusal}
use Rattle.project_spec.specs.declared.blocks.Code.{Code}
use Rattle.project_spec.specs.declared.blocks.Code.TheVariants.{Known, Other}
use Rattle.project_spec.specs.declared.blocks.Link.TheVariants.{To, Unknown}
use Rattle.project_spec.specs.declared.blocks.Input.{Input}
use Rattle.project_spec.specs.declared.blocks.Input.TheVariants as input
use Rattle.project_spec.specs.declared.blocks.Mutation.{Mutation}
use Rattle.project_spec.specs.declared.blocks.Mutation.TheVariants as mutation
use Rattle.project_spec.specs.declared.blocks.Block.{Block}
use Rattle.project_spec.specs.declared.blocks.Prototype.{Prototype}
use Rattle.project_spec.specs.Mutation.{◌>>>◌, text_named, texts_of, defaults_of, warp_of, prototype_in, call_in}
use Rattle.project_spec.specs.Blocks.{Ids, is_one_of, tag, code_named, name_and_id, link_to, input_of, field_of, prototype_by, call_by, mutation_by, object_here, block_object, reporter, block_list, block_at, block_of, blocks_of}
use Rattle.project_spec.specs.Targets.{target_of, monitor_of}
use Rattle.project_spec.specs.Reading.{Table, table_of, table_in, File, blocks_in, file_by, file_of}
use Rattle.project_spec.specs.Refusals.{IsAccepted}
use Rattle.project_spec.specs.Trees.{Sheet, prototype_at, linked_prototype}
use Rattle.laws_of_threads.specs.Lists.{Each}
use Rattle.laws_of_threads.proofs.Numbers.{equal}
use Rattle.laws_of_programs.proofs.Readers.{Gives, Anything, given_is, goes_on, goes_any, each_all, each_gives, each_member_gives}
use Rattle.laws_of_programs.proofs.NumbersHeld.{each_at}

-- as many names and defaults as ids
pub record IsEven (q : Prototype) : Type 0 where
  pub named : length q.ids ≡ length q.names
  pub defaulted : length q.names ≡ length q.defaults

abbrev pub IsEvenBlock : Block → Type 0
IsEvenBlock b = IfSome (prototype_at (Some b)) IsEven

-- Mutations

abbrev EvenMutation : Mutation → Type 0
EvenMutation (mutation.Prototype q) = IsEven q
EvenMutation _ = Unit {0}

abbrev Yields : Result Prototype MutationRefusal → Type 0
Yields (Ok q) = IsEven q
Yields (Err r) = Unit {0}

yields_any : {A : Type 0} (r : Result A MutationRefusal) (next : A → Result Prototype MutationRefusal) → ((a : A) → Yields (next a)) → Yields (r >>> next)
yields_any (Ok a) next f = f a
yields_any (Err r) next f = tt

same_by : (c d : Bool) (q : Prototype) (r : MutationRefusal) → (length q.ids == length q.names) ≡ c → (length q.ids == length q.defaults) ≡ d → Yields (cond (c && d) (Ok q) (Err r))
same_by true true q r e f = let names = equal (length q.ids) (length q.names) e in record { named = names; defaulted = sym names ∙ equal (length q.ids) (length q.defaults) f }
same_by true false q r e f = tt
same_by false d q r e f = tt

prototype_even : (t : Tree) → Yields (prototype_in t)
prototype_even t =
    yields_any (text_named (codes "proccode") t) _ (λ code.
    yields_any (text_named (codes "argumentids") t) _ (λ ids.
    yields_any (text_named (codes "argumentnames") t) _ (λ names.
    yields_any (texts_of ids) _ (λ id_list.
    yields_any (texts_of names) _ (λ name_list.
    yields_any (defaults_of (length id_list) (present (member_of t (codes "argumentdefaults")))) _ (λ defaults.
    yields_any (warp_of (present (member_of t (codes "warp")))) _ (λ warp.
    same_by (length id_list == length name_list) (length id_list == length defaults) (record { code = code; ids = id_list; names = name_list; defaults = defaults; warp = warp }) _ refl refl)))))))

prototype_by_even : (r : Result Prototype MutationRefusal) → Yields r → EvenMutation (prototype_by r)
prototype_by_even (Ok q) h = h
prototype_by_even (Err r) h = tt

call_by_even : (r : Result (List ℕ) MutationRefusal) → EvenMutation (call_by r)
call_by_even (Ok code) = tt
call_by_even (Err r) = tt

mutation_even : (c : Code) (o : Option Tree) → EvenMutation (mutation_by c o)
mutation_even (Known ProceduresPrototype) None = tt
mutation_even (Known ProceduresPrototype) (Some t) = prototype_by_even (prototype_in t) (prototype_even t)
mutation_even (Known ProceduresCall) None = tt
mutation_even (Known ProceduresCall) (Some t) = call_by_even (call_in t)
mutation_even (Known _) o = tt
mutation_even (Other name) o = tt

-- Blocks

even_block : (b : Block) (m : Mutation) → EvenMutation m → IsEvenBlock (record b { mutation = m })
even_block b mutation.None h = tt
even_block b (mutation.Prototype q) h = h
even_block b (mutation.Call code) h = tt
even_block b (mutation.Bad r) h = tt

object_even : (ids : Ids) (at : List (List ℕ)) (ms : List (List ℕ × Tree)) → Gives IsEvenBlock (block_object ids at ms)
object_even ids at ms =
    goes_any IsEvenBlock (shape.required shape.text (codes "opcode") at ms) _ (λ opcode.
    goes_any IsEvenBlock (shape.optional shape.text (codes "next") at ms) _ (λ next.
    goes_any IsEvenBlock (shape.given shape.members [] (codes "inputs") at ms >>= shape.each_member (input_of ids) (codes "inputs" ∷ at)) _ (λ inputs.
    goes_any IsEvenBlock (shape.given shape.members [] (codes "fields") at ms >>= shape.each_member field_of (codes "fields" ∷ at)) _ (λ fields.
    goes_any IsEvenBlock (shape.given shape.truth false (codes "shadow") at ms) _ (λ shadow.
    goes_any IsEvenBlock (shape.given shape.truth false (codes "topLevel") at ms) _ (λ top_level.
    goes_any IsEvenBlock (shape.optional object_here (codes "mutation") at ms) _ (λ said.
    even_block (record { code = code_named opcode; next = option_map (link_to ids) next; inputs = inputs; fields = fields; shadow = shadow; top_level = top_level; mutation = mutation.None }) (mutation_by (code_named opcode) said) (mutation_even (code_named opcode) said))))))))

list_by : (c : Bool) (name : VarName) → IsEvenBlock (cond c (reporter DataVariable (codes "VARIABLE") name) (reporter DataListContents (codes "LIST") name))
list_by true name = tt
list_by false name = tt

list_even : (at : List (List ℕ)) (ts : List Tree) → Gives IsEvenBlock (block_list at ts)
list_even at ts =
    goes_any IsEvenBlock (tag (12 ∷ 13 ∷ []) at ts) _ (λ kind.
    goes_any IsEvenBlock (name_and_id at ts) _ (λ name. list_by (is_one_of (12 ∷ []) kind) name))

block_at_even : (ids : Ids) (at : List (List ℕ)) (t : Tree) → Gives IsEvenBlock (block_at ids at t)
block_at_even ids at null = tt
block_at_even ids at (truth b) = tt
block_at_even ids at (number ds) = tt
block_at_even ids at (text t) = tt
block_at_even ids at (list ts) = goes_any IsEvenBlock (shape.items at (list ts)) (block_list at) (list_even at)
block_at_even ids at (object ms) = goes_any IsEvenBlock (shape.members at (object ms)) (block_object ids at) (object_even ids at)

block_even : (ids : Ids) (at : List (List ℕ)) (m : List ℕ × Tree) → Gives IsEvenBlock (block_of ids at m)
block_even ids at (id, t) = block_at_even ids (id ∷ at) t

-- Files

abbrev IsEvenTable : Table → Type 0
IsEvenTable table = Each IsEvenBlock table.blocks

table_even : (at : List (List ℕ)) (t : Tree) → Gives IsEvenTable (table_in at t)
table_even at t =
    goes_any IsEvenTable (shape.members at t >>= shape.required shape.members (codes "blocks") at) (table_of (codes "blocks" ∷ at)) (λ ms.
    goes_on (λ bs. Each IsEvenBlock bs × (length bs ≡ length ms)) IsEvenTable (blocks_of (codes "blocks" ∷ at) ms) _ (each_member_gives Anything IsEvenBlock (block_of (map (λ m. m.0) ms)) (codes "blocks" ∷ at) ms (λ place m k. block_even (map (λ x. x.0) ms) place m) (each_all Anything ms (λ m. tt))) (λ bs k. k.0))

abbrev IsEvenFile : File → Type 0
IsEvenFile f = Each IsEvenTable f.tables

by_members : (at : List (List ℕ)) (ts : List Tree) (ms : List (List ℕ × Tree)) → Gives IsEvenFile (file_by ts at ms)
by_members at ts ms =
    goes_any IsEvenFile (shape.each target_of (codes "targets" ∷ at) ts) _ (λ targets.
    goes_any IsEvenFile (shape.defaulted shape.items [] (codes "monitors") at ms >>= shape.each monitor_of (codes "monitors" ∷ at)) _ (λ monitors.
    goes_on (λ bs. Each IsEvenTable bs × (length bs ≡ length ts)) IsEvenFile (shape.each table_in (codes "targets" ∷ at) ts) _ (each_gives Anything IsEvenTable table_in (λ place t k. table_even place t) (codes "targets" ∷ at) ts (each_all Anything ts (λ t. tt))) (λ tables k. k.0)))

file_even : (t : Tree) → Gives IsEvenFile (file_of t)
file_even t =
    goes_any IsEvenFile (shape.members [] t) _ (λ ms.
    goes_any IsEvenFile (shape.required shape.items (codes "targets") [] ms) _ (λ ts. by_members [] ts ms))

each_table : (tables : List Table) → Each IsEvenTable tables → Each (Each IsEvenBlock) (map (λ t. t.blocks) tables)
each_table [] h = tt
each_table (t ∷ ts) h = (h.0, each_table ts h.1)

-- the blocks of an accepted file have even prototypes
pub blocks_even : (bytes : List ℕ) (f : File) → IsAccepted bytes f → Each (Each IsEvenBlock) (blocks_in f)
blocks_even bytes f a = each_table f.tables (given_is IsEvenFile (file_of a.document) f a.tells (file_even a.document))

-- Links to prototypes

at_even : (o : Option Block) → IfSome o IsEvenBlock → IfSome (prototype_at o) IsEven
at_even None h = tt
at_even (Some b) h = h

pub linked_even : (sheet : Sheet) (o : Option Input) → Each IsEvenBlock sheet.blocks → IfSome (linked_prototype sheet o) IsEven
linked_even sheet None h = tt
linked_even sheet (Some (input.Reporter (To j))) h = at_even (slice_get sheet.blocks j) (each_at IsEvenBlock sheet.blocks j h)
linked_even sheet (Some (input.Reporter (Unknown id))) h = tt
linked_even sheet (Some (input.Literal v)) h = tt
linked_even sheet (Some (input.Variable n)) h = tt
linked_even sheet (Some (input.List n)) h = tt
linked_even sheet (Some input.Absent) h = tt
