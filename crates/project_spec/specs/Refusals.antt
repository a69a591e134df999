-- Which project files are accepted, and why another is refused: by the first fault, in the order of the tests.
use Rattle.std.specs.Prelude.{◌≡◌, ◌≢◌, ◌⊎◌, ◌↔◌, ℕ, ◌<◌, Bool, true, List, [], ◌∷◌, slice_get, None, Some, Ok, Err, Contains}
use Rattle.std.specs.List.{count_by, All}
use Rattle.project_json.specs.Tree.{Tree}
use Rattle.project_json.specs.Text.{IsText, max_depth}
use Rattle.project_json.specs.Refusal.{IsFault}
use Rattle.project_json.specs.declared.refusal.JsonRefusal.{JsonRefusal}
use Rattle.opcode_table.specs.Table.{row}
use Rattle.machine_spec.specs.Program.{Program}
use Rattle.project_spec.specs.declared.refusals.MutationRefusal.{MutationRefusal}
use Rattle.project_spec.specs.declared.refusals.At.{At}
use Rattle.project_spec.specs.declared.refusals.Refusal.{Refusal}
use Rattle.project_spec.specs.declared.refusals.Refusal.TheVariants as refusal
use Rattle.project_spec.specs.Blocks.{Code, Known, Other, Block}
use Rattle.project_spec.specs.declared.blocks.Mutation.TheVariants as mutation
use Rattle.project_spec.specs.Limits.{too_many}
use Rattle.project_spec.specs.Linked.{dangling, IsCyclic, IsChecked, Nests, deepest, misfits, missing_input, unfit_field}
use Rattle.project_spec.specs.Reading.{File, blocks_in, file_of}
use Rattle.project_spec.specs.Resolving.{resolved_targets}
use Rattle.project_spec.specs.Trees.{program}

-- What is tested of the blocks

-- in this order: mutations, links, cycles, places of checked blocks, their inputs, their fields, nesting of reporters
pub data Test : Type 0 where
  Mutations : Test
  Links : Test
  Cycles : Test
  Places : Test
  Inputs : Test
  Fields : Test
  Depth : Test

abbrev pub tests : List Test
tests = Mutations ∷ Links ∷ Cycles ∷ Places ∷ Inputs ∷ Fields ∷ Depth ∷ []

abbrev pub opcode_name : Code → List ℕ
opcode_name (Known op) = (row op).name
opcode_name (Other name) = name

-- a checked block leads to block k, which does not fit its place
pub record IsMisfit (blocks : List Block) (k : ℕ) (b : Block) : Type 0 where
  pub from : ℕ
  pub leading : Block
  pub checked : IsChecked blocks from
  pub held : slice_get blocks from ≡ Some leading
  pub unfit : Contains (misfits blocks leading) (k, b)

-- the block fails a test, which is told so
abbrev pub Fails : Test → List Block → At → Block → Refusal → Type 0
Fails Mutations blocks at b r = (why : MutationRefusal) × (b.mutation ≡ mutation.Bad why) × (r ≡ refusal.Mutation at why)
Fails Links blocks at b r = (to : List ℕ) × (dangling b ≡ Some to) × (r ≡ refusal.Dangling at to)
Fails Cycles blocks at b r = IsCyclic blocks at.block × (r ≡ refusal.Cyclic at)
Fails Places blocks at b r = IsMisfit blocks at.block b × (r ≡ refusal.Opcode at (opcode_name b.code))
Fails Inputs blocks at b r = (name : List ℕ) × IsChecked blocks at.block × (missing_input b ≡ Some name) × (r ≡ refusal.MissingInput at name)
Fails Fields blocks at b r = (name : List ℕ) × IsChecked blocks at.block × (unfit_field b ≡ Some name) × (r ≡ refusal.Field at name)
Fails Depth blocks at b r = (depth : ℕ) × Nests blocks at.block depth × (deepest < depth) × (r ≡ refusal.TooDeep at)

-- a block of the file, whose targets have these blocks, fails a test
pub record FailsAt (tables : List (List Block)) (test : Test) (at : At) (r : Refusal) : Type 0 where
  pub blocks : List Block
  pub block : Block
  pub target : slice_get tables at.target ≡ Some blocks
  pub held : slice_get blocks at.block ≡ Some block
  pub fails : Fails test blocks at block r

-- in an earlier target, or earlier in the same one
abbrev pub IsBefore : At → At → Type 0
IsBefore a b = (a.target < b.target) ⊎ ((a.target ≡ b.target) × (a.block < b.block))

-- the first block that fails a test, and what it is told
pub record IsFirst (tables : List (List Block)) (test : Test) (r : Refusal) : Type 0 where
  pub at : At
  pub fails : FailsAt tables test at r
  pub first : (earlier : At) (other : Refusal) → IsBefore earlier at → FailsAt tables test earlier other → ⊥

-- no block fails it
abbrev pub Passes : List (List Block) → Test → Type 0
Passes tables test = (at : At) (r : Refusal) → FailsAt tables test at r → ⊥

-- the first of the tests that a block fails
abbrev pub IsFirstOf : List (List Block) → List Test → Refusal → Type 0
IsFirstOf tables [] r = ⊥
IsFirstOf tables (t ∷ ts) r = IsFirst tables t r ⊎ (Passes tables t × IsFirstOf tables ts r)

-- Files

abbrev pub stage_count : File → ℕ
stage_count f = count_by (λ t. t.is_stage) f.records.targets

-- one stage, nothing too many, and no block fails a test
pub record IsWell (f : File) : Type 0 where
  pub stage : stage_count f ≡ 1
  pub few : too_many f ≡ None
  pub blocks : All (Passes (blocks_in f)) tests

-- the number of stages first, then what is too many, then the blocks
abbrev pub IsFileRefusal : File → Refusal → Type 0
IsFileRefusal f r =
    ((stage_count f ≢ 1) × (r ≡ refusal.StageCount (stage_count f)))
    ⊎ ((stage_count f ≡ 1) × (((path : List ℕ) × (too_many f ≡ Some path) × (r ≡ refusal.TooMany path))
    ⊎ ((too_many f ≡ None) × IsFirstOf (blocks_in f) tests r)))

-- the bytes are no JSON text, or that of a document with a value that has not its shape, or of a file that is refused
abbrev pub IsRefusal : List ℕ → Refusal → Type 0
IsRefusal bytes r =
    ((fault : JsonRefusal) × IsFault max_depth bytes fault × (r ≡ refusal.Json fault))
    ⊎ ((t : Tree) × IsText max_depth bytes t × (((path : List ℕ) × (file_of t ≡ Err path) × (r ≡ refusal.Shape path))
    ⊎ ((f : File) × (file_of t ≡ Ok f) × IsFileRefusal f r)))

-- the bytes are those of a project file that is accepted
pub record IsAccepted (bytes : List ℕ) (f : File) : Type 0 where
  pub document : Tree
  pub text : IsText max_depth bytes document
  pub tells : file_of document ≡ Ok f
  pub well : IsWell f

-- a file is refused for one reason at most
abbrev pub OneRefusal : Type 0
OneRefusal = (bytes : List ℕ) (r s : Refusal) → IsRefusal bytes r → IsRefusal bytes s → r ≡ s

-- a file that is accepted is not refused
abbrev pub AcceptedIsNotRefused : Type 0
AcceptedIsNotRefused = (bytes : List ℕ) (f : File) (r : Refusal) → IsAccepted bytes f → IsRefusal bytes r → ⊥

-- the bytes of a file that is accepted tell one file
abbrev pub OneFile : Type 0
OneFile = (bytes : List ℕ) (f g : File) → IsAccepted bytes f → IsAccepted bytes g → f ≡ g

-- The program of a file

-- a truth for each target and block: whether the block is checked
abbrev pub TellsChecked : List (List Block) → (ℕ → ℕ → Bool) → Type 0
TellsChecked tables checked = (t k : ℕ) (blocks : List Block) → slice_get tables t ≡ Some blocks → (checked t k ≡ true) ↔ IsChecked blocks k

-- the program, where the names in checked blocks are resolved
pub record IsProgram (f : File) (p : Program) : Type 0 where
  pub checked : ℕ → ℕ → Bool
  pub tells : TellsChecked (blocks_in f) checked
  pub is : p ≡ program (blocks_in f) (resolved_targets checked 0 (blocks_in f) f.records)

-- the bytes of a project file that is accepted, and its program
abbrev pub IsProject : List ℕ → Program → Type 0
IsProject bytes p = (f : File) × IsAccepted bytes f × IsProgram f p
