-- The block of a level among the scripts in which it can stand; for private functions.
use Rattle.std.specs.Prelude.{◌≡◌, ℕ, List, [], ◌∷◌, Option, Some, None, slice_get, filter_map}
use Rattle.machine_spec.specs.Called.{branch_scripts}
use Rattle.machine_spec.specs.Script.{Script, Then}
use Rattle.project_spec.specs.declared.blocks.Block.{Block}
use Rattle.project_spec.specs.declared.blocks.Input.{Input}
use Rattle.project_spec.specs.Trees.{Sheet, branch, branches_by, script, statement, target_of_link}
use Rattle.saved_levels.specs.declared.floors.Room.{Room}
use Rattle.saved_levels.specs.declared.floors.Room.TheVariants.{Under, In}

-- a block of the target, whose script was found
pub record IsFound (sheet : Sheet) (wanted : ℕ) (o : Option Script) (id : ℕ) : Type 0 where
  pub block : Block
  pub held : slice_get sheet.blocks id ≡ Some block
  pub same : id ≡ wanted
  pub script : o ≡ Some (Then (statement sheet id block) (script sheet (target_of_link block.next)))

-- a block whose script the rules find, or there is none
abbrev pub Finds : Sheet → ℕ → Option Script → Option ℕ → Type 0
Finds sheet wanted o None = o ≡ None
Finds sheet wanted o (Some id) = IsFound sheet wanted o id

-- the scripts that begin at these inputs which are branches
abbrev pub scripts_in : Sheet → List (List ℕ × Input) → List Script
scripts_in sheet inputs = branch_scripts (branches_by (script sheet) (filter_map branch inputs))

abbrev pub scripts_under : Sheet → Option Block → List Script
scripts_under sheet None = []
scripts_under sheet (Some b) = scripts_in sheet b.inputs

-- the scripts of a room: one that begins with a block, or the branches of a block
abbrev pub room_scripts : Sheet → Room → List Script
room_scripts sheet (Under first) = script sheet first ∷ []
room_scripts sheet (In id) = scripts_under sheet (slice_get sheet.blocks id)
