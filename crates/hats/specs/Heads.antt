-- Hats of instances, as heads of the program of a project.
use Rattle.std.specs.Prelude.{◌≡◌, ℕ, ◌<◌, true, List, length, slice_get, Some, Contains, All}
use Rattle.machine_spec.specs.declared.instance.Instance.{Instance}
use Rattle.machine_spec.specs.declared.threads.Filter.{Filter}
use Rattle.machine_spec.specs.Script.{place_of}
use Rattle.machine_spec.specs.Program.{hat_block}
use Rattle.machine_spec.specs.Places.{Places}
use Rattle.machine_spec.specs.Starting.{Pair, starts}
use Rattle.project_spec.specs.declared.blocks.Block.{Block}
use Rattle.project_spec.specs.Linked.{is_head}
use Rattle.project_spec.specs.Trees.{head_of, script}
use Rattle.project_check.specs.declared.project.Project.{Project}
use Rattle.project_check.specs.Loaded.{tables_of, blocks_at, sheet_at, program_of}
use Rattle.thread_frames.specs.Threads.{Thread, begins_with}
use Rattle.hats.specs.Edges.{EdgeHat, edge_of, free_edges}

-- the target in which a hat stands
abbrev pub target_of : Pair → ℕ
target_of x = (place_of x.head.hat).target

-- The hat stands in the target of one of these instances, whose number is told: it is the head at its block. What the script
-- under it begins with is a block, from which on the target has that script.
pub record IsHeadOf (p : Project) (is : List Instance) (x : Pair) : Type 0 where
  pub instance : Instance
  pub listed : Contains is instance
  pub number : x.of ≡ instance.number
  pub target : target_of x ≡ instance.of
  pub there : target_of x < length (tables_of p)
  pub block : Block
  pub held : slice_get (blocks_at (target_of x) p) (hat_block x.head) ≡ Some block
  pub top : is_head block ≡ true
  pub head : x.head ≡ head_of (sheet_at (target_of x) p) (hat_block x.head) block
  pub begins : script (sheet_at (target_of x) p) (begins_with x.head.script) ≡ x.head.script

-- the edge hat is of this hat, which heads a script of one of some instances
pub record IsEdgeOf (p : Project) (edge : EdgeHat) (x : Pair) : Type 0 where
  pub same : edge_of x ≡ edge
  pub instances : List Instance
  pub head : IsHeadOf p instances x

-- the edge hat is of some hat of the project
pub record IsEdge (p : Project) (edge : EdgeHat) : Type 0 where
  pub pair : Pair
  pub of : IsEdgeOf p edge pair

-- all hats that a filter starts are such heads
abbrev pub StartsAreHeads : Type 0
StartsAreHeads = (p : Project) (f : Filter) (is : List Instance) → All (IsHeadOf p is) (starts (program_of p) f is)

-- and so are all edge hats that are evaluated
abbrev pub EdgesAreHeads : Type 0
EdgesAreHeads = (p : Project) (is : List Instance) (ts : Places Thread) → All (IsHeadOf p is) (free_edges (program_of p) is ts)
