-- The levels of a thread read as what it has still to do, given the blocks of its target.
use Rattle.std.specs.Prelude.{ℕ, Bool, true, false, List, [], ◌∷◌, ◌++◌, Option, Some, None, slice_get, unwrap_or}
use Rattle.machine_spec.specs.Script.{Statement}
use Rattle.machine_spec.specs.declared.threads.Context.{Context}
use Rattle.machine_spec.specs.declared.threads.Context.TheVariants.{Called}
use Rattle.machine_spec.specs.Threads.{Params}
use Rattle.machine_spec.specs.Pending.{Item, Held, Returned, Branch, Again, Back, dos, kept}
use Rattle.machine_spec.specs.Tasks.{Task}
use Rattle.project_spec.specs.declared.blocks.Block.{Block}
use Rattle.project_spec.specs.Trees.{Sheet, target_of_link, script, statement}
use Rattle.thread_frames.specs.Levels.{Level, without_top, warp_flag}
use Rattle.thread_frames.specs.Threads.{Thread}

-- the parameters of a level
abbrev pub params_in : Level → Params
params_in l = unwrap_or l.params []

-- The block of a top level: under the loop mark it was executed; where it called, its procedure was left

abbrev pub plain_first : Context → Params → Statement → Item
plain_first Called params s = Returned s params
plain_first c params s = kept s c

abbrev pub first_by : (is_loop : Bool) → Context → Params → Statement → Item
first_by true c params s = Held s c
first_by false c params s = plain_first c params s

abbrev pub first_item : Level → Statement → Item
first_item l s = first_by l.is_loop l.context (params_in l) s

-- The block of a level under another: under the loop mark it is executed again; where it called, its procedure is open

abbrev pub plain_marker : Context → Params → (warp : Bool) → Statement → Item
plain_marker Called params w s = Back s params w
plain_marker c params w s = Branch s w

abbrev pub marker_by : (is_loop : Bool) → Context → Params → (warp : Bool) → Statement → Item
marker_by true c params w s = Again s c w
marker_by false c params w s = plain_marker c params w s

abbrev pub marker : Level → Statement → Item
marker l s = marker_by l.is_loop l.context (params_in l) l.warp s

-- the item of a block, and what follows the block
abbrev pub block_items : Sheet → (Statement → Item) → ℕ → Option Block → List Item
block_items sheet f k None = []
block_items sheet f k (Some b) = f (statement sheet k b) ∷ dos (script sheet (target_of_link b.next))

abbrev pub items_at : Sheet → (Statement → Item) → Option ℕ → List Item
items_at sheet f None = []
items_at sheet f (Some k) = block_items sheet f k (slice_get sheet.blocks k)

-- what levels under another have still to do
abbrev pub beneath : Sheet → List Level → List Item
beneath sheet [] = []
beneath sheet (l ∷ ls) = items_at sheet (marker l) l.block ++ beneath sheet ls

-- what the levels of a thread have still to do
abbrev pub pending : Sheet → List Level → List Item
pending sheet [] = []
pending sheet (top ∷ ls) = items_at sheet (first_item top) top.block ++ beneath sheet ls

-- what follows a block that the top level holds
abbrev pub rest_items : Sheet → Block → List Level → List Item
rest_items sheet b levels = dos (script sheet (target_of_link b.next)) ++ beneath sheet (without_top levels)

-- a thread as the machine sees it, given the blocks of each target
abbrev pub task : (ℕ → Sheet) → Thread → Task
task sheets t = record {
  serial = t.serial;
  of = t.of;
  hat = t.hat;
  status = t.status;
  warp = warp_flag t.levels;
  items = pending (sheets t.target) t.levels;
}
