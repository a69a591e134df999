-- Which levels a thread can have, given the blocks of its target.
use Rattle.std.specs.Prelude.{◌≡◌, ℕ, ◌<◌, Bool, true, false, List, [], ◌∷◌, length, Option, Some, None, is_some, slice_get}
use Rattle.opcode_table.specs.declared.kinds.Kind.{Kind}
use Rattle.opcode_table.specs.Kinds.{kind}
use Rattle.machine_spec.specs.declared.threads.Context.{Context}
use Rattle.machine_spec.specs.Keeping.{is_called, under_fits, top_fits, empty_fits}
use Rattle.machine_spec.specs.Threads.{is_done}
use Rattle.project_spec.specs.declared.blocks.Block.{Block}
use Rattle.project_spec.specs.Trees.{Sheet, op_by}
use Rattle.thread_frames.specs.Levels.{Level, without_top, top_block}
use Rattle.thread_frames.specs.Threads.{Thread}

abbrev pub kind_of : Block → Kind
kind_of b = kind (op_by b.code)

abbrev pub block_at : Sheet → Option ℕ → Option Block
block_at sheet None = None
block_at sheet (Some k) = slice_get sheet.blocks k

-- a level holds no block, or one of its target
abbrev pub IsHeld : Sheet → Option ℕ → Type 0
IsHeld sheet None = Unit {0}
IsHeld sheet (Some k) = k < length sheet.blocks

-- it has parameters exactly where it called
abbrev pub ParamsFit : Level → Type 0
ParamsFit l = is_some l.params ≡ is_called l.context

-- a level under another: its block is there, and what it keeps fits
pub record IsUnder (sheet : Sheet) (l : Level) : Type 0 where
  pub id : ℕ
  pub block : Block
  pub holds : l.block ≡ Some id
  pub found : slice_get sheet.blocks id ≡ Some block
  pub fits : under_fits l.context l.is_loop (kind_of block) ≡ true
  pub params : ParamsFit l

abbrev pub AllUnder : Sheet → List Level → Type 0
AllUnder sheet [] = Unit {0}
AllUnder sheet (l ∷ ls) = IsUnder sheet l × AllUnder sheet ls

-- the levels under the top one
pub record AreStacked (sheet : Sheet) (levels : List Level) : Type 0 where
  pub under : AllUnder sheet (without_top levels)

abbrev pub top_at : Option Block → Context → (is_loop : Bool) → Bool
top_at None c is_loop = empty_fits c is_loop
top_at (Some b) c is_loop = top_fits c is_loop (kind_of b)

-- a top level: its block is there, if it has one, and what it keeps fits
pub record IsTop (sheet : Sheet) (l : Level) : Type 0 where
  pub held : IsHeld sheet l.block
  pub fits : top_at (block_at sheet l.block) l.context l.is_loop ≡ true
  pub params : ParamsFit l

abbrev pub LevelsFit : Sheet → List Level → Type 0
LevelsFit sheet [] = Unit {0}
LevelsFit sheet (top ∷ ls) = IsTop sheet top × AllUnder sheet ls

-- levels that a thread can have, before or behind settling
pub record AreFit (sheet : Sheet) (levels : List Level) : Type 0 where
  pub fit : LevelsFit sheet levels

-- the top level holds a block, which is executed next
pub record IsReadyAt (sheet : Sheet) (levels : List Level) : Type 0 where
  pub fit : LevelsFit sheet levels
  pub holds : is_some (top_block levels) ≡ true

-- between two executions: a level without a block is the only one
pub record IsAtRest (sheet : Sheet) (levels : List Level) : Type 0 where
  pub fit : LevelsFit sheet levels
  pub there : 0 < length levels
  pub single : top_block levels ≡ None → length levels ≡ 1

-- a thread that is done has no levels; the levels of any other are at rest
pub record Fits (sheets : ℕ → Sheet) (t : Thread) : Type 0 where
  pub done : is_done t.status ≡ true → t.levels ≡ []
  pub open_levels : is_done t.status ≡ false → IsAtRest (sheets t.target) t.levels
