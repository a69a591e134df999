-- Where the levels of a thread stand, given the blocks of its target.
use Rattle.std.specs.Prelude.{◌≡◌, ℕ, ◌<◌, Bool, true, false, List, [], ◌∷◌, ◌++◌, length, Option, Some, None, is_some, slice_get, if◌then◌else◌, ◌==◌}
use Rattle.machine_spec.specs.Script.{Script, Then, Statement}
use Rattle.machine_spec.specs.Keeping.{is_called, top_fits}
use Rattle.machine_spec.specs.declared.threads.Context.{Context}
use Rattle.machine_spec.specs.declared.threads.Report.{Report}
use Rattle.machine_spec.specs.declared.threads.Report.TheVariants.{Ended}
use Rattle.machine_spec.specs.Pending.{Item, dos, Position, settle}
use Rattle.project_spec.specs.declared.blocks.Block.{Block}
use Rattle.project_spec.specs.Trees.{Sheet, script}
use Rattle.cached_blocks.specs.declared.block.CachedBlock.{CachedBlock}
use Rattle.thread_frames.specs.declared.level.Level.{Level}
use Rattle.thread_frames.specs.Levels.{at_next, new_level, on_top, without_top, top_block, warp_flag}
use Rattle.thread_frames.specs.Reading.{beneath, pending}
use Rattle.thread_frames.specs.Fit.{kind_of, AllUnder, LevelsFit, IsReadyAt}

abbrev pub is_ended : Report → Bool
is_ended Ended = true
is_ended _ = false

-- no level is left, or the top one holds a block, which is executed next
abbrev pub IsReadyUnless : (ended : Bool) → Sheet → List Level → Type 0
IsReadyUnless true sheet levels = levels ≡ []
IsReadyUnless false sheet levels = IsReadyAt sheet levels

-- the levels stand where the machine stands
pub record IsAt (sheet : Sheet) (at : Position) (levels : List Level) (report : Report) : Type 0 where
  pub items : pending sheet levels ≡ at.items
  pub warp : warp_flag levels ≡ at.warp
  pub report_is : report ≡ at.report
  pub ready : IsReadyUnless (is_ended report) sheet levels

-- The top level holds block k. What it kept may have been taken out: `before` is that.
pub record TopHolds (sheet : Sheet) (levels : List Level) (k : ℕ) : Type 0 where
  pub block : Block
  pub top : Level
  pub under : List Level
  pub before : Context
  pub is : levels ≡ top ∷ under
  pub holds : top.block ≡ Some k
  pub found : slice_get sheet.blocks k ≡ Some block
  pub fits : top_fits before top.is_loop (kind_of block) ≡ true
  pub params : is_some top.params ≡ is_called before
  pub below : AllUnder sheet under

-- the levels stand where the machine stands that had the statement of block k first, with what follows it
abbrev pub MovesTo : Sheet → (k : ℕ) → (Statement → List Item → Position) → (old new : List Level) → Report → Type 0
MovesTo sheet k at old new report =
    (s : Statement) (rest : Script) → script sheet (Some k) ≡ Then s rest → IsAt sheet (at s (dos rest ++ beneath sheet (without_top old))) new report

-- Private functions alone cite these

-- the top level holds no block
pub record IsCovered (sheet : Sheet) (levels : List Level) : Type 0 where
  pub fit : LevelsFit sheet levels
  pub there : 0 < length levels
  pub empty : top_block levels ≡ None

-- the top level was just opened, with this block
pub record IsOpened (sheet : Sheet) (first : Option ℕ) (levels : List Level) : Type 0 where
  pub warp : Bool
  pub under : List Level
  pub is : levels ≡ new_level first warp ∷ under
  pub fit : LevelsFit sheet levels

-- the block of the top level is done with, and no block follows it
abbrev pub emptied : List Level → List Level
emptied levels = on_top (at_next None) levels

-- what is left to do settles to the same
pub record SettlesAlike (sheet : Sheet) (old new : List Level) : Type 0 where
  pub fit : LevelsFit sheet new
  pub same : settle (pending sheet new) (warp_flag new) ≡ settle (pending sheet old) (warp_flag old)

-- the branch of a number of a block
abbrev pub branch_link : ℕ → CachedBlock → Option ℕ
branch_link n b = if n == 1 then b.first else b.second
