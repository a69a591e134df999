-- What is kept of the blocks of a project that are well linked, and what is told of others.
use Rattle.std.specs.Prelude.{◌≡◌, ◌⊎◌, ℕ, Bool, true, List, length, map, slice_get, Some}
use Rattle.block_table.specs.Table.{Numbered}
use Rattle.project_spec.specs.declared.blocks.Block.{Block}
use Rattle.project_spec.specs.declared.refusals.Refusal.{Refusal}
use Rattle.project_spec.specs.declared.refusals.Refusal.TheVariants as refusal
use Rattle.project_spec.specs.Linked.{AreRanks, IsChecked}
use Rattle.project_spec.specs.Refusals.{tests, IsFirstOf}

-- the blocks of each target
abbrev pub blocks_in : List Numbered → List (List Block)
blocks_in tables = map (λ t. t.blocks) tables

-- of the blocks of a target: a rank for each, and whether each is checked
pub record Kept : Type 0 where
  pub ranks : List ℕ
  pub checked : List Bool

-- a truth for each block: whether it is checked
pub record AreChecked (blocks : List Block) (checked : List Bool) : Type 0 where
  pub each : length checked ≡ length blocks
  pub sound : (k : ℕ) → slice_get checked k ≡ Some true → IsChecked blocks k
  pub complete : (k : ℕ) → IsChecked blocks k → slice_get checked k ≡ Some true

-- ranks that fall along every link, and which blocks are checked
pub record IsKept (blocks : List Block) (kept : Kept) : Type 0 where
  pub ranks : AreRanks blocks kept.ranks
  pub checked : AreChecked blocks kept.checked

-- want of memory, or the first of the tests that a block fails, by the first block that fails it
abbrev pub IsRefusal : List (List Block) → Refusal → Type 0
IsRefusal tables r = (r ≡ refusal.NoMemory) ⊎ IsFirstOf tables tests r
