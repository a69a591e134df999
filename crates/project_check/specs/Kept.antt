-- What every project keeps.
use Rattle.std.specs.Prelude.{◌≡◌, ℕ, ◌<◌, ◌^◌, List, length, map, slice_get, Some}
use Rattle.std.specs.List.{All}
use Rattle.project_spec.specs.declared.blocks.Block.{Block}
use Rattle.project_spec.specs.declared.blocks.Resolved.{Resolved}
use Rattle.project_spec.specs.Linked.{AreRanks}
use Rattle.project_spec.specs.Refusals.{tests, Passes}
use Rattle.machine_spec.specs.Program.{Records}
use Rattle.target_records.specs.Costumes.{IsDressed}
use Rattle.block_checks.specs.Kept.{Kept}
use Rattle.cached_blocks.specs.declared.block.CachedBlock.{CachedBlock}
use Rattle.cached_blocks.specs.Cached.{sheet_with, cached_blocks}
use Rattle.project_check.specs.Counts.{block_count}
use Rattle.project_check.specs.Heads.{head_numbers}

-- the blocks of each target as executions need them
abbrev pub CachesAll : List (List Block) → List (List (List Resolved)) → List (List CachedBlock) → Type 0
CachesAll tables resolved cached =
    (t : ℕ) (blocks : List Block) (refs : List (List Resolved)) → slice_get tables t ≡ Some blocks → slice_get resolved t ≡ Some refs
    → slice_get cached t ≡ Some (cached_blocks (sheet_with blocks refs))

-- Each target has costumes, and its blocks, with ranks that fall along every link, and what each block names; the blocks
-- pass all tests.
pub record IsProjectOf (records : Records) (tables : List (List Block)) (kept : List Kept) (resolved : List (List (List Resolved))) (cached : List (List CachedBlock)) (numbers : List (List ℕ)) (total : ℕ) : Type 0 where
  pub targets : length records.targets ≡ length tables
  pub dressed : All IsDressed records.targets
  pub few : length tables < 2 ^ 32
  pub tests : All (Passes tables) tests
  pub links : length kept ≡ length tables
  pub ranks : (t : ℕ) (blocks : List Block) (k : Kept) → slice_get tables t ≡ Some blocks → slice_get kept t ≡ Some k → AreRanks blocks k.ranks
  pub names : length resolved ≡ length tables
  pub each : (t : ℕ) (blocks : List Block) (refs : List (List Resolved)) → slice_get tables t ≡ Some blocks → slice_get resolved t ≡ Some refs → length refs ≡ length blocks
  pub caches : CachesAll tables resolved cached
  pub heads : numbers ≡ map head_numbers tables
  pub count : total ≡ block_count tables
