-- Helpers of private functions: how the names of unknown blocks are gathered.
use Rattle.std.specs.Prelude.{◌≡◌, ℕ, ◌<◌, ◌^◌, Bool, List, [], ◌++◌, codes, Option, None, Some, IfSome}
use Rattle.project_json.specs.Size.{size_of}
use Rattle.project_json.specs.Tree.{Tree}
use Rattle.block_table.specs.Table.{IsSmall, Numbered}
use Rattle.block_checks.specs.Kept.{AreChecked}
use Rattle.project_spec.specs.declared.blocks.Block.{Block}
use Rattle.report_command.specs.Places.{member_at}
use Rattle.report_command.specs.Unknown.{unknown_names}

-- there are fewer members than numbers of blocks
abbrev pub IsSmallTarget : Tree → Type 0
IsSmallTarget target = IfSome (member_at (codes "blocks") (Some target)) IsSmall

abbrev pub IsSmallDocument : Option Tree → Type 0
IsSmallDocument document = IfSome document (λ t. size_of t < 2 ^ 32)

-- the blocks of a table; none where there is no table
abbrev pub IsTable : List Block → Option Numbered → Type 0
IsTable blocks None = blocks ≡ []
IsTable blocks (Some table) = blocks ≡ table.blocks

-- the names of the unknown blocks of a target were added
pub record AddsUnknown (old : List (List ℕ)) (blocks : List Block) (new : List (List ℕ)) : Type 0 where
  pub flags : List Bool
  pub checked : AreChecked blocks flags
  pub is : new ≡ old ++ unknown_names blocks flags
