-- How many blocks there are.
use Rattle.std.specs.Prelude.{ℕ, List, length}
use Rattle.std.specs.List.{sum_by}
use Rattle.project_spec.specs.declared.blocks.Block.{Block}

-- of all targets together
abbrev pub block_count : List (List Block) → ℕ
block_count tables = sum_by length tables
