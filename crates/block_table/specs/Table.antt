-- The blocks of a target by their numbers, and the numbers by the ids.
use Rattle.std.specs.Prelude.{◌≡◌, ◌<◌, ◌^◌, ℕ, List, length, map, Bool, IfSome}
use Rattle.std.specs.List.{zip}
use Rattle.project_json.specs.Tree.{Tree}
use Rattle.project_json.specs.Parts.{members_in}
use Rattle.json_shapes.specs.Shapes.{Reader, ◌>>=◌, members}
use Rattle.project_spec.specs.declared.blocks.Block.{Block}
use Rattle.project_spec.specs.Linked.{IsClosed}
use Rattle.project_spec.specs.Reading.{Origin, Table, table_of}
use Rattle.block_table.specs.declared.file_block.FileBlock.{FileBlock}
use Rattle.block_table.specs.FileBlock.{block_in}
use Rattle.block_table.specs.Short.{HaveShortFields}

-- the blocks beside their ids, in the order of the document: the number of a block is its place
pub record Numbered : Type 0 where
  pub ids : List (List ℕ)
  pub blocks : List Block

-- of a table of a file
abbrev pub numbered : Table → Numbered
numbered table = record { ids = map (λ o. o.id) table.origins; blocks = table.blocks }

-- what tells the blocks: their ids, and which of them are lists
abbrev pub origins : List (List ℕ) → List Bool → List Origin
origins ids lists = map (λ x. record { id = x.0; is_list = x.1 }) (zip ids lists)

-- the table of these ids and blocks
abbrev pub table_in : List (List ℕ) → List Bool → List FileBlock → Table
table_in ids lists blocks = record { origins = origins ids lists; blocks = map block_in blocks }

-- what every table keeps
pub record IsTable (ids : List (List ℕ)) (lists : List Bool) (blocks : List Block) : Type 0 where
  pub kinds : length lists ≡ length ids
  pub each : length blocks ≡ length ids
  pub few : length ids < 2 ^ 32
  pub closed : IsClosed blocks

pub record IsNumbered (ids : List (List ℕ)) (blocks : List Block) : Type 0 where
  pub each : length blocks ≡ length ids
  pub few : length ids < 2 ^ 32
  pub closed : IsClosed blocks
  pub short : HaveShortFields blocks

-- the table of the blocks that a value tells, which is an object
abbrev pub table_at : Reader Tree Table
table_at at t = members at t >>= table_of at

-- a value has fewer members than there are numbers of blocks
abbrev pub IsSmall : Tree → Type 0
IsSmall t = IfSome (members_in t) (λ ms. length ms < 2 ^ 32)
