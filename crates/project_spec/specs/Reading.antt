-- The project that a document tells, or the path of the first value that has not its shape: the members of each target,
-- then the monitors, then the blocks of each target.
use Rattle.std.specs.Prelude.{ℕ, Bool, true, false, List, [], map, codes, ◌∷◌, Result, Ok}
use Rattle.project_json.specs.Tree.{Tree, list}
use Rattle.json_shapes.specs.Shapes as shape
use Rattle.json_shapes.specs.Shapes.{Reader, ◌>>=◌}
use Rattle.machine_spec.specs.Program.{Records}
use Rattle.project_spec.specs.Blocks.{Block, blocks_of}
use Rattle.project_spec.specs.Targets.{target_of, monitor_of}

-- what tells a block: its id, and whether the block is a list
pub record Origin : Type 0 where
  pub id : List ℕ
  pub is_list : Bool

abbrev pub origin_of : List ℕ × Tree → Origin
origin_of (id, t) = record { id = id; is_list = is_list t }
  where
    is_list : Tree → Bool
    is_list (list ts) = true
    is_list _ = false

-- the blocks of a target, beside what tells each of them
pub record Table : Type 0 where
  pub origins : List Origin
  pub blocks : List Block

-- what a document tells: the records, and the blocks of each target
pub record File : Type 0 where
  pub records : Records
  pub tables : List Table

-- the blocks of each target, in file order
abbrev pub blocks_in : File → List (List Block)
blocks_in f = map (λ t. t.blocks) f.tables

abbrev pub table_of : Reader (List (List ℕ × Tree)) Table
table_of at ms = blocks_of at ms >>= (λ blocks. Ok (record { origins = map origin_of ms; blocks = blocks }))

-- the `blocks` of a target
abbrev pub table_in : Reader Tree Table
table_in at t = shape.members at t >>= shape.required shape.members (codes "blocks") at >>= table_of (codes "blocks" ∷ at)

abbrev pub file_by : List Tree → Reader (List (List ℕ × Tree)) File
file_by ts at ms =
    shape.each target_of (codes "targets" ∷ at) ts >>= (λ targets.
    shape.defaulted shape.items [] (codes "monitors") at ms >>= shape.each monitor_of (codes "monitors" ∷ at) >>= (λ monitors.
    shape.each table_in (codes "targets" ∷ at) ts >>= (λ tables.
    Ok (record { records = record { targets = targets; monitors = monitors }; tables = tables }))))

abbrev pub file_of : Tree → Result File (List ℕ)
file_of t = shape.members [] t >>= (λ ms. shape.required shape.items (codes "targets") [] ms >>= (λ ts. file_by ts [] ms))
