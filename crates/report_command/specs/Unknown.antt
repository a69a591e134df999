-- The blocks in scripts of a project that is refused whose opcodes the player does not know.
use Rattle.std.specs.Prelude.{◌≡◌, ℕ, Bool, true, false, not, List, [], ◌∷◌, ◌++◌, map, flat_map, take, filter, bytes_eq, codes, Option, None, Some, Result, Ok, Err}
use Rattle.std.specs.Fmt.{decimal}
use Rattle.std.specs.List.{AllZip, count_by}
use Rattle.project_json.specs.Tree.{Tree}
use Rattle.machine_spec.specs.FrameText.{quoted}
use Rattle.project_spec.specs.declared.blocks.Block.{Block}
use Rattle.project_spec.specs.declared.blocks.Code.{Code}
use Rattle.project_spec.specs.declared.blocks.Code.TheVariants.{Known, Other}
use Rattle.project_spec.specs.Limits.{first_too_many, table_measures}
use Rattle.project_spec.specs.Linked.{is_menu}
use Rattle.project_spec.specs.Reading.{Table}
use Rattle.block_table.specs.Table.{table_at}
use Rattle.block_checks.specs.Kept.{AreChecked}
use Rattle.report_command.specs.Places.{targets_in, member_at}
use Rattle.report_command.specs.Lines.{line}

-- Which blocks

-- a place for what is read here, which is not told
abbrev pub place : List (List ℕ)
place = [] ∷ []

-- the blocks of a table, unless something in it is too long
abbrev pub unless_long : Option (List ℕ) → List Block → List Block
unless_long None blocks = blocks
unless_long (Some path) blocks = []

-- the blocks that can be read: their shapes fit, and nothing is too long
abbrev pub readable : Result Table (List ℕ) → List Block
readable (Ok table) = unless_long (first_too_many (table_measures place table)) table.blocks
readable (Err path) = []

abbrev pub blocks_by : Option Tree → List Block
blocks_by None = []
blocks_by (Some blocks) = readable (table_at place blocks)

-- the blocks of each target that can be read
abbrev pub blocks_of : Tree → List Block
blocks_of target = blocks_by (member_at (codes "blocks") (Some target))

abbrev pub tables_in : Option Tree → List (List Block)
tables_in document = map blocks_of (targets_in document)

-- Their opcodes

-- a name that is none of the profile's opcodes; a menu is known by its place
abbrev pub unknown_name : (menu : Bool) → Code → List (List ℕ)
unknown_name menu (Known op) = []
unknown_name true (Other name) = []
unknown_name false (Other name) = name ∷ []

-- of a block that is in a script
abbrev pub unknown_of : (in_script : Bool) → Block → List (List ℕ)
unknown_of false b = []
unknown_of true b = unknown_name (is_menu b) b.code

-- of the blocks of a target
abbrev pub unknown_names : List Block → List Bool → List (List ℕ)
unknown_names [] flags = []
unknown_names (b ∷ bs) [] = []
unknown_names (b ∷ bs) (f ∷ fs) = unknown_of f b ++ unknown_names bs fs

-- of all targets
abbrev pub all_unknown : List (List Block) → List (List Bool) → List (List ℕ)
all_unknown [] flags = []
all_unknown (t ∷ ts) [] = []
all_unknown (t ∷ ts) (f ∷ fs) = unknown_names t f ++ all_unknown ts fs

-- the names, one for each such block, in the order of the file
pub record AreUnknown (tables : List (List Block)) (names : List (List ℕ)) : Type 0 where
  pub flags : List (List Bool)
  pub checked : AllZip AreChecked tables flags
  pub is : names ≡ all_unknown tables flags

-- How they are told

-- each name once, in the order in which they come first
abbrev pub firsts : List (List ℕ) → List (List ℕ)
firsts [] = []
firsts (name ∷ names) = name ∷ filter (λ other. not (bytes_eq name other)) (firsts names)

-- no more are told
abbrev pub most_told : ℕ
most_told = 100

-- a name, and how many blocks have it
abbrev pub unknown_line : List (List ℕ) → List ℕ → List ℕ
unknown_line names name = line (codes "Not known, in scripts: ") (quoted name ++ 32 ∷ decimal (count_by (λ other. bytes_eq other name) names))

abbrev pub unknown_text : List (List ℕ) → List ℕ
unknown_text names = flat_map (unknown_line names) (take most_told (firsts names))
