-- A program beside the numbers of blocks of its targets: what the rules of saved runs need of a project.
use Rattle.std.specs.Prelude.{ℕ, ◌==◌, ◌&&◌, Bool, List, slice_get, unwrap_or, find, Option, option_map}
use Rattle.std.specs.List.{list_any}
use Rattle.opcode_table.specs.Kinds.{hat_kind}
use Rattle.machine_spec.specs.Frame.{is_edge_hat}
use Rattle.machine_spec.specs.Script.{Script, op_of}
use Rattle.machine_spec.specs.Program.{Program, Records, Head, hat_block, scripts_at}

-- its program, and how many blocks each target has
pub record Basis : Type 0 where
  pub program : Program
  pub blocks : List ℕ

abbrev pub records_of : Basis → Records
records_of b = b.program.records

-- how many blocks a target has
abbrev pub blocks_of : ℕ → Basis → ℕ
blocks_of target b = unwrap_or (slice_get b.blocks target) 0

-- a block heads a script of a target; a definition does not
abbrev pub is_hat : ℕ → ℕ → Basis → Bool
is_hat target block b = list_any (λ h. hat_block h == block) (scripts_at target b.program).heads

abbrev pub is_edge_head : ℕ → Head → Bool
is_edge_head block h = hat_block h == block && is_edge_hat (hat_kind (op_of h.hat))

-- it is an edge hat
abbrev pub is_edge : ℕ → ℕ → Basis → Bool
is_edge target block b = list_any (is_edge_head block) (scripts_at target b.program).heads

-- the script under a hat
abbrev pub script_under : ℕ → ℕ → Basis → Option Script
script_under target block b = option_map (λ h. h.script) (find (λ h. hat_block h == block) (scripts_at target b.program).heads)
