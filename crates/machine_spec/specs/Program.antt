-- A project as the machine sees it: the records of its targets and monitors, its heads, and its procedures by code.
pub use Rattle.machine_spec.specs.declared.instance.Style.{Style}
pub use Rattle.machine_spec.specs.declared.instance.Style.TheVariants.{AllAround, LeftRight, DontRotate}
pub use Rattle.machine_spec.specs.declared.records.VariableRecord.{VariableRecord}
pub use Rattle.machine_spec.specs.declared.records.ListRecord.{ListRecord}
pub use Rattle.machine_spec.specs.declared.records.TargetRecord.{TargetRecord}
use Rattle.std.specs.Prelude.{ℕ, List, [], Option, Bool, false, slice_get, unwrap_or, find, position, not, ◌&&◌, bytes_eq}
use Rattle.project_json.specs.Tree.{Tree}
use Rattle.scratch_values.specs.Casts.{zero_number}
use Rattle.scratch_values.specs.declared.value.Value.{Value}
use Rattle.machine_spec.specs.Script.{Script, Statement, place_of, first_block}

-- a monitor of the file; `params` is an object of the document
pub record Monitor : Type 0 where
  pub id : List ℕ
  pub opcode : List ℕ
  pub sprite : Option (List ℕ)
  pub visible : Bool
  pub params : Tree

-- the targets in file order, and the monitors
pub record Records : Type 0 where
  pub targets : List TargetRecord
  pub monitors : List Monitor

-- a hat that heads a checked script, and the script under it
pub record Head : Type 0 where
  pub hat : Statement
  pub script : Script

abbrev pub hat_block : Head → ℕ
hat_block h = (place_of h.hat).block

-- a defined procedure: what its prototype says, and the script that begins with its definition
pub record Procedure : Type 0 where
  pub code : List ℕ
  pub ids : List (List ℕ)
  pub names : List (List ℕ)
  pub defaults : List Value
  pub warp : Bool
  pub body : Script

abbrev pub definition_of : Procedure → ℕ
definition_of q = first_block q.body

-- the heads of a target in block order, and its procedures, the first of each code alone
pub record Scripts : Type 0 where
  pub heads : List Head
  pub procedures : List Procedure

pub record Program : Type 0 where
  pub records : Records
  pub scripts : List Scripts

abbrev pub no_target : TargetRecord
no_target = record {
  is_stage = false;
  name = [];
  variables = [];
  lists = [];
  costumes = [];
  costume = 0;
  layer_order = zero_number;
  volume = zero_number;
  visible = false;
  x = zero_number;
  y = zero_number;
  size = zero_number;
  direction = zero_number;
  style = AllAround;
}

-- the record of a target that is there
abbrev pub record_at : ℕ → Records → TargetRecord
record_at target records = unwrap_or (slice_get records.targets target) no_target

abbrev pub scripts_at : ℕ → Program → Scripts
scripts_at target p = unwrap_or (slice_get p.scripts target) (record { heads = []; procedures = [] })

-- the procedure of a code in a target, if it is defined there
abbrev pub procedure : ℕ → List ℕ → Program → Option Procedure
procedure target code p = find (λ q. bytes_eq q.code code) (scripts_at target p).procedures

-- the number of the stage: an original has the place of its target as its number
abbrev pub stage_number : Records → ℕ
stage_number records = unwrap_or (position (λ t. t.is_stage) records.targets) 0

-- the number of the first original sprite in file order with exactly that name; the stage is no sprite
abbrev pub sprite_named : List ℕ → Records → Option ℕ
sprite_named name records = position (λ t. not t.is_stage && bytes_eq t.name name) records.targets
