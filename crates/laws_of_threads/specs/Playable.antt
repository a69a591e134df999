-- What the program of a project file has beside scripts in their targets: one stage, targets whose looks are in range, and
-- blocks of monitors that name what is there.
use Rattle.std.specs.Prelude.{◌≡◌, ℕ, ◌<◌, ◌≤◌, ◌^◌, ℤ, pos, negsuc, int_le, Bool, true, List, [], codes, length}
use Rattle.opcode_table.specs.declared.opcode.Opcode.{Opcode}
use Rattle.opcode_table.specs.declared.opcode.Opcode.TheVariants.{DataShowVariable, DataHideVariable, DataShowList, DataHideList}
use Rattle.scratch_number.specs.declared.number.Num.{Num}
use Rattle.scratch_number.specs.declared.number.Num.TheVariants.{Fixed, Inf, NegInf, Nan}
use Rattle.scratch_values.specs.declared.names.VarRef.{VarRef}
use Rattle.scratch_values.specs.declared.names.VarRef.TheVariants.{Own, Stage}
use Rattle.machine_spec.specs.DataRows.{most_items}
use Rattle.machine_spec.specs.Program.{Program, Records, record_at, stage_number}
use Rattle.machine_spec.specs.declared.records.TargetRecord.{TargetRecord}
use Rattle.machine_spec.specs.Script.{Statement, Refs, command_of, op_of}
use Rattle.machine_spec.specs.View.{variable_at}
use Rattle.laws_of_threads.specs.Lists.{Each}
use Rattle.laws_of_threads.specs.Statements.{Everywhere}

-- millionths from one number to another, both included
abbrev pub IsBetween : (low high : ℤ) → Num → Type 0
IsBetween low high (Fixed z) = (int_le low z ≡ true) × (int_le z high ≡ true)
IsBetween low high Inf = ⊥
IsBetween low high NegInf = ⊥
IsBetween low high Nan = ⊥

-- a size from 0 to 10000, a direction from −179 to below 181
abbrev pub IsSize : Num → Type 0
IsSize = IsBetween (pos 0) (pos 10000000000)

abbrev pub IsDirection : Num → Type 0
IsDirection = IsBetween (negsuc 178999999) (pos 180999999)

-- the stage stands at 0, 0 in size 100 and direction 90, and is visible
pub record IsAsTheStage (x y size direction : Num) (visible : Bool) : Type 0 where
  pub x_is : IsBetween (pos 0) (pos 0) x
  pub y_is : IsBetween (pos 0) (pos 0) y
  pub size_is : IsBetween (pos 100000000) (pos 100000000) size
  pub direction_is : IsBetween (pos 90000000) (pos 90000000) direction
  pub visible_is : visible ≡ true

-- a target has its costume, its looks are in range, its lists short
pub record IsTarget (r : TargetRecord) : Type 0 where
  pub costume : r.costume < length r.costumes
  pub few : length r.costumes < 2 ^ 32
  pub size : IsSize r.size
  pub direction : IsDirection r.direction
  pub stage : r.is_stage ≡ true → IsAsTheStage r.x r.y r.size r.direction r.visible
  pub lists : Each (λ l. length l.items ≤ most_items) r.lists

-- one target is the stage
pub record HasStage (records : Records) : Type 0 where
  pub there : stage_number records < length records.targets
  pub stage : (record_at (stage_number records) records).is_stage ≡ true
  pub only : (k : ℕ) → k < length records.targets → (record_at k records).is_stage ≡ true → k ≡ stage_number records

-- the variable of a number that a block of target k names is there, and so is the list
abbrev pub NamesVariable : Records → (k : ℕ) → VarRef → Type 0
NamesVariable records k (Own j) = j < length (record_at k records).variables
NamesVariable records k (Stage j) = j < length (record_at (stage_number records) records).variables

abbrev pub NamesList : Records → (k : ℕ) → VarRef → Type 0
NamesList records k (Own j) = j < length (record_at k records).lists
NamesList records k (Stage j) = j < length (record_at (stage_number records) records).lists

-- what a block shows or hides on the stage is there
abbrev pub ShowsNamed : Records → (k : ℕ) → Opcode → (of_name : List ℕ → VarRef) → Type 0
ShowsNamed records k DataShowVariable of_name = NamesVariable records k (of_name (codes "VARIABLE"))
ShowsNamed records k DataHideVariable of_name = NamesVariable records k (of_name (codes "VARIABLE"))
ShowsNamed records k DataShowList of_name = NamesList records k (of_name (codes "LIST"))
ShowsNamed records k DataHideList of_name = NamesList records k (of_name (codes "LIST"))
ShowsNamed records k op of_name = Unit {0}

abbrev pub ref_named : Refs → List ℕ → VarRef
ref_named refs name = variable_at name (record { values = []; fields = []; variables = refs })

abbrev pub IsNamed : Records → (k : ℕ) → Statement → Type 0
IsNamed records k s = ShowsNamed records k (op_of s) (ref_named (command_of s).refs)

pub record IsPlayable (p : Program) : Type 0 where
  pub few : length p.records.targets ≤ 1000
  pub targets : Each IsTarget p.records.targets
  pub stage : HasStage p.records
  pub named : Everywhere (IsNamed p.records) p
