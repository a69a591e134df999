-- A target, and where what is named in its blocks stands.
use Rattle.std.specs.Prelude.{◌≡◌, ℕ, ◌==◌, ◌<◌, Bool, true, false, length}
use Rattle.scratch_values.specs.declared.names.VarName.{VarName}
use Rattle.machine_spec.specs.Lists.{changed_at}
use Rattle.machine_spec.specs.Program.{Records, record_at, stage_number}
use Rattle.project_spec.specs.Resolving.{Sort, with_added}
use Rattle.name_resolving.specs.declared.directory.Directory.{Directory}
use Rattle.name_resolving.specs.declared.scope.Scope.{Scope}
use Rattle.name_resolving.specs.Directory.{IsDirectory, Adds}

-- the records with one more variable or list in a target
abbrev pub added_at : Sort → VarName → ℕ → Records → Records
added_at s name t records = record records { targets = changed_at (with_added s name) t records.targets }

-- the directories are those of the target and of the stage
pub record IsScope (scope : Scope) (records : Records) : Type 0 where
  pub held : scope.target < length records.targets
  pub stage_is : scope.is_stage ≡ (scope.target == stage_number records)
  pub own : IsDirectory scope.own (record_at scope.target records)
  pub stage : IsDirectory scope.stage (record_at (stage_number records) records)

-- a name is added under a condition
abbrev pub AddsIf : Bool → Directory → Directory → Sort → VarName → ℕ → Type 0
AddsIf true old new s name number = Adds old new s name number
AddsIf false old new s name number = new ≡ old

-- a name is added to the target, and to the stage where the target is the stage
pub record NotesName (old new : Scope) (s : Sort) (name : VarName) (number : ℕ) : Type 0 where
  pub target : new.target ≡ old.target
  pub is_stage : new.is_stage ≡ old.is_stage
  pub own : Adds old.own new.own s name number
  pub stage : AddsIf old.is_stage old.stage new.stage s name number
