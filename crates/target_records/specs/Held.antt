-- What is true of the targets of each project's records.
use Rattle.std.specs.Prelude.{◌≡◌, ℕ, ◌<◌, ◌≤◌, ◌^◌, List, length, position, unwrap_or}
use Rattle.std.specs.List.{All}
use Rattle.machine_spec.specs.declared.records.ListRecord.{ListRecord}
use Rattle.machine_spec.specs.declared.records.TargetRecord.{TargetRecord}
use Rattle.machine_spec.specs.DataRows.{most_items}

-- a target has fewer than 2^32 variables and lists
abbrev pub IsSmall : TargetRecord → Type 0
IsSmall t = (length t.variables < 2 ^ 32) × (length t.lists < 2 ^ 32)

-- a list has no more items than a list may have in a run, and no list of a target has more
abbrev pub IsShort : ListRecord → Type 0
IsShort l = length l.items ≤ most_items

abbrev pub HasShortLists : TargetRecord → Type 0
HasShortLists t = All IsShort t.lists

-- the number of the stage, and 0 where no target is the stage
abbrev pub stage_in : List TargetRecord → ℕ
stage_in targets = unwrap_or (position (λ t. t.is_stage) targets) 0

pub record AreHeld (targets : List TargetRecord) (stage : ℕ) : Type 0 where
  pub few : length targets < 2 ^ 32
  pub small : All IsSmall targets
  pub short : All HasShortLists targets
  pub stage_is : stage ≡ stage_in targets
