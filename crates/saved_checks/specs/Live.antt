-- The instances that are live.
use Rattle.std.specs.Prelude.{◌≡◌, ℕ, ◌==◌, Option, Some, None, if◌then◌else◌}
use Rattle.std.specs.BTreeMap.{get}
use Rattle.std.specs.Option.{option_or}
use Rattle.std.specs.Ordering.{nat_cmp}
use Rattle.saved_checks.specs.declared.live_targets.LiveTargets.{LiveTargets}

-- the target of an instance
abbrev pub target_in : LiveTargets → ℕ → Option ℕ
target_in live number = get nat_cmp live.targets number

-- an instance was noted with its target, where none with its number was
abbrev pub Notes : (old new : LiveTargets) → (number target : ℕ) → Type 0
Notes old new number target = (n : ℕ) → target_in new n ≡ option_or (target_in old n) (if number == n then Some target else None)
