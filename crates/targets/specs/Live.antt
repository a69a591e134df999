-- Live instances, and what stays of them where some are changed.
use Rattle.std.specs.Prelude.{◌≡◌, ℕ, ◌≤◌, ◌==◌, List, map, count_by, IsSome, Option, option_map}
use Rattle.machine_spec.specs.declared.instance.Instance.{Instance}
use Rattle.machine_spec.specs.Stores.{live}

abbrev pub IsLive : ℕ → List Instance → Type 0
IsLive id is = IsSome (live id is)

-- the target of a live instance
abbrev pub target_of : ℕ → List Instance → Option ℕ
target_of id is = option_map (λ i. i.of) (live id is)

abbrev pub numbers : List Instance → List ℕ
numbers is = map (λ i. i.number) is

-- the same instances are live in the same order, each of the same target
pub record IsSameCast (old new : List Instance) : Type 0 where
  pub order : numbers new ≡ numbers old
  pub targets : (n : ℕ) → target_of n new ≡ target_of n old
  pub live : (n : ℕ) → IsLive n old → IsLive n new

-- each number is that of one instance at most
abbrev pub HasOneEach : List Instance → Type 0
HasOneEach is = (m : ℕ) → count_by (λ i. i.number == m) is ≤ 1
