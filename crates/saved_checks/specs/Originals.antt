-- How many originals each target has.
use Rattle.std.specs.Prelude.{◌≡◌, ℕ, ◌<◌, ◌-◌, ◌^◌, ◌==◌, ◌&&◌, Bool, List, length, filter, slice_index}
use Rattle.saved_parts.specs.declared.instances.ToldInstance.{ToldInstance}

-- an instance is an original of the target
abbrev pub is_original_of : ℕ → ToldInstance → Bool
is_original_of k i = i.of == k && (i.number == i.of)

abbrev pub originals_of : ℕ → List ToldInstance → ℕ
originals_of k is = length (filter (is_original_of k) is)

-- each count may be one more
abbrev pub HasRoom : List ℕ → Type 0
HasRoom counts = (k : ℕ) → k < length counts → slice_index counts k < 2 ^ 64 - 1

-- for each of so many targets how many of the instances are originals of it
pub record AreCounted (is : List ToldInstance) (targets : ℕ) (counts : List ℕ) : Type 0 where
  pub many : length counts ≡ targets
  pub each : (k : ℕ) → k < length counts → slice_index counts k ≡ originals_of k is
