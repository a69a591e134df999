-- What an index tells of a list.
use Rattle.std.specs.Prelude.{◌≡◌, ℕ, nat_eq, nat_lt, true, if◌then◌else◌, List, length, Option, Some, None, slice_get}
use Rattle.std.specs.HashMap.{get}
use Rattle.instance_index.specs.declared.index.InstanceIndex.{InstanceIndex}
use Rattle.instance_index.specs.Slots.{last_below}

-- the earlier slot that is noted at a slot; one that is not below it means none
abbrev pub linked : (slot : ℕ) → Option ℕ → Option ℕ
linked slot None = None
linked slot (Some earlier) = if nat_lt earlier slot then Some earlier else None

-- it has the last slot of each instance, and for each slot the one before it of the same instance
pub record AreChained (index : InstanceIndex) (ofs : List ℕ) : Type 0 where
  pub last : (of : ℕ) → get nat_eq index.last of ≡ last_below of ofs (length ofs)
  pub length : length index.earlier.items ≡ length ofs
  pub earlier : (slot of : ℕ) → slice_get ofs slot ≡ Some of → linked slot (slice_get index.earlier.items slot) ≡ last_below of ofs slot

-- while it is fresh, it is the index of this list
pub record IsIndex (index : InstanceIndex) (ofs : List ℕ) : Type 0 where
  pub chained : index.is_fresh ≡ true → AreChained index ofs
