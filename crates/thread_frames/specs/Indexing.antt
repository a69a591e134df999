-- Where the threads of each hat and each instance stand; the contracts of private functions and the invariant of `Threads` alone cite it.
use Rattle.std.specs.Prelude.{◌≡◌, ℕ, ◌==◌, ◌&&◌, Bool, true, if◌then◌else◌, List, map, Option, None, Some, position}
use Rattle.std.specs.HashMap.{HashMap, get}
use Rattle.thread_frames.specs.declared.slot_index.Key.{Key}
use Rattle.thread_frames.specs.declared.slot_index.SlotIndex.{SlotIndex}
use Rattle.thread_frames.specs.declared.indexes.Indexes.{Indexes}
use Rattle.thread_frames.specs.Entries.{Entry}
use Rattle.instance_index.specs.Index.{IsIndex}

abbrev pub same_key : Key → Key → Bool
same_key a b = a.of == b.of && a.hat == b.hat

-- the keys of threads
abbrev pub key_of : Entry → Key
key_of e = record { of = e.thread.of; hat = e.thread.hat }

abbrev pub keys_of : List Entry → List Key
keys_of es = map key_of es

-- while it is fresh, it has the first slot of each of these keys, and nothing for any other
pub record AreFirst (index : SlotIndex) (keys : List Key) : Type 0 where
  pub first : index.is_fresh ≡ true → (key : Key) → get same_key index.slots key ≡ position (λ k. same_key k key) keys

-- the instances of keys
abbrev pub instances_of : List Key → List ℕ
instances_of keys = map (λ k. k.of) keys

-- the first slot of each of these keys, and the slots of each of their instances
pub record AreIndexed (index : Indexes) (keys : List Key) : Type 0 where
  pub hats : AreFirst index.hats keys
  pub instances : IsIndex index.instances (instances_of keys)

-- what is found at a key after one that may be the same was noted: its earlier slot, where it has one
abbrev pub noted : Option ℕ → (same : Bool) → (slot : ℕ) → Option ℕ
noted (Some earlier) same slot = Some earlier
noted None same slot = if same then Some slot else None

-- a key was noted at a slot
abbrev pub Notes : {S : Type 0} → (old new : HashMap Key ℕ S) → (key : Key) → (slot : ℕ) → Type 0
Notes old new key slot = (other : Key) → get same_key new other ≡ noted (get same_key old other) (same_key key other) slot
