-- Stacks that are chains of slots in one pool, the top one first: each slot has the key of the one under it (linked
-- allocation: Knuth, The Art of Computer Programming, volume 1, section 2.2.3).
use Rattle.std.specs.Prelude.{◌≡◌, ℕ, zero, suc, ◌+◌, ◌<◌, ◌≤◌, ◌==◌, if◌then◌else◌, List, [], ◌∷◌, Option, Some, None}
use Rattle.slab.specs.Slab.{get, slab_len}
use Rattle.shared_stacks.specs.declared.slot.Slot.{Slot}
use Rattle.shared_stacks.specs.declared.stack.Stack.{Stack}
use Rattle.shared_stacks.specs.declared.pool.Pool.{Pool}

-- in how many places of a list a key stands
abbrev pub times : ℕ → List ℕ → ℕ
times j [] = 0
times j (k ∷ ks) = (if k == j then 1 else 0) + times j ks

-- the values of a stack but for the top one
abbrev pub without_top : {T : Type 0} → List T → List T
without_top [] = []
without_top (v ∷ vs) = vs

-- 1 for a slot, 0 for none
abbrev pub one : {T : Type 0} → Option (Slot T) → ℕ
one None = 0
one (Some x) = 1

-- the key of the slot under a slot
abbrev pub under_of : {T : Type 0} → Option (Slot T) → ℕ
under_of None = 0
under_of (Some x) = x.under

-- the value of a slot on those of the slots under it
abbrev pub value_on : {T : Type 0} → Option (Slot T) → List T → List T
value_on None rest = rest
value_on (Some x) rest = x.value ∷ rest

module _ {T : Type 0} where
  -- how many slots of a pool are used, and how many there is room for
  abbrev pub used : Pool T → ℕ
  used p = slab_len p.slab

  abbrev pub capacity : Pool T → ℕ
  capacity p = p.slab.capacity

  -- the slot of a key, where it is used
  abbrev pub slot_at : Pool T → ℕ → Option (Slot T)
  slot_at p k = get p.slab k

  -- 1 where the slot of a key is used, 0 where it is free
  abbrev pub used_at : Pool T → ℕ → ℕ
  used_at p k = one (slot_at p k)

  -- so many keys of a chain, from this key on down, and the values of their slots
  abbrev pub keys_from : Pool T → ℕ → ℕ → List ℕ
  keys_from p zero k = []
  keys_from p (suc n) k = k ∷ keys_from p n (under_of (slot_at p k))

  abbrev pub values_from : Pool T → ℕ → ℕ → List T
  values_from p zero k = []
  values_from p (suc n) k = value_on (slot_at p k) (values_from p n (under_of (slot_at p k)))

  -- the keys of the slots of a stack, and its values, the top one first
  abbrev pub keys : Pool T → Stack → List ℕ
  keys p s = keys_from p s.depth s.top

  abbrev pub values : Pool T → Stack → List T
  values p s = values_from p s.depth s.top

  -- a stack of the pool: each of its slots is used, and stands in it once
  pub record IsIn (p : Pool T) (s : Stack) : Type 0 where
    pub once : (j : ℕ) → times j (keys p s) ≤ used_at p j

  -- A stack of a pool was changed, and is this one of the new pool. Used slots of other stacks are as they were. The slots
  -- that it gained were free, and those that it lost are free.
  pub record Moves (p q : Pool T) (s t : Stack) : Type 0 where
    pub others : (j : ℕ) → times j (keys p s) ≡ 0 → 0 < used_at p j → slot_at q j ≡ slot_at p j
    pub balance : (j : ℕ) → times j (keys q t) + used_at p j ≡ times j (keys p s) + used_at q j
    pub count : used q + s.depth ≡ used p + t.depth
    pub room : capacity q ≡ capacity p
