-- A value of a pool that is lent to be changed.
use Rattle.std.specs.Borrow.{Lends, Fml, RattleType, MutBor}
use Rattle.slab.specs.Slab.{with_value}
use Rattle.shared_stacks.specs.declared.slot.Slot.{Slot}
use Rattle.shared_stacks.specs.declared.stack.Stack.{Stack}
use Rattle.shared_stacks.specs.declared.pool.Pool.{Pool}
use Rattle.shared_stacks.specs.Chains.{slot_at, under_of}
use Rattle.shared_stacks.specs.contracts.slot.Slot as slot
use Rattle.shared_stacks.specs.contracts.pool.Pool as pool

-- the slot with another value
abbrev pub with_own : {T : Type 0} → Slot T → T → Slot T
with_own x v = record { value = v; under = x.under }

-- the pool in which the top slot of a stack has another value
abbrev pub with_top : {T : Type 0} → Pool T → Stack → T → Pool T
with_top p s v = record { slab = with_value p.slab s.top (record { value = v; under = under_of (slot_at p s.top) }) }

module _ (T : RattleType) where
  abbrev pub LendsValue : MutBor (Slot T.Denot) → MutBor T.Denot → Fml
  LendsValue s r = Lends (slot.the_row T) T s r (with_own s.now)

  abbrev pub LendsTop : MutBor (Pool T.Denot) → Stack → MutBor T.Denot → Fml
  LendsTop s k r = Lends (pool.the_row T) T s r (with_top s.now k)
