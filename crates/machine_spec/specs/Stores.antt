-- The stores of a run: the instances, their variables and lists, and the devices; and what is found in them.
pub use Rattle.machine_spec.specs.declared.bubble.Say.{Say}
pub use Rattle.machine_spec.specs.declared.bubble.Bubble.{Bubble}
pub use Rattle.machine_spec.specs.declared.instance.Instance.{Instance}
pub use Rattle.machine_spec.specs.declared.variables.Store.{Store}
pub use Rattle.machine_spec.specs.declared.variables.Shown.{Shown}
pub use Rattle.machine_spec.specs.declared.variables.Made.{Made}
pub use Rattle.machine_spec.specs.declared.devices.Key.{Key}
pub use Rattle.machine_spec.specs.declared.devices.Question.{Question}
pub use Rattle.machine_spec.specs.declared.devices.BubbleTimer.{BubbleTimer}
use Rattle.std.specs.Prelude.{ℕ, ◌-◌, ◌*◌, ◌==◌, ℤ, pos, List, [], find, slice_get, unwrap_or, Bool, false, Option, if◌then◌else◌}
use Rattle.std.specs.Ordering.{is_lt}
use Rattle.scratch_number.specs.declared.number.Num.{Num}
use Rattle.scratch_number.specs.Number.{number}
use Rattle.scratch_values.specs.Casts.{zero_number}
use Rattle.scratch_values.specs.Comparison.{number_order}
use Rattle.scratch_values.specs.declared.value.Value.{Value}
use Rattle.scratch_values.specs.declared.value.Value.TheVariants.{Number}
use Rattle.scratch_values.specs.declared.names.VarRef.{VarRef}
use Rattle.scratch_values.specs.declared.names.VarRef.TheVariants.{Own, Stage}
use Rattle.machine_spec.specs.declared.bubble.Say.TheVariants as say
use Rattle.machine_spec.specs.Lists.{first_changed}
use Rattle.machine_spec.specs.Program.{AllAround, TargetRecord, Records, record_at, stage_number}

-- the stores by instance, whether each monitor of the file is visible, and the monitors that blocks added
pub record Variables : Type 0 where
  pub stores : List Store
  pub file_monitors : List Bool
  pub made : List Made

-- `timer` is the clock at the last reset, `usage` the number of the next bubble update
pub record Devices : Type 0 where
  pub answer : List ℕ
  pub clock : ℕ
  pub timer : ℕ
  pub keys : List Key
  pub mouse_x : ℤ
  pub mouse_y : ℤ
  pub button : Bool
  pub questions : List Question
  pub timers : List BubbleTimer
  pub turbo : Bool
  pub usage : ℕ

-- the bubble of an instance that has said nothing
abbrev pub no_bubble : Bubble
no_bubble = record { kind = say.Say; text = []; usage = 0 }

abbrev pub no_instance : Instance
no_instance = record {
  number = 0;
  of = 0;
  x = zero_number;
  y = zero_number;
  direction = zero_number;
  size = zero_number;
  visible = false;
  costume = 0;
  style = AllAround;
  effects = [];
  bubble = no_bubble;
  edges = [];
}

-- the instance of a number, if it is live
abbrev pub live : ℕ → List Instance → Option Instance
live n is = find (λ i. i.number == n) is

-- the instance of a number that is live
abbrev pub instance_at : ℕ → List Instance → Instance
instance_at n is = unwrap_or (live n is) no_instance

-- the instance of a number changed
abbrev pub on_instance : ℕ → (Instance → Instance) → List Instance → List Instance
on_instance n f is = first_changed (λ i. i.number == n) f is

abbrev pub record_of : Instance → Records → TargetRecord
record_of i records = record_at i.of records

-- an original has the place of its target as its number, and a clone has another one
abbrev pub is_original : Instance → Bool
is_original i = i.number == i.of

abbrev pub is_on_stage : Instance → Records → Bool
is_on_stage i records = (record_of i records).is_stage

-- the store of an instance
abbrev pub store_at : ℕ → List Store → Store
store_at n stores = unwrap_or (find (λ s. s.of == n) stores) (record { of = n; values = []; lists = [] })

-- the store of an instance changed
abbrev pub on_store : ℕ → (Store → Store) → Variables → Variables
on_store n f vs = record vs { stores = first_changed (λ s. s.of == n) f vs.stores }

-- the instance whose store holds a variable or list that a block of `here` names
abbrev pub owner_of : VarRef → ℕ → Records → ℕ
owner_of (Own k) here records = here
owner_of (Stage k) here records = stage_number records

abbrev pub index_of : VarRef → ℕ
index_of (Own k) = k
index_of (Stage k) = k

-- a variable's value, and a list's items, in an instance's store
abbrev pub value_in : (of index : ℕ) → Variables → Value
value_in n k vs = unwrap_or (slice_get (store_at n vs.stores).values k) (Number zero_number)

abbrev pub items_in : (of index : ℕ) → Variables → List Value
items_in n k vs = unwrap_or (slice_get (store_at n vs.stores).lists k) []

-- of the variable and the list that a block of `here` names
abbrev pub value_of : VarRef → ℕ → Records → Variables → Value
value_of ref here records vs = value_in (owner_of ref here records) (index_of ref) vs

abbrev pub items_of : VarRef → ℕ → Records → Variables → List Value
items_of ref here records vs = items_in (owner_of ref here records) (index_of ref) vs

-- milliseconds as seconds
abbrev pub seconds : ℕ → Num
seconds ms = number (pos (ms * 1000))

-- the seconds since a clock reading
abbrev pub elapsed : ℕ → Devices → Num
elapsed start d = seconds (d.clock - start)

abbrev pub less : Num → Num → Bool
less a b = is_lt (number_order a b)

-- the larger of 0 and a number
abbrev pub from_zero : Num → Num
from_zero n = if less zero_number n then n else zero_number
