-- The rows of data (after scratch-vm, blocks/scratch3_data.js).
use Rattle.std.specs.Prelude.{ℕ, ◌+◌, ◌-◌, List, [], ◌∷◌, ◌++◌, length, take, drop, codes, slice_set, Bool, true, false}
use Rattle.opcode_table.specs.declared.opcode.Opcode.{Opcode}
use Rattle.opcode_table.specs.declared.opcode.Opcode.TheVariants.{DataSetVariableTo, DataChangeVariableBy, DataShowVariable, DataHideVariable, DataAddToList, DataDeleteOfList, DataDeleteAllOfList, DataInsertAtList, DataReplaceItemOfList, DataShowList, DataHideList}
use Rattle.scratch_number.specs.declared.number.Num.{Num}
use Rattle.scratch_number.specs.Arithmetic.{add}
use Rattle.scratch_values.specs.Casts.{number}
use Rattle.scratch_values.specs.Named.{Arguments}
use Rattle.scratch_values.specs.declared.index.Index.{Index}
use Rattle.scratch_values.specs.declared.index.Index.TheVariants.{All, At, Invalid}
use Rattle.scratch_values.specs.declared.value.Value.{Value}
use Rattle.scratch_values.specs.declared.value.Value.TheVariants.{Number}
use Rattle.scratch_values.specs.declared.names.VarRef.{VarRef}
use Rattle.machine_spec.specs.Outcome.{Outcome, Goes, then_do}
use Rattle.machine_spec.specs.Random.{indexed}
use Rattle.machine_spec.specs.Program.{Records}
use Rattle.machine_spec.specs.Threads.{Fresh, Next}
use Rattle.machine_spec.specs.Stores.{Instance, Shown, Variables, instance_at, on_store, owner_of, index_of, value_of, items_of}
use Rattle.machine_spec.specs.declared.variables.Shown.TheVariants as shown
use Rattle.machine_spec.specs.Monitors.{monitor_set}
use Rattle.machine_spec.specs.View.{Row, value_at, number_at, variable_at}
use Rattle.machine_spec.specs.Parts.{DataParts}

-- the most items of a list
abbrev pub most_items : ℕ
most_items = 200000

-- at the most items nothing is added at the end, and an insertion drops the last
abbrev pub added : Value → List Value → List Value
added v items = take most_items (items ++ v ∷ [])

abbrev pub inserted : Index → Value → List Value → List Value
inserted (At n) v items = take most_items (take (n - 1) items ++ v ∷ drop (n - 1) items)
inserted All v items = items
inserted Invalid v items = items

abbrev pub deleted : Index → List Value → List Value
deleted (At n) items = take (n - 1) items ++ drop n items
deleted All items = []
deleted Invalid items = items

abbrev pub replaced : Index → Value → List Value → List Value
replaced (At n) v items = slice_set items (n - 1) v
replaced All v items = items
replaced Invalid v items = items

-- a variable of an instance with a value, and a list of it with items
abbrev pub value_set : (of index : ℕ) → Value → Variables → Variables
value_set n k v vs = on_store n (λ s. record s { values = slice_set s.values k v }) vs

abbrev pub items_set : (of index : ℕ) → List Value → Variables → Variables
items_set n k items vs = on_store n (λ s. record s { lists = slice_set s.lists k items }) vs

-- what a block of `here` names, in the variables of a run
pub record Named : Type 0 where
  pub ref : VarRef
  pub here : ℕ
  pub records : Records

abbrev pub variable_set : Named → Value → Variables → Variables
variable_set n v vs = value_set (owner_of n.ref n.here n.records) (index_of n.ref) v vs

abbrev pub list_set : Named → List Value → Variables → Variables
list_set n items vs = items_set (owner_of n.ref n.here n.records) (index_of n.ref) items vs

abbrev pub items_named : Named → DataParts → List Value
items_named n d = items_of n.ref n.here n.records d.variables

-- the target and the number of what is named
abbrev pub shown_as : (ℕ → ℕ → Shown) → Named → List Instance → Shown
shown_as what n is = what (instance_at (owner_of n.ref n.here n.records) is).of (index_of n.ref)

abbrev pub with_variables : Variables → DataParts → Outcome DataParts
with_variables vs d = Goes (record d { variables = vs })

abbrev pub monitored : Named → Shown → Bool → DataParts → Outcome DataParts
monitored n what visible d = with_variables (monitor_set n.records what visible d.variables) d

-- a variable raised by a number
abbrev pub raised : Named → Num → DataParts → Outcome DataParts
raised n by d = with_variables (variable_set n (Number (add (number (value_of n.ref n.here n.records d.variables)) by)) d.variables) d

abbrev pub with_list : Named → List Value → DataParts → Outcome DataParts
with_list n items d = with_variables (list_set n items d.variables) d

-- a list changed at the place that an input names among so many
abbrev pub at_index : Named → Value → (all : Bool) → ℕ → (Index → List Value → List Value) → DataParts → Outcome DataParts
at_index n v all length change d =
    then_do (indexed v length all d.words)
    (λ i. with_list n (change i.value (items_named n d)) (record d { words = i.words }))

-- an opcode a line; v is the variable and l the list that the block names
abbrev pub data_by : (v l : Named) → List Instance → Opcode → Arguments → DataParts → Outcome DataParts
data_by v l is DataSetVariableTo a d = with_variables (variable_set v (value_at (codes "VALUE") a) d.variables) d
data_by v l is DataChangeVariableBy a d = raised v (number_at (codes "VALUE") a) d
data_by v l is DataShowVariable a d = monitored v (shown_as shown.Variable v is) true d
data_by v l is DataHideVariable a d = monitored v (shown_as shown.Variable v is) false d
data_by v l is DataShowList a d = monitored l (shown_as shown.List l is) true d
data_by v l is DataHideList a d = monitored l (shown_as shown.List l is) false d
data_by v l is DataAddToList a d = with_list l (added (value_at (codes "ITEM") a) (items_named l d)) d
data_by v l is DataDeleteAllOfList a d = with_list l [] d
data_by v l is DataDeleteOfList a d = at_index l (value_at (codes "INDEX") a) true (length (items_named l d)) deleted d
data_by v l is DataInsertAtList a d = at_index l (value_at (codes "INDEX") a) false (length (items_named l d) + 1) (λ i items. inserted i (value_at (codes "ITEM") a) items) d
data_by v l is DataReplaceItemOfList a d = at_index l (value_at (codes "INDEX") a) false (length (items_named l d)) (λ i items. replaced i (value_at (codes "ITEM") a) items) d
data_by v l is _ a d = Goes d

abbrev pub named : List ℕ → Arguments → ℕ → Records → Named
named field a here records = record { ref = variable_at field a; here = here; records = records }

-- a data block always goes on, keeps nothing and requests no redraw
abbrev pub data_row : Records → List Instance → Opcode → Arguments → (here : ℕ) → DataParts → Outcome (Row DataParts)
data_row records is op a here d =
    then_do (data_by (named (codes "VARIABLE") a here records) (named (codes "LIST") a here records) is op a d)
    (λ e. Goes (record { parts = e; context = Fresh; control = Next; redraw = false }))
