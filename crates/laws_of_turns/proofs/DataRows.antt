-- The rows of data keep stores within the limit.
use Rattle.std.proofs.Common.{ℕ, ◌+◌, ◌-◌, Bool, true, false, List, [], ◌∷◌, ◌++◌, length, take, drop, Option, Some, None}
use Rattle.std.specs.Prelude.{◌==◌, codes, slice_set, position}
use Rattle.opcode_table.specs.declared.opcode.Opcode.{Opcode}
use Rattle.opcode_table.specs.declared.opcode.Opcode.TheVariants.{DataSetVariableTo, DataChangeVariableBy, DataShowVariable, DataHideVariable, DataAddToList, DataDeleteOfList, DataDeleteAllOfList, DataInsertAtList, DataReplaceItemOfList, DataShowList, DataHideList}
use Rattle.scratch_number.specs.Arithmetic.{add}
use Rattle.scratch_values.specs.Casts.{number}
use Rattle.scratch_values.specs.Named.{Arguments}
use Rattle.scratch_values.specs.declared.index.Index.{Index}
use Rattle.scratch_values.specs.declared.index.Index.TheVariants.{All, At, Invalid}
use Rattle.scratch_values.specs.declared.value.Value.{Value}
use Rattle.scratch_values.specs.declared.value.Value.TheVariants.{Number}
use Rattle.machine_spec.specs.Outcome.{IfGoes}
use Rattle.machine_spec.specs.Program.{Records}
use Rattle.machine_spec.specs.Random.{indexed}
use Rattle.machine_spec.specs.declared.instance.Instance.{Instance}
use Rattle.machine_spec.specs.declared.variables.Shown.{Shown}
use Rattle.machine_spec.specs.declared.variables.Shown.TheVariants as shown
use Rattle.machine_spec.specs.declared.variables.Store.{Store}
use Rattle.machine_spec.specs.Stores.{Variables, on_store, owner_of, index_of, value_of}
use Rattle.machine_spec.specs.Monitors.{is_some_same, what_shows, monitor_set_by}
use Rattle.machine_spec.specs.View.{Row, value_at, number_at}
use Rattle.machine_spec.specs.Parts.{DataParts}
use Rattle.machine_spec.specs.DataRows.{most_items, added, inserted, deleted, replaced, Named, variable_set, list_set, items_named, shown_as, monitored, at_index, data_by, named, data_row}
use Rattle.laws_of_threads.specs.Lists.{Each}
use Rattle.laws_of_threads.proofs.Numbers.{each_append}
use Rattle.laws_of_threads.proofs.RowFits.{goes_then, goes_any}
use Rattle.laws_of_turns.specs.Within.{IsValueWithin, IsStoreWithin}
use Rattle.laws_of_turns.proofs.Numbers.{add_within}
use Rattle.laws_of_turns.proofs.Lists.{each_set, each_take, each_drop, each_last, each_first_changed}
use Rattle.laws_of_turns.proofs.Values.{AreArgumentsWithin, value_at_within, items_of_within}
use Rattle.laws_of_turns.proofs.Rows.{IsRowWithin}

abbrev AreItemsWithin : List Value → Type 0
AreItemsWithin xs = Each IsValueWithin xs

abbrev pub IsDataWithin : DataParts → Type 0
IsDataWithin d = Each IsStoreWithin d.variables.stores

abbrev AreStoresWithin : Variables → Type 0
AreStoresWithin vs = Each IsStoreWithin vs.stores

-- Lists

added_within : (v : Value) (xs : List Value) → IsValueWithin v → AreItemsWithin xs → AreItemsWithin (added v xs)
added_within v xs g h = each_take IsValueWithin most_items (xs ++ v ∷ []) (each_last IsValueWithin xs v h g)

inserted_within : (i : Index) (v : Value) (xs : List Value) → IsValueWithin v → AreItemsWithin xs → AreItemsWithin (inserted i v xs)
inserted_within (At n) v xs g h = each_take IsValueWithin most_items (take (n - 1) xs ++ v ∷ drop (n - 1) xs)
    (each_append IsValueWithin (take (n - 1) xs) (v ∷ drop (n - 1) xs) (each_take IsValueWithin (n - 1) xs h) (g, each_drop IsValueWithin (n - 1) xs h))
inserted_within All v xs g h = h
inserted_within Invalid v xs g h = h

deleted_within : (i : Index) (xs : List Value) → AreItemsWithin xs → AreItemsWithin (deleted i xs)
deleted_within (At n) xs h = each_append IsValueWithin (take (n - 1) xs) (drop n xs) (each_take IsValueWithin (n - 1) xs h) (each_drop IsValueWithin n xs h)
deleted_within All xs h = tt
deleted_within Invalid xs h = h

replaced_within : (i : Index) (v : Value) (xs : List Value) → IsValueWithin v → AreItemsWithin xs → AreItemsWithin (replaced i v xs)
replaced_within (At n) v xs g h = each_set IsValueWithin xs (n - 1) v h g
replaced_within All v xs g h = h
replaced_within Invalid v xs g h = h

-- Stores

on_store_within : (n : ℕ) (f : Store → Store) (vs : Variables) → ((s : Store) → IsStoreWithin s → IsStoreWithin (f s)) → AreStoresWithin vs → AreStoresWithin (on_store n f vs)
on_store_within n f vs g h = each_first_changed IsStoreWithin f g (λ s. s.of == n) vs.stores h

set_within : (n : Named) (v : Value) (vs : Variables) → IsValueWithin v → AreStoresWithin vs → AreStoresWithin (variable_set n v vs)
set_within n v vs g h = on_store_within (owner_of n.ref n.here n.records) (λ s. record s { values = slice_set s.values (index_of n.ref) v }) vs
    (λ s k. record { values = each_set IsValueWithin s.values (index_of n.ref) v k.values g; lists = k.lists }) h

list_within : (n : Named) (xs : List Value) (vs : Variables) → AreItemsWithin xs → AreStoresWithin vs → AreStoresWithin (list_set n xs vs)
list_within n xs vs g h = on_store_within (owner_of n.ref n.here n.records) (λ s. record s { lists = slice_set s.lists (index_of n.ref) xs }) vs
    (λ s k. record { values = k.values; lists = each_set (Each IsValueWithin) s.lists (index_of n.ref) xs k.lists g }) h

monitor_within : (o : Option ℕ) (what : Shown) (visible : Bool) (vs : Variables) → AreStoresWithin vs → AreStoresWithin (monitor_set_by o what visible vs)
monitor_within None what visible vs h = h
monitor_within (Some k) what visible vs h = h

monitored_within : (n : Named) (what : Shown) (visible : Bool) (d : DataParts) → IsDataWithin d → IfGoes (monitored n what visible d) IsDataWithin
monitored_within n what visible d h = monitor_within (position (λ m. is_some_same what (what_shows n.records m)) n.records.monitors) what visible d.variables h

named_within : (n : Named) (d : DataParts) → IsDataWithin d → AreItemsWithin (items_named n d)
named_within n d h = items_of_within n.ref n.here n.records d.variables h

at_index_within : (n : Named) (v : Value) (all : Bool) (length : ℕ) (change : Index → List Value → List Value) (d : DataParts) → ((i : Index) (xs : List Value) → AreItemsWithin xs → AreItemsWithin (change i xs)) → IsDataWithin d
    → IfGoes (at_index n v all length change d) IsDataWithin
at_index_within n v all length change d g h = goes_any (indexed v length all d.words) _ IsDataWithin
    (λ i. list_within n (change i.value (items_named n d)) d.variables (g i.value (items_named n d) (named_within n d h)) h)

by_within : (v l : Named) (is : List Instance) (op : Opcode) (a : Arguments) (d : DataParts) → AreArgumentsWithin a → IsDataWithin d → IfGoes (data_by v l is op a d) IsDataWithin
by_within v l is DataSetVariableTo a d g h = set_within v (value_at (codes "VALUE") a) d.variables (value_at_within (codes "VALUE") a g) h
by_within v l is DataChangeVariableBy a d g h = set_within v (Number (add (number (value_of v.ref v.here v.records d.variables)) (number_at (codes "VALUE") a))) d.variables
    (add_within (number (value_of v.ref v.here v.records d.variables)) (number_at (codes "VALUE") a)) h
by_within v l is DataShowVariable a d g h = monitored_within v (shown_as shown.Variable v is) true d h
by_within v l is DataHideVariable a d g h = monitored_within v (shown_as shown.Variable v is) false d h
by_within v l is DataShowList a d g h = monitored_within l (shown_as shown.List l is) true d h
by_within v l is DataHideList a d g h = monitored_within l (shown_as shown.List l is) false d h
by_within v l is DataAddToList a d g h = list_within l (added (value_at (codes "ITEM") a) (items_named l d)) d.variables
    (added_within (value_at (codes "ITEM") a) (items_named l d) (value_at_within (codes "ITEM") a g) (named_within l d h)) h
by_within v l is DataDeleteAllOfList a d g h = list_within l [] d.variables tt h
by_within v l is DataDeleteOfList a d g h = at_index_within l (value_at (codes "INDEX") a) true (length (items_named l d)) deleted d deleted_within h
by_within v l is DataInsertAtList a d g h = at_index_within l (value_at (codes "INDEX") a) false (length (items_named l d) + 1) (λ i items. inserted i (value_at (codes "ITEM") a) items) d
    (λ i xs k. inserted_within i (value_at (codes "ITEM") a) xs (value_at_within (codes "ITEM") a g) k) h
by_within v l is DataReplaceItemOfList a d g h = at_index_within l (value_at (codes "INDEX") a) false (length (items_named l d)) (λ i items. replaced i (value_at (codes "ITEM") a) items) d
    (λ i xs k. replaced_within i (value_at (codes "ITEM") a) xs (value_at_within (codes "ITEM") a g) k) h
by_within v l is op a d g h = h

abbrev IsDataRow : Row DataParts → Type 0
IsDataRow x = IsRowWithin IsDataWithin x

pub data_row_within : (records : Records) (is : List Instance) (op : Opcode) (a : Arguments) (here : ℕ) (d : DataParts) → AreArgumentsWithin a → IsDataWithin d → IfGoes (data_row records is op a here d) IsDataRow
data_row_within records is op a here d g h =
    goes_then (data_by (named (codes "VARIABLE") a here records) (named (codes "LIST") a here records) is op a d) _ IsDataWithin IsDataRow
    (by_within (named (codes "VARIABLE") a here records) (named (codes "LIST") a here records) is op a d g h)
    (λ e k. record { parts = k; context = tt; control = tt })
