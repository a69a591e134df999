-- Who has no variables before a block of data has none behind it.
use Rattle.std.proofs.Common.{◌≡◌, ℕ, zero, suc, Bool, true, false, List, [], ◌∷◌, Option, Some, None, refl, ◌∙◌, subst}
use Rattle.std.specs.Prelude.{◌==◌, ◌+◌, length, codes, slice_get, slice_set}
use Rattle.std.specs.List.{position, find}
use Rattle.opcode_table.specs.declared.opcode.Opcode.{Opcode}
use Rattle.opcode_table.specs.declared.opcode.Opcode.TheVariants.{DataSetVariableTo, DataChangeVariableBy, DataShowVariable, DataHideVariable, DataAddToList, DataDeleteOfList, DataDeleteAllOfList, DataInsertAtList, DataReplaceItemOfList, DataShowList, DataHideList}
use Rattle.scratch_values.specs.Named.{Arguments}
use Rattle.scratch_values.specs.declared.index.Index.{Index}
use Rattle.scratch_values.specs.declared.value.Value.{Value}
use Rattle.scratch_values.specs.declared.value.Value.TheVariants.{Number}
use Rattle.scratch_number.specs.Arithmetic.{add}
use Rattle.scratch_values.specs.Casts.{number}
use Rattle.machine_spec.specs.DataRows.{Named, added, inserted, deleted, replaced, value_set, items_set, shown_as, data_by, data_row, named, at_index, with_list, items_named}
use Rattle.machine_spec.specs.Lists.{set_some, changed_at_some}
use Rattle.machine_spec.specs.Monitors.{what_shows, is_some_same, monitor_set_by, monitor_set}
use Rattle.machine_spec.specs.Outcome.{Outcome, Goes, Full, TooLong, Spent, then_do, IfGoes}
use Rattle.machine_spec.specs.Parts.{DataParts}
use Rattle.machine_spec.specs.Program.{Records}
use Rattle.machine_spec.specs.Random.{indexed}
use Rattle.machine_spec.specs.Stores.{Variables, on_store, owner_of, index_of, value_of}
use Rattle.machine_spec.specs.declared.instance.Instance.{Instance}
use Rattle.machine_spec.specs.declared.threads.Context.TheVariants.{Fresh}
use Rattle.machine_spec.specs.declared.threads.Control.TheVariants.{Next}
use Rattle.machine_spec.specs.declared.variables.Shown.{Shown}
use Rattle.machine_spec.specs.View.{Row, value_at, number_at}
use Rattle.machine_spec.specs.declared.variables.Shown.TheVariants as shown
use Rattle.machine_spec.specs.declared.variables.Store.{Store}
use Rattle.variables.specs.Held.{HasNoStore}
use Rattle.executions.proofs.People.{none_there, none_behind}

-- one element is changed

set_none : {A : Type 0} (p : A → Bool) (xs : List A) (k : ℕ) (y : A) → find p xs ≡ None → p y ≡ false → find p (slice_set xs k y) ≡ None
set_none p [] k y e h = e
set_none p (x ∷ xs) zero y e h = none_behind (p y) y (find p xs) h (none_there (p x) x (find p xs) e).1
set_none p (x ∷ xs) (suc k) y e h =
    let g = none_there (p x) x (find p xs) e in
    none_behind (p x) x (find p (slice_set xs k y)) g.0 (set_none p xs k y g.1 h)

get_none : {A : Type 0} (p : A → Bool) (xs : List A) (k : ℕ) (x : A) → find p xs ≡ None → slice_get xs k ≡ Some x → p x ≡ false
get_none p [] k x e h = absurd (cc h)
get_none p (z ∷ xs) zero x e h = let same : z ≡ x = cc h in subst (λ y. p y ≡ false) same (none_there (p z) z (find p xs) e).0
get_none p (z ∷ xs) (suc k) x e h = get_none p xs k x (none_there (p z) z (find p xs) e).1 h

module _ (n of : ℕ) (f : Store → Store) (keeps : (s : Store) → ((f s).of == n) ≡ (s.of == n)) where
  changed_none : (o : Option ℕ) (ss : List Store) → find (λ s. s.of == n) ss ≡ None → find (λ s. s.of == n) (changed_at_some f o ss) ≡ None
  changed_none None ss e = e
  changed_none (Some k) ss e = by (slice_get ss k) refl
    where
      by : (o : Option Store) → slice_get ss k ≡ o → find (λ s. s.of == n) (set_some o f k ss) ≡ None
      by None h = e
      by (Some s) h = set_none (λ s. s.of == n) ss k (f s) e (keeps s ∙ get_none (λ s. s.of == n) ss k s e h)

  store_none : (vs : Variables) → HasNoStore n vs → HasNoStore n (on_store of f vs)
  store_none vs e = changed_none (position (λ s. s.of == of) vs.stores) vs.stores e

then_all : {A B : Type 0} (o : Outcome A) (m : A → Outcome B) (P : B → Type 0) → ((x : A) → IfGoes (m x) P) → IfGoes (then_do o m) P
then_all (Goes x) m P h = h x
then_all Full m P h = tt
then_all (TooLong n) m P h = tt
then_all (Spent which) m P h = tt

-- Blocks of data

module _ (n : ℕ) where
  abbrev Unheld : DataParts → Type 0
  Unheld d = HasNoStore n d.variables

  value_none : (of k : ℕ) (v : Value) (vs : Variables) → HasNoStore n vs → HasNoStore n (value_set of k v vs)
  value_none of k v vs e = store_none n of (λ s. record s { values = slice_set s.values k v }) (λ s. refl) vs e

  items_none : (of k : ℕ) (items : List Value) (vs : Variables) → HasNoStore n vs → HasNoStore n (items_set of k items vs)
  items_none of k items vs e = store_none n of (λ s. record s { lists = slice_set s.lists k items }) (λ s. refl) vs e

  monitor_by : (o : Option ℕ) (what : Shown) (visible : Bool) (vs : Variables) → HasNoStore n vs → HasNoStore n (monitor_set_by o what visible vs)
  monitor_by None what visible vs e = e
  monitor_by (Some k) what visible vs e = e

  monitor_none : (records : Records) (what : Shown) (visible : Bool) (vs : Variables) → HasNoStore n vs → HasNoStore n (monitor_set records what visible vs)
  monitor_none records what visible vs e = monitor_by (position (λ m. is_some_same what (what_shows records m)) records.monitors) what visible vs e

  index_none : (l : Named) (v : Value) (all : Bool) (length : ℕ) (change : Index → List Value → List Value) (d : DataParts) → Unheld d → IfGoes (at_index l v all length change d) Unheld
  index_none l v all length change d e =
      then_all (indexed v length all d.words) (λ i. with_list l (change i.value (items_named l d)) (record d { words = i.words })) Unheld
      (λ i. items_none (owner_of l.ref l.here l.records) (index_of l.ref) (change i.value (items_named l d)) d.variables e)

  data_by_none : (v l : Named) (is : List Instance) (op : Opcode) (a : Arguments) (d : DataParts) → Unheld d → IfGoes (data_by v l is op a d) Unheld
  data_by_none v l is DataSetVariableTo a d e = value_none (owner_of v.ref v.here v.records) (index_of v.ref) (value_at (codes "VALUE") a) d.variables e
  data_by_none v l is DataChangeVariableBy a d e =
      value_none (owner_of v.ref v.here v.records) (index_of v.ref) (Number (add (number (value_of v.ref v.here v.records d.variables)) (number_at (codes "VALUE") a))) d.variables e
  data_by_none v l is DataShowVariable a d e = monitor_none v.records (shown_as shown.Variable v is) true d.variables e
  data_by_none v l is DataHideVariable a d e = monitor_none v.records (shown_as shown.Variable v is) false d.variables e
  data_by_none v l is DataShowList a d e = monitor_none l.records (shown_as shown.List l is) true d.variables e
  data_by_none v l is DataHideList a d e = monitor_none l.records (shown_as shown.List l is) false d.variables e
  data_by_none v l is DataAddToList a d e = items_none (owner_of l.ref l.here l.records) (index_of l.ref) (added (value_at (codes "ITEM") a) (items_named l d)) d.variables e
  data_by_none v l is DataDeleteAllOfList a d e = items_none (owner_of l.ref l.here l.records) (index_of l.ref) [] d.variables e
  data_by_none v l is DataDeleteOfList a d e = index_none l (value_at (codes "INDEX") a) true (length (items_named l d)) deleted d e
  data_by_none v l is DataInsertAtList a d e = index_none l (value_at (codes "INDEX") a) false (length (items_named l d) + 1) (λ i items. inserted i (value_at (codes "ITEM") a) items) d e
  data_by_none v l is DataReplaceItemOfList a d e = index_none l (value_at (codes "INDEX") a) false (length (items_named l d)) (λ i items. replaced i (value_at (codes "ITEM") a) items) d e
  data_by_none v l is op a d e = e

  row_none : (o : Outcome DataParts) (x : Row DataParts) → IfGoes o Unheld → then_do o (λ e. Goes (record { parts = e; context = Fresh; control = Next; redraw = false })) ≡ Goes x → Unheld x.parts
  row_none (Goes d) x h e = let same : record { parts = d; context = Fresh; control = Next; redraw = false } ≡ x = cc e in subst (λ (y : Row DataParts). Unheld y.parts) same h
  row_none Full x h e = absurd (cc e)
  row_none (TooLong k) x h e = absurd (cc e)
  row_none (Spent which) x h e = absurd (cc e)

  pub data_none : (records : Records) (is : List Instance) (op : Opcode) (a : Arguments) (here : ℕ) (d : DataParts) (x : Row DataParts) → data_row records is op a here d ≡ Goes x → Unheld d → Unheld x.parts
  data_none records is op a here d x goes e =
      let v = named (codes "VARIABLE") a here records in
      let l = named (codes "LIST") a here records in
      row_none (data_by v l is op a d) x (data_by_none v l is op a d e) goes
