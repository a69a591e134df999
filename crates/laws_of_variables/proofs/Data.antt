-- Data blocks keep variables, lists and monitors legal.
use Rattle.std.proofs.Common.{◌≡◌, ℕ, zero, suc, ◌+◌, ◌-◌, ◌==◌, Bool, true, false, cond, List, [], ◌∷◌, ◌++◌, map, take, drop, length, codes, position, Option, Some, None, refl, sym, ap, ◌∙◌, subst, arith}
use Rattle.std.specs.Prelude.{◌≤◌, find, slice_get, slice_set, unwrap_or}
use Rattle.std.proofs.lemmas.List.{length-set, length-take, length-append, length-drop}
use Rattle.opcode_table.specs.declared.opcode.Opcode.{Opcode}
use Rattle.opcode_table.specs.declared.opcode.Opcode.TheVariants.{DataSetVariableTo, DataChangeVariableBy, DataShowVariable, DataHideVariable, DataAddToList, DataDeleteOfList, DataDeleteAllOfList, DataInsertAtList, DataReplaceItemOfList, DataShowList, DataHideList}
use Rattle.scratch_number.specs.Arithmetic.{add}
use Rattle.scratch_values.specs.Casts.{number}
use Rattle.scratch_values.specs.Named.{Arguments}
use Rattle.scratch_values.specs.declared.index.Index.{Index}
use Rattle.scratch_values.specs.declared.index.Index.TheVariants.{All, At, Invalid}
use Rattle.scratch_values.specs.declared.names.VarRef.{VarRef}
use Rattle.scratch_values.specs.declared.names.VarRef.TheVariants.{Own, Stage}
use Rattle.scratch_values.specs.declared.value.Value.{Value}
use Rattle.scratch_values.specs.declared.value.Value.TheVariants.{Number}
use Rattle.machine_spec.specs.declared.instance.Instance.{Instance}
use Rattle.machine_spec.specs.declared.variables.Made.{Made}
use Rattle.machine_spec.specs.declared.variables.Shown.{Shown}
use Rattle.machine_spec.specs.declared.variables.Shown.TheVariants as shown
use Rattle.machine_spec.specs.declared.variables.Store.{Store}
use Rattle.machine_spec.specs.DataRows.{most_items, added, inserted, deleted, replaced, value_set, items_set, Named, items_named, shown_as, at_index, data_by, named, data_row}
use Rattle.machine_spec.specs.Lists.{set_some, changed_at_some, first_changed}
use Rattle.machine_spec.specs.Monitors.{is_same, is_some_same, what_shows, made_set, monitor_set_by, monitor_set}
use Rattle.machine_spec.specs.Outcome.{IfGoes}
use Rattle.machine_spec.specs.Parts.{DataParts}
use Rattle.machine_spec.specs.Program.{Program, stage_number}
use Rattle.machine_spec.specs.Random.{indexed}
use Rattle.machine_spec.specs.Stores.{Variables, store_at, on_store, items_in, instance_at, value_of, owner_of, index_of}
use Rattle.machine_spec.specs.View.{value_at, number_at, variable_at}
use Rattle.laws_of_threads.specs.Instances.{Hosts, Inhabited}
use Rattle.laws_of_threads.specs.Lists.{Each, Member, Rise}
use Rattle.laws_of_threads.specs.Playable.{HasStage, NamesVariable, NamesList, ShowsNamed}
use Rattle.laws_of_threads.proofs.Numbers.{each_map, each_append}
use Rattle.laws_of_threads.proofs.RowFits.{goes_then, goes_any}
use Rattle.laws_of_variables.specs.Variables.{IsStoreOf, IsThere, IsLegalStores}
use Rattle.laws_of_variables.proofs.Numbered.{each_set, each_changed, each_changed_at}
use Rattle.laws_of_variables.proofs.Carried.{Short, empty_store, short_at, instance_is}

-- Stores of one shape

pub record Shape (s t : Store) : Type 0 where
  pub of : t.of ≡ s.of
  pub values : length t.values ≡ length s.values
  pub lists : length t.lists ≡ length s.lists

same_shape : (s : Store) → Shape s s
same_shape s = record { of = refl; values = refl; lists = refl }

abbrev Shapes : List Store → List Store → Type 0
Shapes [] [] = Unit {0}
Shapes [] (y ∷ ys) = ⊥
Shapes (x ∷ xs) [] = ⊥
Shapes (x ∷ xs) (y ∷ ys) = Shape x y × Shapes xs ys

same_shapes : (xs : List Store) → Shapes xs xs
same_shapes [] = tt
same_shapes (x ∷ xs) = (same_shape x, same_shapes xs)

same_some : (a b : Store) → Some a ≡ Some b → a ≡ b
same_some a b h = cc

module _ (f : Store → Store) (shape : (s : Store) → Shape s (f s)) where
  shapes_set : (xs : List Store) (k : ℕ) (x : Store) → slice_get xs k ≡ Some x → Shapes xs (slice_set xs k (f x))
  shapes_set [] k x e = absurd (cc e)
  shapes_set (y ∷ ys) zero x e = (subst (λ z. Shape z (f x)) (sym (same_some y x e)) (shape x), same_shapes ys)
  shapes_set (y ∷ ys) (suc k) x e = (same_shape y, shapes_set ys k x e)

  shapes_some : (o : Option Store) (k : ℕ) (xs : List Store) → slice_get xs k ≡ o → Shapes xs (set_some o f k xs)
  shapes_some None k xs e = same_shapes xs
  shapes_some (Some x) k xs e = shapes_set xs k x e

  shapes_at : (o : Option ℕ) (xs : List Store) → Shapes xs (changed_at_some f o xs)
  shapes_at None xs = same_shapes xs
  shapes_at (Some k) xs = shapes_some (slice_get xs k) k xs refl

  shapes_changed : (test : Store → Bool) (xs : List Store) → Shapes xs (first_changed test f xs)
  shapes_changed test xs = shapes_at (position test xs) xs

shapes_numbers : (xs ys : List Store) → Shapes xs ys → map (λ s. s.of) ys ≡ map (λ s. s.of) xs
shapes_numbers [] [] h = refl
shapes_numbers [] (y ∷ ys) h = absurd h
shapes_numbers (x ∷ xs) [] h = absurd h
shapes_numbers (x ∷ xs) (y ∷ ys) h = ap (λ n. n ∷ map (λ s. s.of) ys) h.0.of ∙ ap (λ l. x.of ∷ l) (shapes_numbers xs ys h.1)

shape_by : (b c : Bool) (n : ℕ) (x y : Store) (o q : Option Store) → b ≡ c → Shape x y → Shape (unwrap_or o (empty_store n)) (unwrap_or q (empty_store n))
    → Shape (unwrap_or (cond b (Some x) o) (empty_store n)) (unwrap_or (cond c (Some y) q) (empty_store n))
shape_by true true n x y o q e h g = h
shape_by true false n x y o q e h g = absurd (cc e)
shape_by false true n x y o q e h g = absurd (cc e)
shape_by false false n x y o q e h g = g

shape_found : (n : ℕ) (xs ys : List Store) → Shapes xs ys → Shape (store_at n xs) (store_at n ys)
shape_found n [] [] h = same_shape (empty_store n)
shape_found n [] (y ∷ ys) h = absurd h
shape_found n (x ∷ xs) [] h = absurd h
shape_found n (x ∷ xs) (y ∷ ys) h =
    shape_by (x.of == n) (y.of == n) n x y (find (λ s. s.of == n) xs) (find (λ s. s.of == n) ys) (ap (λ m. m == n) (sym h.0.of)) h.0 (shape_found n xs ys h.1)

-- Items

take_most : {A : Type 0} (n : ℕ) (xs : List A) → length (take n xs) ≤ n
take_most n xs = omega (arith, length-take n xs)

fewer_deleted : {A : Type 0} (n : ℕ) (xs : List A) → length (take (n - 1) xs ++ drop n xs) ≤ length xs
fewer_deleted n xs = omega (arith, length-append (take (n - 1) xs) (drop n xs), length-take (n - 1) xs, length-drop n xs)

-- so many items at most
abbrev IsShort : List Value → Type 0
IsShort items = length items ≤ most_items

added_short : (v : Value) (items : List Value) → IsShort (added v items)
added_short v items = take_most most_items (items ++ v ∷ [])

inserted_short : (i : Index) (v : Value) (items : List Value) → IsShort items → IsShort (inserted i v items)
inserted_short (At n) v items h = take_most most_items (take (n - 1) items ++ v ∷ drop (n - 1) items)
inserted_short All v items h = h
inserted_short Invalid v items h = h

le_then : (a b c : ℕ) → a ≤ b → b ≤ c → a ≤ c
le_then a b c h g = omega (arith, h, g)

nothing_short : (n : ℕ) → length {A = Value} [] ≤ n
nothing_short n = omega arith

deleted_short : (i : Index) (items : List Value) → IsShort items → IsShort (deleted i items)
deleted_short (At n) items h = le_then (length (take (n - 1) items ++ drop n items)) (length items) most_items (fewer_deleted n items) h
deleted_short All items h = nothing_short most_items
deleted_short Invalid items h = h

replaced_short : (i : Index) (v : Value) (items : List Value) → IsShort items → IsShort (replaced i v items)
replaced_short (At n) v items h = subst (λ k. k ≤ most_items) (sym (length-set items (n - 1) v)) h
replaced_short All v items h = h
replaced_short Invalid v items h = h

got_short : (k : ℕ) (ls : List (List Value)) → Each IsShort ls → IsShort (unwrap_or (slice_get ls k) [])
got_short k [] h = nothing_short most_items
got_short zero (l ∷ ls) h = h.0
got_short (suc k) (l ∷ ls) h = got_short k ls h.1

module _ (p : Program) (is : List Instance) where
  store_legal : (n : ℕ) (f : Store → Store) (vs : Variables) → ((s : Store) → Shape s (f s)) → ((s : Store) → Short s → Short (f s)) → IsLegalStores p is vs → IsLegalStores p is (on_store n f vs)
  store_legal n f vs shape short h =
      let ys = first_changed (λ s. s.of == n) f vs.stores in
      let shapes = shapes_changed f shape (λ s. s.of == n) vs.stores in
      let numbers = shapes_numbers vs.stores ys shapes in
      record {
        rising = subst Rise (sym numbers) h.rising;
        same = λ m. ((λ g. (h.same m).0 (subst (λ l. Member m l) numbers g)), (λ g. subst (λ l. Member m l) (sym numbers) ((h.same m).1 g)));
        stores = each_map (λ i. IsStoreOf p.records i (store_at i.number vs.stores)) (λ i. IsStoreOf p.records i (store_at i.number ys)) is
            (λ i g. let s = shape_found i.number vs.stores ys shapes in record { values = s.values ∙ g.values; lists = s.lists ∙ g.lists }) h.stores;
        short = each_changed Short f short (λ s. s.of == n) vs.stores h.short;
        monitors = h.monitors;
        made = h.made;
      }

  value_legal : (n k : ℕ) (v : Value) (vs : Variables) → IsLegalStores p is vs → IsLegalStores p is (value_set n k v vs)
  value_legal n k v vs h = store_legal n (λ s. record s { values = slice_set s.values k v }) vs (λ s. record { of = refl; values = length-set s.values k v; lists = refl }) (λ s g. g) h

  items_legal : (n k : ℕ) (items : List Value) (vs : Variables) → IsShort items → IsLegalStores p is vs → IsLegalStores p is (items_set n k items vs)
  items_legal n k items vs short h = store_legal n (λ s. record s { lists = slice_set s.lists k items }) vs
      (λ s. record { of = refl; values = refl; lists = length-set s.lists k items }) (λ s g. each_set IsShort s.lists k items short g) h

  items_short : (n k : ℕ) (vs : Variables) → IsLegalStores p is vs → IsShort (items_in n k vs)
  items_short n k vs h = got_short k (store_at n vs.stores).lists (short_at n vs.stores h.short)

  -- Monitors

  abbrev IsMadeThere : Made → Type 0
  IsMadeThere m = IsThere p.records m.what

  made_legal : (o : Option ℕ) (what : Shown) (visible : Bool) (ms : List Made) → IsThere p.records what → Each IsMadeThere ms → Each IsMadeThere (made_set o what visible ms)
  made_legal (Some k) what visible ms there h = each_changed_at IsMadeThere (λ m. record m { visible = visible }) (λ m g. g) k ms h
  made_legal None what true ms there h = each_append IsMadeThere ms (record { what = what; visible = true } ∷ []) h (there, tt)
  made_legal None what false ms there h = h

  monitor_by : (o : Option ℕ) (what : Shown) (visible : Bool) (vs : Variables) → IsThere p.records what → IsLegalStores p is vs → IsLegalStores p is (monitor_set_by o what visible vs)
  monitor_by (Some k) what visible vs there h = record { rising = h.rising; same = h.same; stores = h.stores; short = h.short; monitors = length-set vs.file_monitors k visible ∙ h.monitors; made = h.made }
  monitor_by None what visible vs there h = record {
    rising = h.rising;
    same = h.same;
    stores = h.stores;
    short = h.short;
    monitors = h.monitors;
    made = made_legal (position (λ m. is_same m.what what) vs.made) what visible vs.made there h.made;
  }

  monitor_legal : (what : Shown) (visible : Bool) (vs : Variables) → IsThere p.records what → IsLegalStores p is vs → IsLegalStores p is (monitor_set p.records what visible vs)
  monitor_legal what visible vs there h = monitor_by (position (λ m. is_some_same what (what_shows p.records m)) p.records.monitors) what visible vs there h

  -- What a block of a live instance names

  module _ (here target next : ℕ) (stage : HasStage p.records) (hosted : Hosts here target is) (inhabited : Inhabited p.records next is) where
    its_target : (instance_at here is).of ≡ target
    its_target = instance_is here target is inhabited.differ hosted

    the_stage : (instance_at (stage_number p.records) is).of ≡ stage_number p.records
    the_stage = instance_is (stage_number p.records) (stage_number p.records) is inhabited.differ (inhabited.originals (stage_number p.records) stage.there)

    abbrev it : VarRef → Named
    it ref = record { ref = ref; here = here; records = p.records }

    variable_there : (ref : VarRef) → NamesVariable p.records target ref → IsThere p.records (shown_as shown.Variable (it ref) is)
    variable_there (Own j) h = subst (λ k. IsThere p.records (shown.Variable k j)) (sym its_target) h
    variable_there (Stage j) h = subst (λ k. IsThere p.records (shown.Variable k j)) (sym the_stage) h

    list_there : (ref : VarRef) → NamesList p.records target ref → IsThere p.records (shown_as shown.List (it ref) is)
    list_there (Own j) h = subst (λ k. IsThere p.records (shown.List k j)) (sym its_target) h
    list_there (Stage j) h = subst (λ k. IsThere p.records (shown.List k j)) (sym the_stage) h

    abbrev PartsLegal : DataParts → Type 0
    PartsLegal d = IsLegalStores p is d.variables

    list_legal : (ref : VarRef) (items : List Value) (d : DataParts) → IsShort items → PartsLegal d → IsLegalStores p is (items_set (owner_of ref here p.records) (index_of ref) items d.variables)
    list_legal ref items d short h = items_legal (owner_of ref here p.records) (index_of ref) items d.variables short h

    named_short : (ref : VarRef) (d : DataParts) → PartsLegal d → IsShort (items_named (it ref) d)
    named_short ref d h = items_short (owner_of ref here p.records) (index_of ref) d.variables h

    index_legal : (ref : VarRef) (v : Value) (all : Bool) (n : ℕ) (change : Index → List Value → List Value) (d : DataParts) → ((i : Index) (items : List Value) → IsShort items → IsShort (change i items)) → PartsLegal d
        → IfGoes (at_index (it ref) v all n change d) PartsLegal
    index_legal ref v all n change d short h = goes_any (indexed v n all d.words) _ PartsLegal
        (λ i. list_legal ref (change i.value (items_named (it ref) d)) (record d { words = i.words }) (short i.value (items_named (it ref) d) (named_short ref d h)) h)

    data_legal : (v l : VarRef) (op : Opcode) (a : Arguments) (d : DataParts) → ShowsNamed p.records target op (λ name. variable_at name a) → v ≡ variable_at (codes "VARIABLE") a → l ≡ variable_at (codes "LIST") a → PartsLegal d
        → IfGoes (data_by (it v) (it l) is op a d) PartsLegal
    data_legal v l DataSetVariableTo a d names ve le h = value_legal (owner_of v here p.records) (index_of v) (value_at (codes "VALUE") a) d.variables h
    data_legal v l DataChangeVariableBy a d names ve le h =
        value_legal (owner_of v here p.records) (index_of v) (Number (add (number (value_of v here p.records d.variables)) (number_at (codes "VALUE") a))) d.variables h
    data_legal v l DataShowVariable a d names ve le h = monitor_legal (shown_as shown.Variable (it v) is) true d.variables (variable_there v (subst (NamesVariable p.records target) (sym ve) names)) h
    data_legal v l DataHideVariable a d names ve le h = monitor_legal (shown_as shown.Variable (it v) is) false d.variables (variable_there v (subst (NamesVariable p.records target) (sym ve) names)) h
    data_legal v l DataShowList a d names ve le h = monitor_legal (shown_as shown.List (it l) is) true d.variables (list_there l (subst (NamesList p.records target) (sym le) names)) h
    data_legal v l DataHideList a d names ve le h = monitor_legal (shown_as shown.List (it l) is) false d.variables (list_there l (subst (NamesList p.records target) (sym le) names)) h
    data_legal v l DataAddToList a d names ve le h = list_legal l (added (value_at (codes "ITEM") a) (items_named (it l) d)) d (added_short (value_at (codes "ITEM") a) (items_named (it l) d)) h
    data_legal v l DataDeleteAllOfList a d names ve le h = list_legal l [] d (nothing_short most_items) h
    data_legal v l DataDeleteOfList a d names ve le h = index_legal l (value_at (codes "INDEX") a) true (length (items_named (it l) d)) deleted d deleted_short h
    data_legal v l DataInsertAtList a d names ve le h = index_legal l (value_at (codes "INDEX") a) false (length (items_named (it l) d) + 1) (λ i items. inserted i (value_at (codes "ITEM") a) items) d
        (λ i items g. inserted_short i (value_at (codes "ITEM") a) items g) h
    data_legal v l DataReplaceItemOfList a d names ve le h = index_legal l (value_at (codes "INDEX") a) false (length (items_named (it l) d)) (λ i items. replaced i (value_at (codes "ITEM") a) items) d
        (λ i items g. replaced_short i (value_at (codes "ITEM") a) items g) h
    data_legal v l _ a d names ve le h = h

    pub row_legal : (op : Opcode) (a : Arguments) (d : DataParts) → ShowsNamed p.records target op (λ name. variable_at name a) → PartsLegal d → IfGoes (data_row p.records is op a here d) (λ r. PartsLegal r.parts)
    row_legal op a d names h = goes_then (data_by (named (codes "VARIABLE") a here p.records) (named (codes "LIST") a here p.records) is op a d) _ PartsLegal (λ r. PartsLegal r.parts)
        (data_legal (variable_at (codes "VARIABLE") a) (variable_at (codes "LIST") a) op a d names refl refl h) (λ e g. g)
