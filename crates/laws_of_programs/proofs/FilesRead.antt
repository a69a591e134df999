-- What the records and blocks of an accepted file have.
use Rattle.std.proofs.Common.{◌≡◌, ℕ, ◌+◌, ◌<◌, ◌≤◌, ◌^◌, Bool, true, false, cond, List, [], ◌∷◌, ◌++◌, length, refl, arith}
use Rattle.std.specs.Prelude.{codes, flat_map, find, None, Some}
use Rattle.std.specs.Option.{option_map}
use Rattle.std.specs.List.{enumerate_from}
use Rattle.std.proofs.lemmas.Bool.{ltb-false}
use Rattle.project_json.specs.Tree.{Tree}
use Rattle.project_json.specs.Text.{max_depth}
use Rattle.json_shapes.specs.Places.{path}
use Rattle.json_shapes.specs.Shapes as shape
use Rattle.json_shapes.specs.Shapes.{◌>>=◌}
use Rattle.machine_spec.specs.DataRows.{most_items}
use Rattle.machine_spec.specs.declared.records.ListRecord.{ListRecord}
use Rattle.machine_spec.specs.declared.records.TargetRecord.{TargetRecord}
use Rattle.project_spec.specs.Targets.{target_of, monitor_of}
use Rattle.project_spec.specs.Reading.{File, table_in, file_by, file_of}
use Rattle.project_spec.specs.Refusals.{IsAccepted, stage_count}
use Rattle.project_spec.specs.Limits.{Measure, measures, is_too_many, first_too_many, too_many, target_measures, target_place, list_measures, variable_measures, id_or_none, counts_from, table_measures, blocks_place, costume_measures}
use Rattle.laws_of_threads.specs.Lists.{Each}
use Rattle.laws_of_threads.proofs.Numbers.{each_map}
use Rattle.laws_of_programs.proofs.Readers.{Gives, given_is, goes_on, goes_any, required_gives, each_gives}
use Rattle.laws_of_programs.proofs.TreesTold.{IsTold, text_told, items_told, members_told}
use Rattle.laws_of_programs.proofs.TargetsRead.{IsRead, target_read}
use Rattle.laws_of_programs.proofs.BlocksRead.{IsTableWithin, table_within}

-- What is not too many

IsFew : Measure → Type 0
IsFew m = m.count ≤ m.most

few_by : (c : Bool) (m : Measure) (ms : List Measure) → is_too_many m ≡ c → option_map (λ (x : Measure). path x.at) (cond c (Some m) (find is_too_many ms)) ≡ None → IsFew m × (first_too_many ms ≡ None)
unfolding IsFew
few_by true m ms e h = absurd (cc h)
few_by false m ms e h = (ltb-false m.most m.count e, h)

each_few : (ms : List Measure) → first_too_many ms ≡ None → Each IsFew ms
each_few [] h = tt
each_few (m ∷ ms) h = let r = few_by (is_too_many m) m ms refl h in (r.0, each_few ms r.1)

each_front : {A : Type 0} (P : A → Type 0) (xs ys : List A) → Each P (xs ++ ys) → Each P xs × Each P ys
each_front P [] ys h = (tt, h)
each_front P (x ∷ xs) ys h = let r = each_front P xs ys h.1 in ((h.0, r.0), r.1)

each_flat : {A B : Type 0} (P : B → Type 0) (f : A → List B) (xs : List A) → Each P (flat_map f xs) → Each (λ x. Each P (f x)) xs
each_flat P f [] h = tt
each_flat P f (x ∷ xs) h = let r = each_front P (f x) (flat_map f xs) h in (r.0, each_flat P f xs r.1)

each_numbered : {A : Type 0} (P : ℕ × A → Type 0) (Q : A → Type 0) (i : ℕ) (xs : List A) → ((k : ℕ) (x : A) → P (k, x) → Q x) → Each P (enumerate_from i xs) → Each Q xs
each_numbered P Q i [] f h = tt
each_numbered P Q i (x ∷ xs) f h = (f i x h.0, each_numbered P Q (i + 1) xs f h.1)

abbrev pub IsShortList : ListRecord → Type 0
IsShortList l = length l.items ≤ most_items

abbrev pub HasShortLists : TargetRecord → Type 0
HasShortLists t = Each IsShortList t.lists

short_lists : (at : List (List ℕ)) (t : TargetRecord) → Each IsFew (target_measures at t) → HasShortLists t
unfolding IsFew
short_lists at t h =
    let vs = flat_map (λ v. variable_measures (codes "variables" ∷ at) (id_or_none v.name.id, v)) t.variables in
    let ls = flat_map (λ l. list_measures (codes "lists" ∷ at) (id_or_none l.name.id, l)) t.lists in
    let cs = flat_map (costume_measures (codes "costumes" ∷ at)) (enumerate_from 0 t.costumes) in
    let a = each_front IsFew vs (ls ++ cs) h in
    let b = each_front IsFew ls cs a.1 in
    let c = each_flat IsFew (λ l. list_measures (codes "lists" ∷ at) (id_or_none l.name.id, l)) t.lists b.0 in
    each_map (λ l. Each IsFew (list_measures (codes "lists" ∷ at) (id_or_none l.name.id, l))) IsShortList t.lists (λ l k. k.0) c

record Counted (f : File) : Type 0 where
  few : length f.records.targets ≤ 1000
  lists : Each HasShortLists f.records.targets

counted : (f : File) → too_many f ≡ None → Counted f
unfolding IsFew
counted f e =
    let all = each_few (measures f) e in
    let cs = counts_from 0 (enumerate_from 0 f.tables) in
    let ts = flat_map (λ x. target_measures (target_place x.0) x.1) (enumerate_from 0 f.records.targets) in
    let bs = flat_map (λ x. table_measures (blocks_place x.0) x.1) (enumerate_from 0 f.tables) in
    let a = each_front IsFew cs (ts ++ bs) all.1.1 in
    let b = each_front IsFew ts bs a.1 in
    let c = each_flat IsFew (λ x. target_measures (target_place x.0) x.1) (enumerate_from 0 f.records.targets) b.0 in
    record { few = all.0; lists = each_numbered (λ x. Each IsFew (target_measures (target_place x.0) x.1)) HasShortLists 0 f.records.targets (λ k t h. short_lists (target_place k) t h) c }

-- What is read

record IsReadFile (f : File) : Type 0 where
  targets : Each IsRead f.records.targets
  tables : Each IsTableWithin f.tables
  same : length f.tables ≡ length f.records.targets

by_members : (at : List (List ℕ)) (ts : List Tree) (ms : List (List ℕ × Tree)) → Each (IsTold (2 ^ 32)) ts → Gives IsReadFile (file_by ts at ms)
by_members at ts ms h =
    goes_on (λ rs. Each IsRead rs × (length rs ≡ length ts)) IsReadFile (shape.each target_of (codes "targets" ∷ at) ts) _ (each_gives (IsTold (2 ^ 32)) IsRead target_of target_read (codes "targets" ∷ at) ts h) (λ targets a.
    goes_any IsReadFile (shape.defaulted shape.items [] (codes "monitors") at ms >>= shape.each monitor_of (codes "monitors" ∷ at)) _ (λ monitors.
    goes_on (λ bs. Each IsTableWithin bs × (length bs ≡ length ts)) IsReadFile (shape.each table_in (codes "targets" ∷ at) ts) _ (each_gives (IsTold (2 ^ 32)) IsTableWithin table_in (λ place t k. table_within place t) (codes "targets" ∷ at) ts h) (λ tables b.
    record { targets = a.0; tables = b.0; same = omega arith })))

file_read : (t : Tree) → IsTold (2 ^ 32) t → Gives IsReadFile (file_of t)
file_read t h =
    goes_on (Each (λ m. IsTold (2 ^ 32) m.1)) IsReadFile (shape.members [] t) _ (members_told (2 ^ 32) [] t h) (λ ms k.
    goes_on (λ ts. Each (IsTold (2 ^ 32)) ts × (length ts < 2 ^ 32)) IsReadFile (shape.required shape.items (codes "targets") [] ms) _ (required_gives (IsTold (2 ^ 32)) (λ ts. Each (IsTold (2 ^ 32)) ts × (length ts < 2 ^ 32)) shape.items (items_told (2 ^ 32)) (codes "targets") [] ms k) (λ ts g.
    by_members [] ts ms g.0))

-- the records and blocks of an accepted file
pub record IsLoaded (f : File) : Type 0 where
  pub targets : Each IsRead f.records.targets
  pub lists : Each HasShortLists f.records.targets
  pub few : length f.records.targets ≤ 1000
  pub stage : stage_count f ≡ 1
  pub tables : Each IsTableWithin f.tables
  pub same : length f.tables ≡ length f.records.targets

pub loaded : (bytes : List ℕ) (f : File) → length bytes < 2 ^ 32 → IsAccepted bytes f → IsLoaded f
loaded bytes f l a =
    let r : IsReadFile f = given_is IsReadFile (file_of a.document) f a.tells (file_read a.document (text_told max_depth (2 ^ 32) bytes a.document a.text.1 l)) in
    let c = counted f a.well.few in
    record { targets = r.targets; lists = c.lists; few = c.few; stage = a.well.stage; tables = r.tables; same = r.same }
