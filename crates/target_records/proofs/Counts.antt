-- What is first too many in lists that are joined, and what is told of it.
use Rattle.std.proofs.Common.{◌≡◌, ℕ, ◌<◌, ◌≤◌, Bool, true, false, cond, List, [], ◌∷◌, ◌++◌, length, codes, Option, Some, None, Err, refl, sym, ap, ◌∙◌, append_assoc, arith}
use Rattle.std.specs.Option.{option_map}
use Rattle.std.specs.Prelude.{find, flat_map, nat_lt}
use Rattle.std.proofs.lemmas.Bool.Decides.{nat_tests}
use Rattle.json_shapes.specs.Places.{path}
use Rattle.std.specs.Fmt.{decimal, digits}
use Rattle.std.specs.List.{enumerate_from}
use Rattle.scratch_values.specs.declared.value.Value.{Value}
use Rattle.project_spec.specs.Limits.{Measure, measure, is_too_many, first_too_many, id_or_none, variable_measures, list_measures, item_measures, costume_measures, target_measures}
use Rattle.machine_spec.specs.declared.records.TargetRecord.{TargetRecord}
use Rattle.target_records.specs.declared.refusal.RecordRefusal.{RecordRefusal}
use Rattle.target_records.specs.declared.refusal.RecordRefusal.TheVariants.{Shape, StageCount, TooMany, NoMemory}
use Rattle.target_records.specs.Bounds.{Bounds, IsTooManyAt}

passed_by : (b : Bool) (m : Measure) (ms ns : List Measure) → option_map (λ (x : Measure). path x.at) (cond b (Some m) (find is_too_many ms)) ≡ None → (first_too_many ms ≡ None → first_too_many (ms ++ ns) ≡ first_too_many ns) → option_map (λ (x : Measure). path x.at) (cond b (Some m) (find is_too_many (ms ++ ns))) ≡ first_too_many ns
passed_by true m ms ns h rest = cc
passed_by false m ms ns h rest = rest h

-- where nothing of the front is too many, the rest tells
pub first-passed : (ms ns : List Measure) → first_too_many ms ≡ None → first_too_many (ms ++ ns) ≡ first_too_many ns
first-passed [] ns h = refl
first-passed (m ∷ ms) ns h = passed_by (is_too_many m) m ms ns h (first-passed ms ns)

stopped_by : (b : Bool) (m : Measure) (ms ns : List Measure) (p : List ℕ) → option_map (λ (x : Measure). path x.at) (cond b (Some m) (find is_too_many ms)) ≡ Some p → (first_too_many ms ≡ Some p → first_too_many (ms ++ ns) ≡ Some p) → option_map (λ (x : Measure). path x.at) (cond b (Some m) (find is_too_many (ms ++ ns))) ≡ Some p
stopped_by true m ms ns p h rest = h
stopped_by false m ms ns p h rest = rest h

-- else the front
pub first-stopped : (ms ns : List Measure) (p : List ℕ) → first_too_many ms ≡ Some p → first_too_many (ms ++ ns) ≡ Some p
first-stopped [] ns p h = cc
first-stopped (m ∷ ms) ns p h = stopped_by (is_too_many m) m ms ns p h (first-stopped ms ns p)

lt_true : (a b : ℕ) → a < b → nat_lt a b ≡ true
lt_true a b h = grind (arith, nat_tests)

le_false : (a b : ℕ) → b ≤ a → nat_lt a b ≡ false
le_false a b h = grind (arith, nat_tests)

-- a count that is not too large is passed
pub measure_within : (m : Measure) (rest : List Measure) → m.count ≤ m.most → first_too_many (m ∷ rest) ≡ first_too_many rest
measure_within m rest h = ap (λ (b : Bool). option_map (λ (x : Measure). path x.at) (cond b (Some m) (find is_too_many rest))) (le_false m.most m.count h)

measure_first : (m : Measure) (rest : List Measure) → m.most < m.count → first_too_many (m ∷ rest) ≡ Some (path m.at)
measure_first m rest h = ap (λ (b : Bool). option_map (λ (x : Measure). path x.at) (cond b (Some m) (find is_too_many rest))) (lt_true m.most m.count h)

-- one that is too large is told
pub measure_over : {A B : Type 0} (view : A → B) (whole : B) (e : RecordRefusal) (m : Measure) (rest : List Measure) → m.most < m.count → IsTooManyAt (path m.at) e → Bounds view (Err e) whole (m ∷ rest)
measure_over view whole (Shape p) m rest h told = told
measure_over view whole (StageCount n) m rest h told = told
measure_over view whole (TooMany p) m rest h told = measure_first m rest h ∙ ap Some (sym told)
measure_over view whole NoMemory m rest h told = tt

-- what is first in a part is first in the whole
pub bounds_stop : {A B C D : Type 0} (view : A → B) (other : C → D) (part : B) (whole : D) (e : RecordRefusal) (ms ns : List Measure) → Bounds view (Err e) part ms → ((p : List ℕ) → first_too_many ms ≡ Some p → first_too_many ns ≡ Some p) → Bounds other (Err e) whole ns
bounds_stop view other part whole (Shape p) ms ns h up = h
bounds_stop view other part whole (StageCount n) ms ns h up = h
bounds_stop view other part whole (TooMany p) ms ns h up = up p h
bounds_stop view other part whole NoMemory ms ns h up = tt

-- an item that is left tells what the whole tells
pub turn_stop : {A B C D X : Type 0} (view : A → B) (other : C → D) (part : B) (whole : D) (e : RecordRefusal) (f : X → List Measure) (x : X) (xs ys : List X) (ns : List Measure) → Bounds view (Err e) part (f x) → xs ≡ x ∷ ys → first_too_many (flat_map f xs) ≡ first_too_many ns → Bounds other (Err e) whole ns
turn_stop view other part whole e f x xs ys ns h same many =
    bounds_stop view other part whole e (f x) ns h (λ p told. sym many ∙ ap (λ zs. first_too_many (flat_map f zs)) same ∙ first-stopped (f x) (flat_map f ys) p told)

-- or passes
pub turn_pass : {X : Type 0} (f : X → List Measure) (x : X) (xs ys : List X) (o : Option (List ℕ)) → first_too_many (f x) ≡ None → xs ≡ x ∷ ys → first_too_many (flat_map f xs) ≡ o → first_too_many (flat_map f ys) ≡ o
turn_pass f x xs ys o none same many = sym (first-passed (f x) (flat_map f ys) none) ∙ ap (λ zs. first_too_many (flat_map f zs)) (sym same) ∙ many

-- what was done, and what is left
pub turn_all : {A : Type 0} (front new xs ys whole : List A) (x y : A) → new ≡ front ++ y ∷ [] → y ≡ x → xs ≡ x ∷ ys → front ++ xs ≡ whole → new ++ ys ≡ whole
turn_all front new xs ys whole x y made is same all =
    ap (λ zs. zs ++ ys) made ∙ append_assoc front (y ∷ []) ys ∙ ap (λ z. front ++ (z ∷ ys)) is ∙ ap (λ zs. front ++ zs) (sym same) ∙ all

-- a list that has not too many items tells what its items tell
pub list_items : (at place : List (List ℕ)) (id name : List ℕ) (items values : List Value) → place ≡ codes "1" ∷ id ∷ at → values ≡ items → length items ≤ 200000 → first_too_many (list_measures at (id, record { name = record { name = name; id = Some id }; items = items })) ≡ first_too_many (flat_map (item_measures place) (enumerate_from 0 values))
list_items at place id name items values here same few =
    measure_within (measure (codes "1" ∷ id ∷ at) (length items) 200000) (flat_map (item_measures (codes "1" ∷ id ∷ at)) (enumerate_from 0 items)) few
    ∙ ap (λ p. first_too_many (flat_map (item_measures p) (enumerate_from 0 items))) (sym here)
    ∙ ap (λ vs. first_too_many (flat_map (item_measures place) (enumerate_from 0 vs))) (sym same)

one : decimal 1 ≡ codes "1"
unfolding digits
one = refl

-- the place of what stands second in the list of an id
pub second_place : (item member : List (List ℕ)) (shown id : List ℕ) (at : List (List ℕ)) → item ≡ decimal 1 ∷ member → member ≡ shown ∷ at → shown ≡ id → item ≡ codes "1" ∷ id ∷ at
second_place item member shown id at a b c = a ∙ ap (λ t. t ∷ member) one ∙ ap (λ p. codes "1" ∷ p) (b ∙ ap (λ t. t ∷ at) c)

-- the parts of a target, in the order of the tests
abbrev pub variables_in : List (List ℕ) → TargetRecord → List Measure
variables_in at t = flat_map (λ v. variable_measures (codes "variables" ∷ at) (id_or_none v.name.id, v)) t.variables

abbrev pub lists_in : List (List ℕ) → TargetRecord → List Measure
lists_in at t = flat_map (λ l. list_measures (codes "lists" ∷ at) (id_or_none l.name.id, l)) t.lists

abbrev pub costumes_in : List (List ℕ) → TargetRecord → List Measure
costumes_in at t = flat_map (costume_measures (codes "costumes" ∷ at)) (enumerate_from 0 t.costumes)

pub variables_stop : (at : List (List ℕ)) (t : TargetRecord) (q : List ℕ) → first_too_many (variables_in at t) ≡ Some q → first_too_many (target_measures at t) ≡ Some q
variables_stop at t q h = first-stopped (variables_in at t) (lists_in at t ++ costumes_in at t) q h

pub lists_stop : (at : List (List ℕ)) (t : TargetRecord) (q : List ℕ) → first_too_many (variables_in at t) ≡ None → first_too_many (lists_in at t) ≡ Some q → first_too_many (target_measures at t) ≡ Some q
lists_stop at t q none h = first-passed (variables_in at t) (lists_in at t ++ costumes_in at t) none ∙ first-stopped (lists_in at t) (costumes_in at t) q h

pub costumes_tell : (at : List (List ℕ)) (t : TargetRecord) (o : Option (List ℕ)) → first_too_many (variables_in at t) ≡ None → first_too_many (lists_in at t) ≡ None → first_too_many (costumes_in at t) ≡ o → first_too_many (target_measures at t) ≡ o
costumes_tell at t o none nor h = first-passed (variables_in at t) (lists_in at t ++ costumes_in at t) none ∙ first-passed (lists_in at t) (costumes_in at t) nor ∙ h
