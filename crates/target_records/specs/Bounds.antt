-- Which records have nothing that is too long, and what is told of the others.
use Rattle.std.specs.Prelude.{◌≡◌, ℕ, List, flat_map, None, Some, Result, Ok, Err}
use Rattle.std.specs.List.{enumerate_from}
use Rattle.json_shapes.specs.declared.fault.Fault.{Fault}
use Rattle.json_shapes.specs.declared.fault.Fault.TheVariants as fault
use Rattle.machine_spec.specs.declared.records.TargetRecord.{TargetRecord}
use Rattle.project_spec.specs.Limits.{Measure, target_measures, target_place, first_too_many}
use Rattle.target_records.specs.declared.refusal.RecordRefusal.{RecordRefusal}
use Rattle.target_records.specs.declared.refusal.RecordRefusal.TheVariants.{Shape, StageCount, TooMany, NoMemory}

-- what a fault of the shapes is as a refusal
abbrev pub refusal_of : Fault → RecordRefusal
refusal_of (fault.Shape path) = Shape path
refusal_of fault.NoMemory = NoMemory

-- a refusal tells that what is counted at a place is too many, or that memory ran out
abbrev pub IsTooManyAt : List ℕ → RecordRefusal → Type 0
IsTooManyAt path (Shape told) = ⊥
IsTooManyAt path (StageCount n) = ⊥
IsTooManyAt path (TooMany told) = told ≡ path
IsTooManyAt path NoMemory = Unit {0}

-- What was returned, seen by view, is the whole, and nothing of it is too many; or the first that is too many is told by
-- its path. Where memory ran out nothing is claimed.
abbrev pub Bounds : {A B : Type 0} → (A → B) → Result A RecordRefusal → B → List Measure → Type 0
Bounds view (Ok a) whole measures = (view a ≡ whole) × (first_too_many measures ≡ None)
Bounds view (Err (Shape path)) whole measures = ⊥
Bounds view (Err (StageCount n)) whole measures = ⊥
Bounds view (Err (TooMany path)) whole measures = first_too_many measures ≡ Some path
Bounds view (Err NoMemory) whole measures = Unit {0}

-- the items of lists, the texts of values and the names of costumes, in the order of reading
abbrev pub lengths_in : List TargetRecord → List Measure
lengths_in targets = flat_map (λ x. target_measures (target_place x.0) x.1) (enumerate_from 0 targets)
