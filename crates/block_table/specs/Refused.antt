-- Why the blocks of a target are refused.
use Rattle.std.specs.Prelude.{◌≡◌, ℕ, List, None, Some, Result, Ok, Err}
use Rattle.json_shapes.specs.declared.fault.Fault.{Fault}
use Rattle.json_shapes.specs.declared.fault.Fault.TheVariants as fault
use Rattle.project_spec.specs.Limits.{Measure, first_too_many, table_measures}
use Rattle.project_spec.specs.Reading.{Table}
use Rattle.block_table.specs.declared.refusal.BlockRefusal.{BlockRefusal}
use Rattle.block_table.specs.declared.refusal.BlockRefusal.TheVariants.{Shape, TooLong, NoMemory}

-- the refusal for a fault
abbrev pub of_fault : Fault → BlockRefusal
of_fault (fault.Shape path) = Shape path
of_fault fault.NoMemory = NoMemory

-- A refusal tells the path of the first that is too much in what is measured, or that memory ran out.
abbrev pub Refuses : BlockRefusal → List Measure → Type 0
Refuses (TooLong path) measures = first_too_many measures ≡ Some path
Refuses (Shape path) measures = ⊥
Refuses NoMemory measures = Unit {0}

-- What was returned, seen by view, is the whole, and nothing that is measured in it is too much; or it is refused for what
-- is. Where memory ran out nothing is claimed.
abbrev pub Fits : {A B : Type 0} → (A → B) → Result A BlockRefusal → B → List Measure → Type 0
Fits view (Ok a) whole measures = (view a ≡ whole) × (first_too_many measures ≡ None)
Fits view (Err refusal) whole measures = Refuses refusal measures

-- What was returned, seen by view, is what the document tells; a shape that does not fit is told by the path that the
-- document tells, and a text of blocks at a place that is too long by the path of the first. Where memory ran out nothing
-- is claimed.
abbrev pub Builds : {A : Type 0} → (A → Table → Type 0) → Result A BlockRefusal → List (List ℕ) → Result Table (List ℕ) → Type 0
Builds Shows (Ok a) at (Ok table) = Shows a table × (first_too_many (table_measures at table) ≡ None)
Builds Shows (Ok a) at (Err path) = ⊥
Builds Shows (Err (TooLong path)) at (Ok table) = first_too_many (table_measures at table) ≡ Some path
Builds Shows (Err (TooLong path)) at (Err other) = ⊥
Builds Shows (Err (Shape path)) at told = told ≡ Err path
Builds Shows (Err NoMemory) at told = Unit {0}

-- A refusal tells that the text at a path is too long, or that memory ran out.
abbrev pub IsTooLongAt : List ℕ → BlockRefusal → Type 0
IsTooLongAt path (TooLong told) = told ≡ path
IsTooLongAt path (Shape told) = ⊥
IsTooLongAt path NoMemory = Unit {0}
