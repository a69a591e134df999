-- What the code of a reader answers, beside what its document tells.
use Rattle.std.specs.Prelude.{◌≡◌, ℕ, List, Result, Ok, Err}
use Rattle.json_shapes.specs.declared.fault.Fault.{Fault}
use Rattle.json_shapes.specs.declared.fault.Fault.TheVariants.{Shape, NoMemory}

-- What was returned, seen by view, is what the document tells, and a shape that does not fit is told by the path that
-- the document tells. Where memory ran out nothing is claimed.
abbrev pub Reads : {A B : Type 0} → (A → B) → Result A Fault → Result B (List ℕ) → Type 0
Reads view (Ok a) told = told ≡ Ok (view a)
Reads view (Err (Shape path)) told = told ≡ Err path
Reads view (Err NoMemory) told = Unit {0}

-- A fault tells that the value at a place has not its shape, or that memory ran out.
abbrev pub IsFaultAt : List ℕ → Fault → Type 0
IsFaultAt path (Shape told) = told ≡ path
IsFaultAt path NoMemory = Unit {0}
