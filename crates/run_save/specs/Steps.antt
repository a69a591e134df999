-- Helpers of private functions: how far the bytes of a saved run were judged, and what the answers of the steps tell.
use Rattle.std.specs.Prelude.{◌≡◌, ℕ, List, [], bytes_eq, None, Some, true, false, Result, Ok, Err}
use Rattle.hex.specs.Hex.{encode_lower}
use Rattle.serde_json.specs.Data.{Data}
use Rattle.saved_parts.specs.Telling.{told_of}
use Rattle.saved_parts.specs.declared.run.ToldRun.{ToldRun}
use Rattle.project_spec.specs.Basis.{Basis}
use Rattle.saved_spec.specs.Refusals.{Reads, other_version, IsRefused}
use Rattle.saved_spec.specs.RunShapes.{Told, run}
use Rattle.saved_spec.specs.Rules.{broken}
use Rattle.saved_spec.specs.declared.refusals.SaveRefusal.{SaveRefusal}
use Rattle.saved_spec.specs.declared.refusals.SaveRefusal.TheVariants.{Json, Shape, OtherProject, BadReference, NoMemory}

-- the bytes are the JSON text of a value, or of none
abbrev pub Parses : {A : Type 0} → (A → Data) → List ℕ → Result A SaveRefusal → Type 0
Parses view bytes (Ok v) = Reads bytes (view v)
Parses view bytes (Err Json) = (d : Data) → Reads bytes d → ⊥
Parses view bytes (Err NoMemory) = Unit {0}
Parses view bytes (Err e) = ⊥

-- the value tells a run, or has another shape at a path
abbrev pub Shapes : Data → Result ToldRun SaveRefusal → Type 0
Shapes d (Ok r) = run [] d ≡ Ok (told_of r)
Shapes d (Err (Shape path)) = run [] d ≡ Err path
Shapes d (Err NoMemory) = Unit {0}
Shapes d (Err e) = ⊥

-- the run is of the project with this digest, or of another
abbrev pub IsOf : (kept given : List ℕ) → {A : Type 0} → Result A SaveRefusal → Type 0
IsOf kept given (Ok u) = bytes_eq kept given ≡ true
IsOf kept given (Err (OtherProject k g)) = (bytes_eq kept given ≡ false) × (k ≡ kept) × (g ≡ given)
IsOf kept given (Err NoMemory) = Unit {0}
IsOf kept given (Err e) = ⊥

-- the run breaks no rule, or breaks this one
abbrev pub Keeps : Basis → Told → {A : Type 0} → Result A SaveRefusal → Type 0
Keeps b t (Ok u) = broken b t ≡ None
Keeps b t (Err (BadReference member)) = broken b t ≡ Some member
Keeps b t (Err NoMemory) = Unit {0}
Keeps b t (Err e) = ⊥

-- the bytes tell this run, of this project, and it breaks no rule
pub record IsTold (b : Basis) (digest bytes : List ℕ) (t : Told) : Type 0 where
  pub value : Data
  pub reads : Reads bytes value
  pub version : other_version value ≡ None
  pub shape : run [] value ≡ Ok t
  pub project : bytes_eq t.run.project (encode_lower digest) ≡ true
  pub rules : broken b t ≡ None

abbrev pub Tells : Basis → (digest bytes : List ℕ) → Result ToldRun SaveRefusal → Type 0
Tells b digest bytes (Ok r) = IsTold b digest bytes (told_of r)
Tells b digest bytes (Err e) = IsRefused b digest bytes e
