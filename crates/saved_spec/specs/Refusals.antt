-- Why bytes are no saved run of a project: the first of these that holds, in this order. They are no JSON text; they are of
-- another version; a member has not its shape; they are of another project; a rule is broken; a thread cannot stand so; they
-- are written in another way.
use Rattle.std.specs.Prelude.{◌≡◌, ℕ, suc, ◌==◌, List, [], ◌∷◌, bytes_eq, codes, Option, Some, None, option_map, option_and_then, Result, Ok, Err, IsUtf8, if◌then◌else◌}
use Rattle.hex.specs.Hex.{encode_lower}
use Rattle.serde_json.specs.Data.{Data}
use Rattle.serde_json.specs.Find.{get, as_number, as_u64}
use Rattle.serde_json.specs.Read.{read}
use Rattle.saved_spec.specs.Saved.{saved_text, version}
use Rattle.project_spec.specs.Basis.{Basis}
use Rattle.saved_spec.specs.Kept.{thread}
use Rattle.saved_spec.specs.Levels.{bad_thread}
use Rattle.saved_spec.specs.Rules.{broken}
use Rattle.saved_spec.specs.RunShapes.{Told, run}
use Rattle.saved_spec.specs.declared.refusals.SaveRefusal.{SaveRefusal}
use Rattle.saved_spec.specs.declared.refusals.SaveRefusal.TheVariants.{Json, Version, Shape, OtherProject, BadReference, BadThread, Spelling, NoMemory}

-- The tests

abbrev pub unless_known : ℕ → Option ℕ
unless_known n = if n == version then None else Some n

-- the version of an object, where it is a whole number other than the one that is read
abbrev pub other_version : Data → Option ℕ
other_version d = option_and_then unless_known (option_and_then as_u64 (option_and_then as_number (get (codes "version") d)))

-- the first place at which two texts differ, or the shorter length; nothing where they are the same
unfoldable pub first_difference : List ℕ → List ℕ → Option ℕ
first_difference [] [] = None
first_difference [] (b ∷ bs) = Some 0
first_difference (a ∷ rest) [] = Some 0
first_difference (a ∷ rest) (b ∷ bs) = if a == b then option_map suc (first_difference rest bs) else Some 0

-- What a value is answered: what it tells, or the first refusal. `given` is the digest of the project, in digits.

-- how it is written
abbrev pub by_spelling : Told → Option ℕ → Result Told SaveRefusal
by_spelling t (Some at) = Err (Spelling at)
by_spelling t None = Ok t

abbrev pub by_threads : List ℕ → Told → Option ℕ → Result Told SaveRefusal
by_threads bytes t (Some serial) = Err (BadThread serial)
by_threads bytes t None = by_spelling t (first_difference bytes (saved_text thread t.run))

abbrev pub by_rules : Basis → List ℕ → Told → Option (List ℕ) → Result Told SaveRefusal
by_rules b bytes t (Some member) = Err (BadReference member)
by_rules b bytes t None = by_threads bytes t (bad_thread b t)

abbrev pub by_project : Basis → (given : List ℕ) → List ℕ → Told → Result Told SaveRefusal
by_project b given bytes t = if bytes_eq t.run.project given then by_rules b bytes t (broken b t) else Err (OtherProject t.run.project given)

abbrev pub by_shape : Basis → (given : List ℕ) → List ℕ → Result Told (List ℕ) → Result Told SaveRefusal
by_shape b given bytes (Err path) = Err (Shape path)
by_shape b given bytes (Ok t) = by_project b given bytes t

abbrev pub by_version : Basis → (given : List ℕ) → List ℕ → Data → Option ℕ → Result Told SaveRefusal
by_version b given bytes d (Some n) = Err (Version n)
by_version b given bytes d None = by_shape b given bytes (run [] d)

-- bytes that are the JSON text of a value
unfoldable pub judged : Basis → (digest : List ℕ) → List ℕ → Data → Result Told SaveRefusal
judged b digest bytes d = by_version b (encode_lower digest) bytes d (other_version d)

-- Bytes

abbrev pub Reads : List ℕ → Data → Type 0
Reads bytes d = IsUtf8 bytes × (read bytes ≡ Some d)

-- they are a JSON text, and are answered so
abbrev pub IsJudged : Basis → (digest : List ℕ) → List ℕ → Result Told SaveRefusal → Type 0
IsJudged b digest bytes r = (d : Data) × Reads bytes d × (judged b digest bytes d ≡ r)

-- they are the saved run that tells this
abbrev pub IsAccepted : Basis → (digest : List ℕ) → List ℕ → Told → Type 0
IsAccepted b digest bytes t = IsJudged b digest bytes (Ok t)

-- they are refused so; want of memory tells nothing
abbrev pub IsRefused : Basis → (digest : List ℕ) → List ℕ → SaveRefusal → Type 0
IsRefused b digest bytes Json = (d : Data) → Reads bytes d → ⊥
IsRefused b digest bytes NoMemory = Unit {0}
IsRefused b digest bytes r = IsJudged b digest bytes (Err r)
