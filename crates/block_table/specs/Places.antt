-- The places of ids in a list of them.
use Rattle.std.specs.Prelude.{◌≡◌, ℕ, Bool, if◌then◌else◌, List, bytes_eq, position, String, Option, None, Some}
use Rattle.std.specs.HashMap.{HashMap, get_by_text}

-- each id is found at its first place, and nothing else is found
abbrev pub AreFirst : {Y S : Type 0} → HashMap (String Y) ℕ S → List (List ℕ) → Type 0
AreFirst places ids = (id : List ℕ) → get_by_text places id ≡ position (λ other. bytes_eq other id) ids

-- what is found of an id after one that may be the same was noted: its earlier place, where it has one
abbrev pub noted : Option ℕ → (same : Bool) → (place : ℕ) → Option ℕ
noted (Some earlier) same place = Some earlier
noted None same place = if same then Some place else None

-- the id was noted at a place
abbrev pub Notes : {Y S : Type 0} → (old new : HashMap (String Y) ℕ S) → (id : List ℕ) → (place : ℕ) → Type 0
Notes old new id place = (other : List ℕ) → get_by_text new other ≡ noted (get_by_text old other) (bytes_eq id other) place
