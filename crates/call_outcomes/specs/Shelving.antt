-- What the shelf holds afterwards.
use Rattle.std.specs.Prelude.{◌≡◌, ◌⊎◌, ℕ, List, Option, None, Some}
use Rattle.sv_channels.specs.Counts.{Rose}
use Rattle.sv_channels.specs.Shelf.{Puts, KeepsOthers}
use Rattle.call_outcomes.specs.Course.{Course, usage, read_fault, write_fault, no_memory, silent, whole}
use Rattle.call_outcomes.specs.Seen.{ShelfNow}

-- the text under the name and all else as it was, if a text is put
abbrev pub PutsText : ShelfNow → ShelfNow → (name : List ℕ) → (saved : Option (List ℕ)) → Type 0
PutsText s t name None = t.held ≡ s.held
PutsText s t name (Some text) = Puts s.held t.held name text

-- Where the call came to its end and may put a file under a name, the text that is put, if one is; after a failed put nothing is
-- told of this name alone; in every other case the shelf holds what it held.
abbrev pub Shelved : ShelfNow → ShelfNow → (name saved : Option (List ℕ)) → Course → Type 0
Shelved s t None saved course = t.held ≡ s.held
Shelved s t (Some name) saved whole = PutsText s t name saved
Shelved s t (Some name) saved write_fault =
    (t.held ≡ s.held) ⊎ (Rose (s.put_faults name) (t.put_faults name) × KeepsOthers s.held t.held name)
Shelved s t (Some name) saved usage = t.held ≡ s.held
Shelved s t (Some name) saved read_fault = t.held ≡ s.held
Shelved s t (Some name) saved no_memory = t.held ≡ s.held
Shelved s t (Some name) saved silent = t.held ≡ s.held

-- whatever is told of the files, the shelf holds what it held where no file may be put, and where the call is not at its end and
-- no put failed
abbrev pub IsShelved : ShelfNow → ShelfNow → (name : Option (List ℕ)) → Course → Type 0
IsShelved s t None course = t.held ≡ s.held
IsShelved s t (Some name) whole = Unit {0}
IsShelved s t (Some name) write_fault = Unit {0}
IsShelved s t (Some name) course = t.held ≡ s.held
