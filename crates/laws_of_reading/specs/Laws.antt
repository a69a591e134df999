-- Laws of runs that can be told, as statements that public functions with empty bodies prove.
use Rattle.std.specs.Prelude.{◌≡◌, None, Ok, []}
use Rattle.machine_spec.specs.Tasks.{Task}
use Rattle.saved_spec.specs.Saved.{Snapshot, saved, saved_text}
use Rattle.saved_spec.specs.Tasks.{task}
use Rattle.saved_spec.specs.Kept.{thread}
use Rattle.saved_spec.specs.Legal.{told}
use Rattle.saved_spec.specs.Refusals.{Reads, other_version}
use Rattle.saved_spec.specs.RunShapes.{run}
use Rattle.laws_of_reading.specs.Told.{CanBeTold}

-- the value of a run that can be told has the shape of a saved run, and tells just what the run is
abbrev pub ShapeIsTold : Type 0
ShapeIsTold = (s : Snapshot Task) → CanBeTold s → run [] (saved thread (told s).run) ≡ Ok (told s)

-- it is of the version that is read
abbrev pub VersionIsKnown : Type 0
VersionIsKnown = (s : Snapshot Task) → other_version (saved task s) ≡ None

-- its text is UTF-8, and is read as that value
abbrev pub TextReadsBack : Type 0
TextReadsBack = (s : Snapshot Task) → CanBeTold s → Reads (saved_text task s) (saved task s)
