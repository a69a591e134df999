-- Laws of the legal worlds of a run and of their saved texts, as statements that public functions with empty bodies prove.
use Rattle.std.specs.Prelude.{◌≡◌, ℕ, ◌<◌, ◌^◌, List, map, length}
use Rattle.machine_spec.specs.Tasks.{Task}
use Rattle.machine_spec.specs.World.{World, as_saved}
use Rattle.project_spec.specs.Reading.{File, blocks_in}
use Rattle.project_spec.specs.Refusals as file
use Rattle.saved_spec.specs.Ranges.{IsRun, IsTask}
use Rattle.saved_spec.specs.Saved.{snapshot, saved_text}
use Rattle.saved_spec.specs.Tasks.{task}
use Rattle.project_spec.specs.Basis.{Basis}
use Rattle.saved_spec.specs.Legal.{told}
use Rattle.saved_spec.specs.Refusals.{IsAccepted}
use Rattle.laws_of_worlds.specs.Runs.{IsLegalRun}
use Rattle.laws_of_saving.specs.Good.{IsDigest, IsGood}
use Rattle.saved_spec.specs.Worlds.{world_told}

-- the program of each project file that is accepted is good
abbrev pub EachFileIsGood : Type 0
EachFileIsGood =
    (bytes : List ℕ) (f : File) (b : Basis) → length bytes < 2 ^ 32 → file.IsAccepted bytes f → file.IsProgram f b.program
    → b.blocks ≡ map length (blocks_in f) → IsGood b

-- the text of a legal world, where the types of its run hold what they say, is accepted, and tells it
abbrev pub TextIsAccepted : Type 0
TextIsAccepted =
    (b : Basis) (seed : ℕ) (digest : List ℕ) (w : World Task) → IsGood b → IsDigest digest → IsLegalRun b.program seed w
    → IsRun IsTask (snapshot digest seed w) → IsAccepted b digest (saved_text task (snapshot digest seed w)) (told (snapshot digest seed w))

-- the world that it tells is this one, without its redraw request
abbrev pub WorldIsTold : Type 0
WorldIsTold =
    (b : Basis) (seed : ℕ) (digest : List ℕ) (w : World Task) → IsGood b → IsLegalRun b.program seed w
    → world_told b (told (snapshot digest seed w)) ≡ as_saved w

-- legal worlds with the same text differ in their redraw requests alone
abbrev pub OneWorldOfAText : Type 0
OneWorldOfAText =
    (b : Basis) (seed : ℕ) (digest : List ℕ) (w v : World Task) → IsGood b → IsDigest digest → IsLegalRun b.program seed w
    → IsLegalRun b.program seed v → IsRun IsTask (snapshot digest seed w) → IsRun IsTask (snapshot digest seed v)
    → saved_text task (snapshot digest seed w) ≡ saved_text task (snapshot digest seed v)
    → as_saved w ≡ as_saved v
