-- What the saved runs that are accepted tell, as statements that public functions with empty bodies prove.
use Rattle.std.specs.Prelude.{◌≡◌, ℕ, List}
use Rattle.saved_spec.specs.Saved.{snapshot, saved_text}
use Rattle.saved_spec.specs.Tasks.{task}
use Rattle.project_spec.specs.Basis.{Basis}
use Rattle.saved_spec.specs.Refusals.{IsAccepted}
use Rattle.saved_spec.specs.RunShapes.{Told}
use Rattle.laws_of_worlds.specs.Runs.{IsLegalRun}
use Rattle.saved_spec.specs.Worlds.{world_told}

-- the world that an accepted saved run tells is legal, also where no run wrote it
abbrev pub AcceptedIsLegal : Type 0
AcceptedIsLegal = (b : Basis) (digest bytes : List ℕ) (t : Told) → IsAccepted b digest bytes t → IsLegalRun b.program t.run.seed (world_told b t)

-- bytes that are accepted are the saved text of the world that they tell, under its seed
abbrev pub AcceptedIsWritten : Type 0
AcceptedIsWritten =
    (b : Basis) (digest bytes : List ℕ) (t : Told) → IsAccepted b digest bytes t
    → bytes ≡ saved_text task (snapshot digest t.run.seed (world_told b t))
