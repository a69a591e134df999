-- WHAT RESUMING PROMISES: the text that a run is saved as is accepted again, and tells the last world of the run.
use Rattle.std.specs.Prelude.{◌≡◌, ℕ, List, Option, Some, IfSome}
use Rattle.std.specs.FinMap.{get}
use Rattle.sha2.specs.Sha256.{sha256}
use Rattle.sv_channels.specs.Files.{Files}
use Rattle.machine_spec.specs.Output.{Whole}
use Rattle.machine_spec.specs.Tasks.{Task}
use Rattle.machine_spec.specs.World.{World, as_saved}
use Rattle.saved_spec.specs.Worlds.{world_told}
use Rattle.project_spec.specs.Basis.{Basis}
use Rattle.saved_spec.specs.Refusals.{IsAccepted as IsSavedRun}
use Rattle.saved_spec.specs.RunShapes.{Told}
use Rattle.run_save.specs.declared.status.Status.{Status}
use Rattle.run_save.specs.declared.status.Status.TheVariants.{Done}
use Rattle.play_command.specs.Command.{Command, play, resume, check, made}
use Rattle.play_command.specs.Outcome.{accepted, continued, Bases, Continues, Outcome, ran, outcome_of, resume_outcome}

-- the text is a saved run of the project file, under this seed, and tells this world, but for its redraw request, which
-- lasts no longer than a frame
pub record TellsAgain (b : Basis) (project : List ℕ) (seed : ℕ) (last : World Task) (text : List ℕ) : Type 0 where
  pub told_run : Told
  pub accepted_again : IsSavedRun b (sha256 project) text told_run
  pub same_seed : told_run.run.seed ≡ seed
  pub same_world : world_told b told_run ≡ as_saved last

-- so is the text that is put for the last world of a run
abbrev pub SavesAgain : Basis → (project : List ℕ) → (seed : ℕ) → Outcome → Type 0
SavesAgain b project seed o = (last : World Task) (text : List ℕ) → o.ending ≡ ran (Whole last) → o.saved ≡ Some text → TellsAgain b project seed last text

-- of what was played, and of what was gone on with
abbrev pub IsSavedAgain : Option Files → Command → Type 0
IsSavedAgain held (play form) =
    IfSome held (λ files. (project : List ℕ) (b : Basis) → get files form.project ≡ Some project → Bases project (accepted b)
    → SavesAgain b project form.seed (outcome_of files form (accepted b.program)))
IsSavedAgain held (resume form) =
    IfSome held (λ files. (project bytes : List ℕ) (b : Basis) (t : Told) → get files form.project ≡ Some project → Bases project (accepted b)
    → get files form.saved ≡ Some bytes → Continues b project bytes (continued t)
    → SavesAgain b project t.run.seed (resume_outcome files form (accepted b) (continued t)))
IsSavedAgain held (check project) = Unit {0}
IsSavedAgain held (made form) = Unit {0}

-- so it is after Done
abbrev pub Resumable : Option Files → Command → Status → Type 0
Resumable held command Done = IsSavedAgain held command
Resumable held command status = Unit {0}
