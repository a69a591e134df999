-- What the loading of a saved run answers.
use Rattle.std.specs.Prelude.{◌≡◌, ℕ, List, None, Some, Result, Ok, Err}
use Rattle.rand_core.specs.Stream.{Stream}
use Rattle.machine_spec.specs.Tasks.{Task}
use Rattle.machine_spec.specs.World.{World, as_saved}
use Rattle.project_check.specs.Loaded.{program_of, basis_of}
use Rattle.project_check.specs.declared.project.Project.{Project}
use Rattle.saved_spec.specs.Ranges.{IsRun, IsTask}
use Rattle.saved_spec.specs.Saved.{snapshot, saved_text}
use Rattle.saved_spec.specs.Tasks.{task}
use Rattle.saved_spec.specs.Levels.{bad_thread}
use Rattle.saved_spec.specs.Refusals.{IsAccepted, IsRefused}
use Rattle.saved_spec.specs.RunShapes.{Told}
use Rattle.saved_spec.specs.declared.refusals.SaveRefusal.{SaveRefusal}
use Rattle.saved_spec.specs.declared.refusals.SaveRefusal.TheVariants.{BadThread, NoMemory}
use Rattle.sequencer.specs.Runs.{world_of, IsRunOf}
use Rattle.sequencer.specs.declared.run.Run.{Run}
use Rattle.laws_of_worlds.specs.Runs.{IsLegalRun}
use Rattle.laws_of_saving.specs.Good.{IsGood}
use Rattle.saved_spec.specs.Worlds.{world_told}
use Rattle.run_save.specs.Worlds.{AllTold}

-- a run of this project whose world is the one that is told
pub record IsRunTold {R : Type 0} (stream : R → Stream) (p : Project) (t : Told) (run : Run R) : Type 0 where
  pub world : world_of stream p run ≡ world_told (basis_of p) t
  pub fits : IsRunOf p run

-- the bytes are the saved run of the project that tells this run, and its seed; or they are refused so
abbrev pub Loads : {R : Type 0} → (R → Stream) → Project → (digest bytes : List ℕ) → Result (Run R × ℕ) SaveRefusal → Type 0
Loads stream p digest bytes (Ok r) = (t : Told) × IsAccepted (basis_of p) digest bytes t × IsRunTold stream p t r.0 × (r.1 ≡ t.run.seed)
Loads stream p digest bytes (Err e) = IsRefused (basis_of p) digest bytes e

-- the run of this world, but for its redraw request, and of this seed; or memory ran out
abbrev pub IsThatRun : {R : Type 0} → (R → Stream) → Project → (seed : ℕ) → World Task → Result (Run R × ℕ) SaveRefusal → Type 0
IsThatRun stream p seed w (Ok r) = (world_of stream p r.0 ≡ as_saved w) × (r.1 ≡ seed)
IsThatRun stream p seed w (Err NoMemory) = Unit {0}
IsThatRun stream p seed w (Err e) = ⊥

-- the text of each legal world of this project is loaded as that run
abbrev pub LoadsAgain : {R : Type 0} → (R → Stream) → Project → (digest bytes : List ℕ) → Result (Run R × ℕ) SaveRefusal → Type 0
LoadsAgain stream p digest bytes result =
    (seed : ℕ) (w : World Task) → IsGood (basis_of p) → IsLegalRun (program_of p) seed w → IsRun IsTask (snapshot digest seed w)
    → bytes ≡ saved_text task (snapshot digest seed w) → IsThatRun stream p seed w result

-- a helper of private functions: the run was made, or a thread of it breaks a rule
abbrev pub Makes : {R : Type 0} → (R → Stream) → Project → Told → Result (Run R) SaveRefusal → Type 0
Makes stream p t (Ok run) = IsRunTold stream p t run × (bad_thread (basis_of p) t ≡ None) × AllTold (basis_of p) t t.run.threads
Makes stream p t (Err (BadThread serial)) = bad_thread (basis_of p) t ≡ Some serial
Makes stream p t (Err NoMemory) = Unit {0}
Makes stream p t (Err e) = ⊥
