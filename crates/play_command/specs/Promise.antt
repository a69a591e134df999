-- THE PROMISE OF `play`, `resume`, `check` AND `made`, in words that the files beside this one define: Command reads the words,
-- Outcome is what the call does where nothing fails, Made the same for `made`, Causes tells why a status comes, Calls what is
-- counted, and Resuming what becomes of a saved run. What is owed about faults, writes and puts stands in call_outcomes/specs, over
-- the course of a status.
--
-- The words `play p.json s.txt 1 r.json`, over a shelf that holds a project and a script of two frame lines under these names, write
-- two texts, each by one write:
--     frame 1 clock 0 ..
--     frame 2 clock 33 ..
-- and put the text of the saved run under `r.json`. The status is Done; two files were fetched and one was put, each once, and all
-- other names hold what they held. The words `resume p.json r.json t.txt -` go on from there.
use Rattle.std.specs.Prelude.{◌≡◌, ◌⊎◌, ℕ, List, Option, None, Some, IfSome}
use Rattle.std.specs.FinMap.{get}
use Rattle.sv_channels.specs.Files.{Files}
use Rattle.call_outcomes.specs.Calls.{Calls as CallsMade, puts_of}
use Rattle.call_outcomes.specs.Course.{Course, usage, read_fault, write_fault, no_memory, silent, whole}
use Rattle.call_outcomes.specs.Faults.{FaultCause, PutFailed, WriteFailed, Wanted, HidesNothing}
use Rattle.call_outcomes.specs.Idle.{IsIdle}
use Rattle.call_outcomes.specs.Seen.{ShelfNow, SinkNow}
use Rattle.call_outcomes.specs.Shelving.{Shelved, IsShelved}
use Rattle.call_outcomes.specs.Writes.{Wrote, IsSilent}
use Rattle.machine_spec.specs.Program.{Program}
use Rattle.made_texts.specs.MadeProject.{made_project}
use Rattle.project_spec.specs.Basis.{Basis}
use Rattle.run_save.specs.declared.status.Status.{Status}
use Rattle.run_save.specs.declared.status.Status.TheVariants.{Done, Usage, ReadFault, WriteFault, BadProject, BadSave, BadScript, Limit, TooLarge, NoMemory}
use Rattle.play_command.specs.Calls.{files_of, fetched_at, name_of_save, name_put}
use Rattle.play_command.specs.Causes.{FileFailed, ProjectFailed, SavedFailed, Tells, AnswerCause}
use Rattle.run_save.specs.Statuses.{HoldsNoWant}
use Rattle.play_command.specs.Command.{Command, play, resume, check, made, command_of}
use Rattle.play_command.specs.Outcome.{Loading, Loads, Bases, Checks, OfFile, Continuing, OfSaved, Outcome, outcome_of, resume_outcome, check_outcome}
use Rattle.play_command.specs.Made.{made_outcome}
use Rattle.play_command.specs.declared.counts.Counts.{Counts}

-- the course of a status: before a refused line all is written, and at a limit its line too
abbrev pub course : Status → Course
course Done = whole
course (BadScript r) = whole
course (Limit l) = whole
course (BadProject r) = silent
course (BadSave r) = silent
course (TooLarge file limit) = silent
course Usage = usage
course ReadFault = read_fault
course WriteFault = write_fault
course NoMemory = no_memory

-- 1. Of which outcomes a clause speaks: what the shelf holds is told, and the files stand for what is loaded; the made project is
-- made by the call itself, whatever the shelf holds

-- of each outcome of the files that are held
abbrev pub Promised : Option Files → Command → (Outcome → Type 0) → Type 0
Promised held (play form) fact =
    IfSome held (λ files. (loading : Loading Program) → OfFile Loads (get files form.project) loading → fact (outcome_of files form loading))
Promised held (resume form) fact =
    IfSome held (λ files. (loading : Loading Basis) → OfFile Bases (get files form.project) loading
    → (continuing : Continuing) → OfSaved (get files form.project) loading (get files form.saved) continuing → fact (resume_outcome files form loading continuing))
Promised held (check project) fact =
    IfSome held (λ files. (loading : Loading Counts) → OfFile Checks (get files project) loading → fact (check_outcome files project loading))
Promised held (made form) fact = (loading : Loading Basis) → Bases (made_project form.copies) loading → fact (made_outcome form loading)

-- and of one that there is
abbrev pub Found : Option Files → Command → (Outcome → Type 0) → Type 0
Found held (play form) fact =
    IfSome held (λ files. (loading : Loading Program) × OfFile Loads (get files form.project) loading × fact (outcome_of files form loading))
Found held (resume form) fact =
    IfSome held (λ files. (loading : Loading Basis) × OfFile Bases (get files form.project) loading
    × ((continuing : Continuing) × OfSaved (get files form.project) loading (get files form.saved) continuing × fact (resume_outcome files form loading continuing)))
Found held (check project) fact =
    IfSome held (λ files. (loading : Loading Counts) × OfFile Checks (get files project) loading × fact (check_outcome files project loading))
Found held (made form) fact = (loading : Loading Basis) × Bases (made_project form.copies) loading × fact (made_outcome form loading)

-- where a status tells how the outcome ends, there is an outcome that ends so
abbrev pub IsFound : Option Files → Command → Status → Type 0
IsFound held command Done = Found held command (λ o. Tells Done o.ending)
IsFound held command (BadProject r) = Found held command (λ o. Tells (BadProject r) o.ending)
IsFound held command (BadSave r) = Found held command (λ o. Tells (BadSave r) o.ending)
IsFound held command (BadScript r) = Found held command (λ o. Tells (BadScript r) o.ending)
IsFound held command (Limit l) = Found held command (λ o. Tells (Limit l) o.ending)
IsFound held command (TooLarge file limit) = Found held command (λ o. Tells (TooLarge file limit) o.ending)
IsFound held command status = Unit {0}

-- 2. What is owed

-- What a call owes whose words ask for this, by what was seen of the shelf and the sink before it, s and k, and after it, t and l.
pub record Owes (command : Command) (s t : ShelfNow) (k l : SinkNow) (status : Status) : Type 0 where
  -- a fault only where its count rose
  pub fault : FaultCause (FileFailed s t command) (WriteFailed k l ⊎ PutFailed s t (name_of_save command)) (course status)
  -- no fault is told as another status
  pub honest : HidesNothing s t k l (course status)
  -- nor want of memory
  pub pure : HoldsNoWant status
  -- every other status exactly where the outcome ends so; a read fault, a write fault and want of memory no later in the order of
  -- work than they may come
  pub exact : Promised s.held command (λ o. AnswerCause (ProjectFailed s t command) (SavedFailed s t command) (Wanted s t) o.ending status)
  -- there is such an outcome
  pub found : IsFound s.held command status
  -- where nothing failed, the status tells the outcome's ending, or memory ran out
  pub complete : Promised s.held command (λ o. ¬ FileFailed s t command → ¬ WriteFailed k l → ¬ PutFailed s t (name_of_save command)
      → Tells status o.ending ⊎ (status ≡ NoMemory))
  -- which texts of the outcome were written, and by which writes
  pub wrote : Promised s.held command (λ o. Wrote k l (PutFailed s t (name_of_save command)) o.texts (course status))
  -- nothing where no line was played, whatever is told of the files
  pub silent : IsSilent k l (course status)
  -- what the shelf holds: the saved run under its name, after a failed put anything under this name, and all else what it held
  pub shelved : Promised s.held command (λ o. Shelved s t (name_put (name_of_save command) status) o.saved (course status))
  -- what it held, where nothing may be put, whatever is told of the files
  pub held : IsShelved s t (name_put (name_of_save command) status) (course status)
  -- each file was fetched once at most, in the order of work, and put once at most
  pub calls : CallsMade s t (files_of command) (fetched_at command status) (puts_of (name_put (name_of_save command) status)) (course status)

-- words that ask for nothing call nothing
abbrev pub Plays : Option Command → (s t : ShelfNow) → (k l : SinkNow) → Status → Type 0
Plays None s t k l status = IsIdle s t k l
Plays (Some command) s t k l status = Owes command s t k l status

-- the words ask for something
abbrev pub Asked : List (List ℕ) → (Command → Type 0) → Type 0
Asked words fact = IfSome (command_of words) fact
