-- WHAT A CALL DOES where nothing fails: what the files that it names stand for, what it writes and puts, and how it ends.
--
-- The machine is that of machine_spec/specs: script trees, threads with what is left to do, slices, passes, frames. A frame's text
-- is that of FrameText there; Output goes through the lines of a script, which ScriptText reads; the text of a saved run is that of
-- saved_spec/specs, Saved. Which project files are accepted, the refusal of the others, and the program of an accepted file, is that
-- of project_spec/specs, Refusals; which saved runs are accepted is that of saved_spec/specs, Refusals.
use Rattle.std.specs.Prelude.{◌≡◌, ◌≢◌, ℕ, ◌≤◌, nat_lt, List, [], ◌∷◌, ◌++◌, length, map, codes, Option, None, Some, if◌then◌else◌}
use Rattle.std.specs.Fmt.{decimal}
use Rattle.std.specs.FinMap.{get}
use Rattle.sv_channels.specs.Files.{Files}
use Rattle.sha2.specs.Sha256.{sha256}
use Rattle.script_words.specs.Words.{answers, seeded}
use Rattle.machine_spec.specs.Words.{Words}
use Rattle.machine_spec.specs.Program.{Program}
use Rattle.machine_spec.specs.First.{first_world}
use Rattle.machine_spec.specs.FrameText.{line}
use Rattle.machine_spec.specs.ScriptText.{lines_of, script_limit}
use Rattle.machine_spec.specs.Output.{Output, Ending as RunEnding, Whole, played}
use Rattle.machine_spec.specs.Tasks.{Task}
use Rattle.machine_spec.specs.World.{World}
use Rattle.project_spec.specs.Reading.{File, blocks_in}
use Rattle.project_spec.specs.Refusals.{IsRefusal, IsAccepted, IsProgram, IsProject}
use Rattle.project_spec.specs.declared.refusals.Refusal.{Refusal}
use Rattle.project_check.specs.Counts.{block_count}
use Rattle.saved_spec.specs.Worlds.{world_told}
use Rattle.project_spec.specs.Basis.{Basis}
use Rattle.saved_spec.specs.Refusals.{IsRefused, IsAccepted as IsSavedRun}
use Rattle.saved_spec.specs.RunShapes.{Told}
use Rattle.saved_spec.specs.declared.refusals.SaveRefusal.{SaveRefusal}
use Rattle.saved_spec.specs.declared.refusals.SaveRefusal.TheVariants as save_refusal
use Rattle.saved_spec.specs.Saved.{snapshot, saved_text, saved_limit}
use Rattle.saved_spec.specs.Tasks.{task}
use Rattle.run_save.specs.declared.status.Which.{Which}
use Rattle.run_save.specs.declared.status.Which.TheVariants as which
use Rattle.script_play.specs.Limits.{limit_save_line}
use Rattle.play_command.specs.Command.{Form, ResumeForm}
use Rattle.project_spec.specs.Limits.{project_limit}
use Rattle.play_command.specs.declared.counts.Counts.{Counts}

-- 1. What a project file stands for

-- the file is refused, or accepted as this
pub data Loading (A : Type 0) : Type 0 where
  refused : Refusal → Loading A
  accepted : A → Loading A

-- what is played: the program of the file
abbrev pub Loads : List ℕ → Loading Program → Type 0
Loads bytes (refused r) = IsRefusal bytes r
Loads bytes (accepted p) = IsProject bytes p

-- how many targets and blocks a file has
abbrev pub counts_of : File → Counts
counts_of f = record { targets = length (blocks_in f); blocks = block_count (blocks_in f) }

-- what is checked: how many there are
abbrev pub Checks : List ℕ → Loading Counts → Type 0
Checks bytes (refused r) = IsRefusal bytes r
Checks bytes (accepted c) = (f : File) × IsAccepted bytes f × (c ≡ counts_of f)

-- what is gone on with: the program of the file, and how many blocks each target has
abbrev pub Bases : List ℕ → Loading Basis → Type 0
Bases bytes (refused r) = IsRefusal bytes r
Bases bytes (accepted b) = (f : File) × IsAccepted bytes f × IsProgram f b.program × (b.blocks ≡ map length (blocks_in f))

-- the same of a file that may not be held, or be too long to be read
abbrev pub OfFile : {A : Type 0} → (List ℕ → Loading A → Type 0) → Option (List ℕ) → Loading A → Type 0
OfFile reads None loading = Unit {0}
OfFile reads (Some bytes) loading = length bytes ≤ project_limit → reads bytes loading

-- a saved run is refused, or tells this run
pub data Continuing : Type 0 where
  rejected : SaveRefusal → Continuing
  continued : Told → Continuing

-- what a saved run of a project file stands for; want of memory is no refusal
abbrev pub Continues : Basis → (project bytes : List ℕ) → Continuing → Type 0
Continues b project bytes (rejected r) = (r ≢ save_refusal.NoMemory) × IsRefused b (sha256 project) bytes r
Continues b project bytes (continued t) = IsSavedRun b (sha256 project) bytes t

-- the same where both files are held, the project is accepted, and the saved run is not too long
abbrev pub OfSaved : Option (List ℕ) → Loading Basis → Option (List ℕ) → Continuing → Type 0
OfSaved (Some project) (accepted b) (Some bytes) continuing = length bytes ≤ saved_limit → Continues b project bytes continuing
OfSaved project loading bytes continuing = Unit {0}

-- 2. What the call writes and answers where nothing fails: the order of work

-- how the loading of the files ends where nothing fails and there is nothing to play
pub data LoadEnding : Type 0 where
  missing : Which → LoadEnding
  too_large : Which → ℕ → LoadEnding
  not_accepted : Refusal → LoadEnding
  not_continued : SaveRefusal → LoadEnding

-- the files were not loaded; the counts of a project were told; its script ended so; or it ran to its end, but the text of
-- the saved run, of so many bytes, is too long
pub data Ending : Type 0 where
  unloaded : LoadEnding → Ending
  told : Ending
  ran : RunEnding → Ending
  unsaved : (length : ℕ) → Ending

-- the texts that are written, each by one write; the ending; and the text that is put, if the run is saved
pub record Outcome : Type 0 where
  pub texts : List (List ℕ)
  pub ending : Ending
  pub saved : Option (List ℕ)

abbrev pub ends : LoadEnding → Outcome
ends ending = record { texts = []; ending = unloaded ending; saved = None }

-- nothing is saved
abbrev pub only_written : List (List ℕ) → RunEnding → Outcome
only_written writes ending = record { texts = writes; ending = ran ending; saved = None }

-- the text of a run that is saved is put where it has at most 128 MiB; else a line tells its length
abbrev pub put_or_told : (text : List ℕ) → List (List ℕ) → RunEnding → Outcome
put_or_told text writes ending =
    if nat_lt saved_limit (length text)
    then record { texts = writes ++ limit_save_line (length text) ∷ []; ending = unsaved (length text); saved = None }
    else record { texts = writes; ending = ran ending; saved = Some text }

-- a run is saved where its script was played to its end
abbrev pub at_ending : (World Task → List ℕ) → List (List ℕ) → RunEnding → Outcome
at_ending text writes (Whole last) = put_or_told (text last) writes (Whole last)
at_ending text writes ending = only_written writes ending

-- and where there is a name to save it under
abbrev pub all_of : (save : Option (List ℕ)) → (World Task → List ℕ) → Output → Outcome
all_of None text run = only_written run.writes run.ending
all_of (Some name) text run = at_ending text run.writes run.ending

-- a file that is held and within its limit
abbrev pub fetched : Which → ℕ → Option (List ℕ) → (List ℕ → Outcome) → Outcome
fetched file limit None next = ends (missing file)
fetched file limit (Some bytes) next = if nat_lt limit (length bytes) then ends (too_large file limit) else next bytes

abbrev pub loaded : {A : Type 0} → Loading A → (A → Outcome) → Outcome
loaded (refused r) next = ends (not_accepted r)
loaded (accepted a) next = next a

-- the random words of a seed, of which none was drawn
abbrev pub words_of : (seed : ℕ) → Words
words_of seed = record { stream = answers (seeded seed); drawn = 0 }

-- the lines of a script, the first of which has the number 1, from the first world on; the clock stands at 0 before them
abbrev pub output_of : Program → Words → (script : List ℕ) → Output
output_of p words script = played p 1 0 (first_world p words) (lines_of script)

-- the text of a saved run of a project file: it names the SHA-256 of the file and the seed of the random words
abbrev pub text_from : (digest : List ℕ) → (seed : ℕ) → World Task → List ℕ
text_from digest seed w = saved_text task (snapshot digest seed w)

abbrev pub text_of_run : (project : List ℕ) → (seed : ℕ) → World Task → List ℕ
text_of_run project seed w = text_from (sha256 project) seed w

-- fetch and load the project (32 MiB), fetch the script (16 MiB), play its lines, save the run
abbrev pub outcome_of : Files → Form → Loading Program → Outcome
outcome_of files form loading =
    fetched which.Project project_limit (get files form.project) (λ project.
    loaded loading (λ p.
    fetched which.Script script_limit (get files form.script) (λ script.
    all_of form.save (text_of_run project form.seed) (output_of p (words_of form.seed) script))))

abbrev pub told_to : Continuing → (Told → Outcome) → Outcome
told_to (rejected r) next = ends (not_continued r)
told_to (continued t) next = next t

-- the lines of a script on the world that a saved run tells, whose clock stands where it stood
abbrev pub output_from : Basis → Told → (script : List ℕ) → Output
output_from b t script = played b.program 1 t.run.devices.clock (world_told b t) (lines_of script)

-- fetch and load the project (32 MiB), fetch and load the saved run (128 MiB), fetch the script (16 MiB), play its lines, save
-- the run under the seed of the saved one
abbrev pub resume_outcome : Files → ResumeForm → Loading Basis → Continuing → Outcome
resume_outcome files form loading continuing =
    fetched which.Project project_limit (get files form.project) (λ project.
    loaded loading (λ b.
    fetched which.Saved saved_limit (get files form.saved) (λ bytes.
    told_to continuing (λ t.
    fetched which.Script script_limit (get files form.script) (λ script.
    all_of form.save (text_of_run project t.run.seed) (output_from b t script))))))

-- `accepted T B`: T targets and B blocks
abbrev pub accepted_line : Counts → List ℕ
accepted_line c = line (codes "accepted" ∷ decimal c.targets ∷ decimal c.blocks ∷ [])

abbrev pub told_counts : Counts → Outcome
told_counts c = record { texts = accepted_line c ∷ []; ending = told; saved = None }

-- fetch the project (32 MiB), check it, and tell its counts
abbrev pub check_outcome : Files → List ℕ → Loading Counts → Outcome
check_outcome files project loading = fetched which.Project project_limit (get files project) (λ bytes. loaded loading told_counts)
