-- The command's words.
use Rattle.std.specs.Prelude.{ℕ, suc, ◌-◌, ◌^◌, List, [], ◌∷◌, Option, None, Some, bytes_eq, codes, option_map, if◌then◌else◌}
use Rattle.play_command.specs.WholeNumbers.{whole_up_to}
use Rattle.play_command.specs.declared.command.Command.{Command as CommandOfWords}
use Rattle.play_command.specs.declared.command.Command.TheVariants as words

-- the names of the files and the seed in `play PROJECT SCRIPT SEED SAVE`; with `-` nothing is saved
pub record Form : Type 0 where
  pub project : List ℕ
  pub script : List ℕ
  pub seed : ℕ
  pub save : Option (List ℕ)

-- the names of the files in `resume PROJECT SAVED SCRIPT SAVE`
pub record ResumeForm : Type 0 where
  pub project : List ℕ
  pub saved : List ℕ
  pub script : List ℕ
  pub save : Option (List ℕ)

-- the numbers in `made N FRAMES`: how many copies of its sprite the made project has, and how many frames the made script
pub record MadeForm : Type 0 where
  pub copies : ℕ
  pub frames : ℕ

-- the largest of these numbers
abbrev pub most_copies : ℕ
most_copies = 500

abbrev pub most_frames : ℕ
most_frames = 1000

-- what the words ask for: to play a project, to go on with a saved run of one, to check the project in a file, or to play the
-- made project
pub data Command : Type 0 where
  play : Form → Command
  resume : ResumeForm → Command
  check : (project : List ℕ) → Command
  made : MadeForm → Command

-- the name under which the run is saved, unless it is `-`
abbrev pub name_to_save : List ℕ → Option (List ℕ)
name_to_save save = if bytes_eq save (codes "-") then None else Some save

-- the seed is a whole number below 2^64
abbrev pub play_by : List ℕ → List ℕ → List ℕ → List ℕ → Option ℕ → List ℕ → Option Command
play_by command project script seed None save = None
play_by command project script seed (Some number) save =
    if bytes_eq command (codes "play") then Some (play (record { project = project; script = script; seed = number; save = name_to_save save })) else None

-- `resume PROJECT SAVED SCRIPT SAVE`, or `play PROJECT SCRIPT SEED SAVE`
unfoldable pub run_by : List ℕ → List ℕ → List ℕ → List ℕ → List ℕ → Option Command
run_by command project second third save =
    if bytes_eq command (codes "resume") then Some (resume (record { project = project; saved = second; script = third; save = name_to_save save }))
    else play_by command project second third (whole_up_to (2 ^ 64 - 1) third) save

-- `check PROJECT`
abbrev pub check_by : List ℕ → List ℕ → Option Command
check_by command project = if bytes_eq command (codes "check") then Some (check project) else None

-- `made N FRAMES`; each number is read as a seed is, and is not 0
abbrev pub made_by : List ℕ → Option ℕ → Option ℕ → Option Command
made_by command (Some (suc n)) (Some (suc k)) = if bytes_eq command (codes "made") then Some (made (record { copies = suc n; frames = suc k })) else None
made_by command copies frames = None

-- the command of the words, without the program's name
abbrev pub command_of : List (List ℕ) → Option Command
command_of (command ∷ project ∷ second ∷ third ∷ save ∷ []) = run_by command project second third save
command_of (command ∷ copies ∷ frames ∷ []) = made_by command (whole_up_to most_copies copies) (whole_up_to most_frames frames)
command_of (command ∷ project ∷ []) = check_by command project
command_of words = None

-- a helper of private functions: a command without where its words lie in memory
abbrev pub command_view : CommandOfWords → Command
command_view (words.Play project script seed save) = play (record { project = project.now; script = script.now; seed = seed; save = option_map (λ name. name.now) save })
command_view (words.Resume project saved script save) = resume (record { project = project.now; saved = saved.now; script = script.now; save = option_map (λ name. name.now) save })
command_view (words.Check project) = check project.now
command_view (words.Made copies frames) = made (record { copies = copies; frames = frames })
