-- The law over three calls: a script that is played in two parts, with a saved run between them, and the whole of it.
use Rattle.std.specs.Prelude.{◌≡◌, ℕ, ◌≤◌, List, ◌++◌, length, Option, None, Some}
use Rattle.std.specs.FinMap.{get}
use Rattle.sv_channels.specs.Files.{Files}
use Rattle.machine_spec.specs.Output.{Whole}
use Rattle.machine_spec.specs.ScriptText.{lines_of, script_limit}
use Rattle.machine_spec.specs.Tasks.{Task}
use Rattle.machine_spec.specs.World.{World}
use Rattle.project_spec.specs.Basis.{Basis}
use Rattle.saved_spec.specs.RunShapes.{Told}
use Rattle.laws_of_resuming.specs.Parts.{EndAlike, EndsALine, ending_moved}
use Rattle.play_command.specs.Command.{Form, ResumeForm}
use Rattle.project_spec.specs.Limits.{project_limit}
use Rattle.play_command.specs.Outcome.{accepted, continued, Continues, Ending, ran, Outcome, outcome_of, resume_outcome}
use Rattle.play_command.specs.Resuming.{TellsAgain}

-- what is played: a project file with its program, a seed, and a script in two parts
pub record Parts : Type 0 where
  pub project : List ℕ
  pub basis : Basis
  pub seed : ℕ
  pub a : List ℕ
  pub b : List ℕ

-- both calls save, or neither does
abbrev pub SaveAlike : Option (List ℕ) → Option (List ℕ) → Type 0
SaveAlike None None = Unit {0}
SaveAlike (Some name) (Some other) = Unit {0}
SaveAlike save other = ⊥

-- The first call plays part a, the second goes on with part b, the third plays both as one script. Part a ends a line. Each
-- finds the files that its words name, within their limits.
pub record AreCalls (x : Parts) (first : Files) (form : Form) (second : Files) (resumed : ResumeForm) (third : Files) (whole : Form) : Type 0 where
  pub first_project : get first form.project ≡ Some x.project
  pub second_project : get second resumed.project ≡ Some x.project
  pub third_project : get third whole.project ≡ Some x.project
  pub first_script : get first form.script ≡ Some x.a
  pub second_script : get second resumed.script ≡ Some x.b
  pub third_script : get third whole.script ≡ Some (x.a ++ x.b)
  pub first_seed : form.seed ≡ x.seed
  pub third_seed : whole.seed ≡ x.seed
  pub line : EndsALine x.a
  pub small : length x.project ≤ project_limit
  pub short : length (x.a ++ x.b) ≤ script_limit
  pub alike : SaveAlike resumed.save whole.save

-- the third call ends as the second: at the refused line whose number is larger by the number of lines of part a, at the same
-- limit, or with the same last world, but for its redraw request
abbrev pub EndingsAgree : (k : ℕ) → Ending → Ending → Type 0
EndingsAgree k (ran e) (ran f) = EndAlike f (ending_moved k e)
EndingsAgree k e f = f ≡ e

-- the texts of the first and of the second are those of the third, and the second puts what the third puts
pub record TwoAreOne (k : ℕ) (first second third : Outcome) : Type 0 where
  pub texts : third.texts ≡ first.texts ++ second.texts
  pub ending : EndingsAgree k second.ending third.ending
  pub saved : third.saved ≡ second.saved

-- So it is where the first call saves a text that is accepted again, and the second goes on with this text.
abbrev pub CallsAgree : Type 0
CallsAgree =
    (x : Parts) (first second third : Files) (form whole : Form) (resumed : ResumeForm) (last : World Task) (text : List ℕ) (t : Told)
    → AreCalls x first form second resumed third whole
    → (outcome_of first form (accepted x.basis.program)).ending ≡ ran (Whole last)
    → (outcome_of first form (accepted x.basis.program)).saved ≡ Some text
    → TellsAgain x.basis x.project x.seed last text
    → get second resumed.saved ≡ Some text
    → Continues x.basis x.project text (continued t)
    → TwoAreOne (length (lines_of x.a)) (outcome_of first form (accepted x.basis.program)) (resume_outcome second resumed (accepted x.basis) (continued t)) (outcome_of third whole (accepted x.basis.program))
