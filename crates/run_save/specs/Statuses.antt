-- What the command tells of a status: a text and an exit number.
use Rattle.std.specs.Prelude.{◌≢◌, ℕ, List, ◌++◌, Option, None, Some, IsSome, codes}
use Rattle.std.specs.Fmt.{decimal}
use Rattle.project_spec.specs.RuleNames.{project_rule}
use Rattle.machine_spec.specs.declared.lines.LineRefusal.{LineRefusal}
use Rattle.machine_spec.specs.declared.lines.LineRefusal.TheVariants as line_refusal
use Rattle.saved_spec.specs.RuleNames.{saved_rule}
use Rattle.run_save.specs.declared.status.Detail.{Detail}
use Rattle.run_save.specs.declared.status.Detail.TheVariants.{Nothing, Rule, Line}
use Rattle.run_save.specs.declared.status.Status.{Status}
use Rattle.run_save.specs.declared.status.Status.TheVariants.{Done, Usage, ReadFault, WriteFault, BadProject, BadSave, BadScript, Limit, TooLarge, NoMemory}

-- the name of a status and the rule that is broken; want of memory breaks none
abbrev pub text_of_rule : (name : List ℕ) → Option (List ℕ) → List ℕ
text_of_rule name None = codes "NoMemory"
text_of_rule name (Some rule) = name ++ rule

-- the number of each refusal of a line, and the line, from 1; want of memory has none
abbrev pub text_of_line : LineRefusal → List ℕ
text_of_line (line_refusal.NotUtf8 line) = codes "BadScript 1 " ++ decimal line
text_of_line (line_refusal.UnknownLine line) = codes "BadScript 2 " ++ decimal line
text_of_line (line_refusal.BadNumber line) = codes "BadScript 3 " ++ decimal line
text_of_line (line_refusal.OutOfRange line) = codes "BadScript 4 " ++ decimal line
text_of_line (line_refusal.ClockBack line was is) = codes "BadScript 5 " ++ decimal line
text_of_line line_refusal.NoMemory = codes "NoMemory"

-- the name of the status, with the number of a refusal of a project or a saved run, or the number of a line's refusal and the line
abbrev pub text_of_status : Status → List ℕ
text_of_status Done = codes "Done"
text_of_status Usage = codes "Usage"
text_of_status ReadFault = codes "ReadFault"
text_of_status WriteFault = codes "WriteFault"
text_of_status (BadProject r) = text_of_rule (codes "BadProject ") (project_rule r)
text_of_status (BadScript r) = text_of_line r
text_of_status (BadSave r) = text_of_rule (codes "BadSave ") (saved_rule r)
text_of_status (Limit l) = codes "Limit"
text_of_status (TooLarge file limit) = codes "TooLarge"
text_of_status NoMemory = codes "NoMemory"

abbrev pub exit_of_rule : (number : ℕ) → Option (List ℕ) → ℕ
exit_of_rule number None = 9
exit_of_rule number (Some rule) = number

abbrev pub exit_of_line : LineRefusal → ℕ
exit_of_line line_refusal.NoMemory = 9
exit_of_line _ = 5

abbrev pub exit_of_status : Status → ℕ
exit_of_status Done = 0
exit_of_status Usage = 1
exit_of_status ReadFault = 2
exit_of_status WriteFault = 3
exit_of_status (BadProject r) = exit_of_rule 4 (project_rule r)
exit_of_status (BadScript r) = exit_of_line r
exit_of_status (BadSave r) = exit_of_rule 6 (saved_rule r)
exit_of_status (Limit l) = 7
exit_of_status (TooLarge file limit) = 8
exit_of_status NoMemory = 9

-- a name, and what stands behind it
abbrev pub told_text : List ℕ → Detail → List ℕ
told_text name Nothing = name
told_text name (Rule rule) = name ++ rule.now
told_text name (Line line) = name ++ decimal line

-- want of memory stands in no other status
abbrev pub HoldsNoWant : Status → Type 0
HoldsNoWant (BadProject r) = IsSome (project_rule r)
HoldsNoWant (BadSave r) = IsSome (saved_rule r)
HoldsNoWant (BadScript r) = r ≢ line_refusal.NoMemory
HoldsNoWant status = Unit {0}
