-- What the command tells of a status on the standard error, and its exit number: those of the player's statuses.
use Rattle.std.specs.Prelude.{ℕ, List, ◌++◌, codes, Option, None, Some}
use Rattle.report_command.specs.declared.status.Status.{Status}
use Rattle.report_command.specs.declared.status.Status.TheVariants.{Done, Usage, ReadFault, WriteFault, BadProject, TooLarge, NoMemory}
use Rattle.project_spec.specs.RuleNames.{project_rule}

abbrev pub text_of_rule : Option (List ℕ) → List ℕ
text_of_rule None = codes "NoMemory"
text_of_rule (Some rule) = codes "BadProject " ++ rule

-- the name of the status, with the rule that a project breaks
abbrev pub text_of_status : Status → List ℕ
text_of_status Done = codes "Done"
text_of_status Usage = codes "Usage"
text_of_status ReadFault = codes "ReadFault"
text_of_status WriteFault = codes "WriteFault"
text_of_status (BadProject r) = text_of_rule (project_rule r)
text_of_status (TooLarge limit) = codes "TooLarge"
text_of_status NoMemory = codes "NoMemory"

abbrev pub exit_of_rule : Option (List ℕ) → ℕ
exit_of_rule None = 9
exit_of_rule (Some rule) = 4

abbrev pub exit_of_status : Status → ℕ
exit_of_status Done = 0
exit_of_status Usage = 1
exit_of_status ReadFault = 2
exit_of_status WriteFault = 3
exit_of_status (BadProject r) = exit_of_rule (project_rule r)
exit_of_status (TooLarge limit) = 8
exit_of_status NoMemory = 9
