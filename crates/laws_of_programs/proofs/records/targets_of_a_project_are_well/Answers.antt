use Rattle.laws_of_programs.proofs.TargetsHeld.{program_playable}
use Rattle.laws_of_programs.proofs.records.targets_of_a_project_are_well.Goals as goal

pub returns : goal.returns
returns c = program_playable
