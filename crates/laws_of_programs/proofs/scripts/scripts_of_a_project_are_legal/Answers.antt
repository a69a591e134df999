use Rattle.laws_of_programs.proofs.ScriptsHeld.{scripts_legal}
use Rattle.laws_of_programs.proofs.scripts.scripts_of_a_project_are_legal.Goals as goal

pub returns : goal.returns
returns c = scripts_legal
