use Rattle.laws_of_programs.proofs.NumbersHeld.{program_within}
use Rattle.laws_of_programs.proofs.records.numbers_of_a_project_are_within_the_limit.Goals as goal

pub returns : goal.returns
returns c = program_within
