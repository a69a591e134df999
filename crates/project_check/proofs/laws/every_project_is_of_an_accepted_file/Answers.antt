use Rattle.project_check.proofs.laws.every_project_is_of_an_accepted_file.Goals as goal

pub returns : goal.returns
returns c = λ p. p.told
