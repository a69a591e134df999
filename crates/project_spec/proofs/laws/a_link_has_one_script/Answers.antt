use Rattle.project_spec.proofs.OneTree.{one_script}
use Rattle.project_spec.proofs.laws.a_link_has_one_script.Goals as goal

pub returns : goal.returns
returns c = one_script
