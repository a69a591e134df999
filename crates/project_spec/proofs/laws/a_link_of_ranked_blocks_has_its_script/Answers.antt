use Rattle.project_spec.proofs.Unrolling.{script-is_read}
use Rattle.project_spec.proofs.laws.a_link_of_ranked_blocks_has_its_script.Goals as goal

pub returns : goal.returns
returns c = λ sheet ranks o ranked closed within. script-is_read sheet ranks ranked closed o within
