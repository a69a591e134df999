use Rattle.project_json.proofs.Results.{json_one_tree}
use Rattle.project_json.proofs.laws.one_tree.Goals as goal

pub returns : goal.returns
returns c = json_one_tree
