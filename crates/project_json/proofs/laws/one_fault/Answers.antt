use Rattle.project_json.proofs.Results.{same_fault}
use Rattle.project_json.proofs.laws.one_fault.Goals as goal

pub returns : goal.returns
returns c = same_fault
