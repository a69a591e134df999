use Rattle.project_json.proofs.Results.{text_no_fault}
use Rattle.project_json.proofs.laws.text_has_no_fault.Goals as goal

pub returns : goal.returns
returns c = text_no_fault
