use Rattle.project_json.proofs.Results.{bytes_text_or_fault}
use Rattle.project_json.proofs.laws.text_or_fault.Goals as goal

pub returns : goal.returns
returns c = bytes_text_or_fault
