use Rattle.project_json.proofs.Sizes.{IsJson-size}
use Rattle.project_json.proofs.laws.no_more_than_bytes.Goals as goal

pub returns : goal.returns
returns c = IsJson-size
