use Rattle.project_json.proofs.Put.{put-found, put-others}
use Rattle.project_json.proofs.laws.later_value_is_found.Goals as goal

pub returns-clause-later : goal.returns-clause-later
returns-clause-later c = put-found

pub returns-clause-others : goal.returns-clause-others
returns-clause-others c = put-others
