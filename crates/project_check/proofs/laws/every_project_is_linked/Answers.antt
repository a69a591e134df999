use Rattle.project_check.proofs.Linked.{closed_at, ranked_at}
use Rattle.project_check.proofs.laws.every_project_is_linked.Goals as goal

pub returns : goal.returns
returns c = λ p t. (closed_at p t, ranked_at p t)
