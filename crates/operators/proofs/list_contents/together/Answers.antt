use Rattle.operators.proofs.Pieces.{made_of_same, stops_of_same, pieces_together}
use Rattle.operators.proofs.list_contents.together.Goals as goal

pub returns-clause-ok : goal.returns-clause-ok
returns-clause-ok c = made_of_same c.followed.result _ _ (pieces_together c.args.items.now) c.followed.ensures.ok

pub returns-clause-stop : goal.returns-clause-stop
returns-clause-stop c = stops_of_same c.followed.result _ _ (pieces_together c.args.items.now) c.followed.ensures.stop
