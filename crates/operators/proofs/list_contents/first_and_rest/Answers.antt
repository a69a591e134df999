use Rattle.std.proofs.Common.{true, ◌++◌, ap, ◌∙◌}
use Rattle.std.specs.Prelude.{flat_map}
use Rattle.operators.specs.Pieces.{piece}
use Rattle.operators.proofs.Pieces.{made_of_same, stops_of_same, pieces_apart}
use Rattle.operators.proofs.list_contents.first_and_rest.Goals as goal

pub returns-clause-ok : goal.returns-clause-ok
returns-clause-ok c = made_of_same c.followed.result _ _ (ap (λ t. t ++ flat_map (piece true) c.args.rest.now) (c.as_str.ensures.text ∙ c.of-first.ensures) ∙ pieces_apart c.args.first.now c.args.rest.now) c.followed.ensures.ok

pub returns-clause-stop : goal.returns-clause-stop
returns-clause-stop c = stops_of_same c.followed.result _ _ (ap (λ t. t ++ flat_map (piece true) c.args.rest.now) (c.as_str.ensures.text ∙ c.of-first.ensures) ∙ pieces_apart c.args.first.now c.args.rest.now) c.followed.ensures.stop
