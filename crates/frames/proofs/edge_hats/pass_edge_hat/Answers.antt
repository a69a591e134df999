-- What follows the value of a hat follows the hat.
use Rattle.std.proofs.Common.{Bool}
use Rattle.frames.proofs.Passed.{value-ok, value-stop, value-stops}
use Rattle.frames.proofs.edge_hats.pass_edge_hat.Goals as goal

pub returns-in-Ok-clause-ok : goal.returns-in-Ok-clause-ok
returns-in-Ok-clause-ok g c =
    value-ok g.R.Rng.stream c.args.project.now c.args.state.now c.args.edge.now c.in-Ok.value c.evaluate_hat.new.words c.in-Ok.ensures.ok c.record_value.new.state c.record_value.result c.record_value.ensures.ok

pub returns-in-Ok-clause-stop : goal.returns-in-Ok-clause-stop
returns-in-Ok-clause-stop g c =
    value-stop g.R.Rng.stream c.args.project.now c.args.state.now c.args.edge.now c.in-Ok.value c.evaluate_hat.new.words c.in-Ok.ensures.ok c.record_value.result c.record_value.ensures.stop

pub returns-in-Err-clause-stop : goal.returns-in-Err-clause-stop
returns-in-Err-clause-stop g c = λ x is.
    value-stops g.R.Rng.stream c.args.project.now c.args.state.now c.args.edge.now x is Bool (Unit {0}) c.in-Err.stop c.in-Err.ensures.stop
