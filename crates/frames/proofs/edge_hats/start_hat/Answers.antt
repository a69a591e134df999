-- The hat is started as a task is.
use Rattle.std.proofs.Common.{ℕ, List}
use Rattle.frames.proofs.Passed.{fired-goes, fired-idle, fired-stops}
use Rattle.frames.proofs.edge_hats.start_hat.Goals as goal

pub returns-in-Ok-clause-ok : goal.returns-in-Ok-clause-ok
returns-in-Ok-clause-ok g c =
    fired-goes g.R.Rng.stream c.args.project.now c.args.state.now c.args.edge.now c.requires.idle c.fire.new.threads c.fire.new.next c.in-Ok._serials c.in-Ok.ensures.ok

pub returns-in-Ok-clause-kept : goal.returns-in-Ok-clause-kept
returns-in-Ok-clause-kept g c =
    fired-idle g.R.Rng.stream c.args.project.now c.args.state.now c.args.edge.now c.requires.idle c.fire.new.threads c.fire.new.next c.in-Ok._serials c.in-Ok.ensures.ok c.requires.edge c.in-Ok.ensures.fits c.in-Ok.ensures.few

pub returns-in-Err-clause-stop : goal.returns-in-Err-clause-stop
returns-in-Err-clause-stop g c =
    fired-stops g.R.Rng.stream c.args.project.now c.args.state.now c.args.edge.now c.requires.idle (List ℕ) (Unit {0}) c.in-Err.stop c.in-Err.ensures.stop
