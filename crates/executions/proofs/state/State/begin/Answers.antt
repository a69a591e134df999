-- The hats are started as tasks are.
use Rattle.std.proofs.Common.{ℕ, List}
use Rattle.executions.proofs.Begun.{hats_begin, hats_idle, hats_stop}
use Rattle.executions.proofs.state.State.begin.Goals as goal

pub returns-in-Ok-clause-ok : goal.returns-in-Ok-clause-ok
returns-in-Ok-clause-ok g c =
    hats_begin g.R.Rng.stream c.args.project.now c.args.self.now c.requires c.args.hats.now c.start.new.threads c.start.new.next c.in-Ok.serials (c.in-Ok.ensures.ok c.args.project.now c.hat_index-index.ensures)

pub returns-in-Ok-clause-kept : goal.returns-in-Ok-clause-kept
returns-in-Ok-clause-kept g c =
    hats_idle g.R.Rng.stream c.args.project.now c.args.self.now c.requires c.args.hats.now c.start.new.threads c.start.new.next c.in-Ok.serials (c.in-Ok.ensures.ok c.args.project.now c.hat_index-index.ensures) (c.in-Ok.ensures.fits c.args.project.now c.hat_index-index.ensures) c.in-Ok.ensures.few

pub returns-in-Err-clause-stop : goal.returns-in-Err-clause-stop
returns-in-Err-clause-stop g c =
    hats_stop g.R.Rng.stream c.args.project.now c.args.self.now c.requires c.args.hats.now (List ℕ) (Unit {0}) c.in-Err.stop (c.in-Err.ensures.stop c.args.project.now c.hat_index-index.ensures)
