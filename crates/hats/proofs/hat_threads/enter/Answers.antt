-- The new thread fits, and every other is one that was there.
use Rattle.thread_frames.specs.Fit.{Fits}
use Rattle.hats.proofs.Entering.{new-fits, placed-fits, appended-fits}
use Rattle.hats.proofs.hat_threads.enter.Goals as goal

pub returns-then-hat-clause-fits : goal.returns-then-hat-clause-fits
returns-then-hat-clause-fits c = λ sheets held all.
    placed-fits (Fits sheets) _ _ (new-fits sheets c.args.serial c.args.hat.now.of c.args.hat.now.target c.args.hat.now.block c.args.hat.now.first held) c.args.running _ c.args.threads.now c.place.result c.place.ensures.ok c.place.ensures.err all

pub returns-else-hat-clause-fits : goal.returns-else-hat-clause-fits
returns-else-hat-clause-fits c = λ sheets held all.
    appended-fits (Fits sheets) _ _ (new-fits sheets c.args.serial c.args.hat.now.of c.args.hat.now.target c.args.hat.now.block c.args.hat.now.first held) c.args.threads.now c.append.result c.append.ensures.ok c.append.ensures.err all
