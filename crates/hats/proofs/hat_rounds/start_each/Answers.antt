-- The hats that are left, from the threads so far, are all.
use Rattle.std.proofs.Common.{Err, sym, ap, ◌∙◌, subst}
use Rattle.machine_spec.specs.Outcome.{StopIs}
use Rattle.thread_frames.specs.Fit.{IsHeld}
use Rattle.hats.specs.Indexed.{hat_by}
use Rattle.hats.specs.Started.{crowd_of, started}
use Rattle.hats.proofs.Turns.{kept-more, one-held, walk-more, walk-stop, walk-end}
use Rattle.hats.proofs.hat_rounds.start_each.Goals as goal

pub returns-in-Err-clause-stop : goal.returns-in-Err-clause-stop
returns-in-Err-clause-stop c =
    let r = c.args.round.now in
    walk-stop r.running (hat_by r.opcode c.args.instance.now) _ (Unit {0}) (Unit {0}) c.in-Err.stop c.args.starts.now c.loop-start.start-index c.start-item.result (crowd_of c.loop-start.threads c.loop-start.numbers)
    c.loop-start-test.true c.start-item.is c.loop-start.invariant.walk
    (subst (λ h. StopIs {T = Unit {0}} (Err c.in-Err.stop) (started r.running h (crowd_of c.loop-start.threads c.loop-start.numbers))) c.hat_by-hat.ensures c.in-Err.ensures.stop)

pub loop-start-preserved : goal.loop-start-preserved
loop-start-preserved c =
    let r = c.args.round.now in record {
      walk = walk-more r.running (hat_by r.opcode c.args.instance.now) _ c.args.starts.now c.loop-start.start-index c.start-item.result (crowd_of c.loop-start.threads c.loop-start.numbers) (crowd_of c.start_hat.new.threads c.start_hat.new.numbers)
          c.loop-start-test.true c.start-item.is c.loop-start.invariant.walk
          (ap (λ h. started r.running h (crowd_of c.loop-start.threads c.loop-start.numbers)) (sym c.hat_by-hat.ensures) ∙ c.in-Ok.ensures.ok);
      kept = kept-more _ _ _ _ _ _ _ c.loop-start.invariant.kept (record {
        rising = c.start_hat.ensures.rising;
        few = c.start_hat.ensures.few;
        fits = λ sheets held all.
            c.start_hat.ensures.fits sheets
            (subst (λ h. IsHeld (sheets h.target) h.first) (sym c.hat_by-hat.ensures)
            (one-held (sheets c.args.instance.now.of) c.args.starts.now c.loop-start.start-index c.start-item.result c.loop-start-test.true c.start-item.is held))
            all;
      });
    }

pub returns-clause-ok : goal.returns-clause-ok
returns-clause-ok c =
    let r = c.args.round.now in
    walk-end r.running (hat_by r.opcode c.args.instance.now) _ c.args.starts.now c.loop-start.start-index (crowd_of c.loop-start.threads c.loop-start.numbers) c.loop-start-test.false c.loop-start.invariant.walk
