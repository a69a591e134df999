-- The thread in the slot is one of the hat.
use Rattle.std.proofs.Common.{◌≡◌, sym, ◌∙◌, subst}
use Rattle.std.specs.Prelude.{OnOk}
use Rattle.machine_spec.specs.Outcome.{Goes}
use Rattle.thread_frames.specs.Stops.{PushStopIs}
use Rattle.hats.proofs.Entering.{placed-is}
use Rattle.hats.proofs.hat_threads.place.Goals as goal

pub returns-in-Some-clause-ok : goal.returns-in-Some-clause-ok
returns-in-Some-clause-ok c =
    subst (λ o. OnOk c.replace.result (o ≡ Goes c.replace.new.self))
    (sym (placed-is c.args.running c.runs_at-runs.result c.args.hat.now.of c.args.hat.now.block c.in-Some.slot c.args.serial c.args.hat.now.target c.args.hat.now.first c.args.threads.now (sym c.slot_of_hat.ensures ∙ c.in-Some.is) c.runs_at-runs.ensures))
    c.replace.ensures.ok

pub returns-in-Some-clause-stop : goal.returns-in-Some-clause-stop
returns-in-Some-clause-stop c =
    subst (PushStopIs c.replace.result)
    (sym (placed-is c.args.running c.runs_at-runs.result c.args.hat.now.of c.args.hat.now.block c.in-Some.slot c.args.serial c.args.hat.now.target c.args.hat.now.first c.args.threads.now (sym c.slot_of_hat.ensures ∙ c.in-Some.is) c.runs_at-runs.ensures))
    c.replace.ensures.stop
