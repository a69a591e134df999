-- The thread at the place is the running one.
use Rattle.std.proofs.Common.{refl, sym, ap, ◌∙◌}
use Rattle.machine_spec.specs.Places.{at_place}
use Rattle.thread_frames.specs.declared.thread.Thread.{Thread as Bare}
use Rattle.thread_frames.proofs.Alive.{bare_at}
use Rattle.executions.proofs.Runs.{runner_is}
use Rattle.executions.proofs.state.State.runner.Goals as goal

pub returns : goal.returns
returns g c =
    let old = bare_at (at_place c.place-which.result c.args.self.now.threads) c.in-Some.thread c.in-Some.ensures in
    runner_is c.args.project.now c.args.slot c.args.self.now c.requires c.place-which.result c.place-which.ensures old.0 (sym old.1) _ refl
    (record {
      target_is = c.target.ensures ∙ ap (λ (b : Bare). b.target) (sym old.2);
      here_is = c.of.ensures ∙ ap (λ (b : Bare). b.of) (sym old.2);
      serial_is = c.serial.ensures ∙ ap (λ (b : Bare). b.serial) (sym old.2);
    })
