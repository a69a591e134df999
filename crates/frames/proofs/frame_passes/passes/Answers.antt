-- One more pass is one more of the frame.
use Rattle.std.proofs.Common.{Bool, refl, arith}
use Rattle.project_check.specs.Loaded.{program_of}
use Rattle.executions.specs.Seen.{seen}
use Rattle.frames.proofs.FramePasses.{goes_is, done_seen, done_idle, passes-over, passes-off, passes-on, passes-stop}
use Rattle.frames.proofs.frame_passes.passes.Goals as goal

pub returns-then-not-goes_on-clause-ok : goal.returns-then-not-goes_on-clause-ok
returns-then-not-goes_on-clause-ok g c =
    let p = c.args.project.now in
    passes-off (program_of p) c.args.warp c.args.passes c.loop-made.made _ c.loop-made.first c.loop-made.active (seen g.R.Rng.stream p c.loop-made.state) c.loop-made.invariant.same (omega (arith, c.loop-made-test.true)) _ (goes_is g.R.Rng.stream p c.loop-made.state c.loop-made.active _ c.if-not-goes_on.ensures)
    refl

pub returns-in-Err-clause-stop : goal.returns-in-Err-clause-stop
returns-in-Err-clause-stop g c =
    let p = c.args.project.now in
    passes-stop (program_of p) c.args.warp c.args.passes c.loop-made.made _ c.loop-made.first c.loop-made.active (seen g.R.Rng.stream p c.loop-made.state) c.loop-made.invariant.same (omega (arith, c.loop-made-test.true)) _ (goes_is g.R.Rng.stream p c.loop-made.state c.loop-made.active _ c.if-not-goes_on.ensures)
    refl Bool (Unit {0}) c.in-Err.stop c.in-Err.ensures.stop

pub loop-made-preserved : goal.loop-made-preserved
loop-made-preserved g c =
    let p = c.args.project.now in
    record {
      idle = done_idle g.R.Rng.stream p c.pass.new.state c.remove_done.new.self c.remove_done.ensures c.in-Ok.ensures.kept;
      same = passes-on (program_of p) c.args.warp c.args.passes c.loop-made.made _ c.loop-made.first c.loop-made.active (seen g.R.Rng.stream p c.loop-made.state) c.loop-made.invariant.same (omega (arith, c.loop-made-test.true)) _ (goes_is g.R.Rng.stream p c.loop-made.state c.loop-made.active _ c.if-not-goes_on.ensures)
          refl (seen g.R.Rng.stream p c.pass.new.state) _ c.in-Ok.is_active c.in-Ok.ensures.ok (done_seen g.R.Rng.stream p c.pass.new.state c.remove_done.new.self c.remove_done.ensures);
    }

pub returns-clause-ok : goal.returns-clause-ok
returns-clause-ok g c =
    let p = c.args.project.now in
    passes-over (program_of p) c.args.warp c.args.passes c.loop-made.made _ c.loop-made.first c.loop-made.active (seen g.R.Rng.stream p c.loop-made.state) c.loop-made.invariant.same (omega (arith, c.loop-made-test.false))
