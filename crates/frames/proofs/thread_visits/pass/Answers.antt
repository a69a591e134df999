-- One more slice is one more of the pass.
use Rattle.std.proofs.Common.{Bool, arith}
use Rattle.machine_spec.specs.Slice.{most_slices}
use Rattle.project_check.specs.Loaded.{program_of}
use Rattle.executions.specs.Seen.{seen}
use Rattle.frames.proofs.OnePass.{pass-over, pass-off, pass-on, pass-stop}
use Rattle.frames.proofs.thread_visits.pass.Goals as goal

pub returns-in-Err-clause-stop : goal.returns-in-Err-clause-stop
returns-in-Err-clause-stop g c =
    let p = c.args.project.now in
    pass-stop (program_of p) c.args.first c.args.warp most_slices c.loop-slices.slices c.loop-slices.from _ (seen g.R.Rng.stream p c.loop-slices.state) c.loop-slices.active c.loop-slices.invariant.same (omega (arith, c.loop-slices-test.true)) _ (c.next_place.ensures.next p)
    c.in-Some.place c.in-Some.is Bool Bool c.in-Err.stop c.in-Err.ensures.stop

pub returns-in-None-clause-ok : goal.returns-in-None-clause-ok
returns-in-None-clause-ok g c =
    let p = c.args.project.now in
    pass-off (program_of p) c.args.first c.args.warp most_slices c.loop-slices.slices c.loop-slices.from _ (seen g.R.Rng.stream p c.loop-slices.state) c.loop-slices.active c.loop-slices.invariant.same (omega (arith, c.loop-slices-test.true)) _ (c.next_place.ensures.next p)
    c.in-None.is

pub loop-slices-preserved : goal.loop-slices-preserved
loop-slices-preserved g c =
    let p = c.args.project.now in
    record {
      resting = c.in-Ok.ensures.kept;
      same = pass-on (program_of p) c.args.first c.args.warp most_slices c.loop-slices.slices c.loop-slices.from _ (seen g.R.Rng.stream p c.loop-slices.state) c.loop-slices.active c.loop-slices.invariant.same (omega (arith, c.loop-slices-test.true)) _ (c.next_place.ensures.next p)
          c.in-Some.place c.in-Some.is (seen g.R.Rng.stream p c.visit.new.state) c.in-Ok.is_active _ c.in-Ok.ensures.ok c.either-active.ensures;
    }

pub returns-clause-ok : goal.returns-clause-ok
returns-clause-ok g c =
    let p = c.args.project.now in
    pass-over (program_of p) c.args.first c.args.warp most_slices c.loop-slices.slices c.loop-slices.from _ (seen g.R.Rng.stream p c.loop-slices.state) c.loop-slices.active c.loop-slices.invariant.same (omega (arith, c.loop-slices-test.false))
