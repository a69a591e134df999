-- One more execution is one more of the slice.
use Rattle.std.proofs.Common.{refl, sym, ap, ◌∙◌, arith}
use Rattle.machine_spec.specs.Places.{at_place}
use Rattle.machine_spec.specs.declared.threads.Report.{Report}
use Rattle.machine_spec.specs.Slice.{executing, most_executions}
use Rattle.project_check.specs.Loaded.{program_of}
use Rattle.thread_frames.specs.Levels.{top_block, warp_flag}
use Rattle.thread_frames.specs.Threads.{levels_of}
use Rattle.executions.specs.Seen.{seen}
use Rattle.frames.proofs.Slices.{holds_block, goes_on_lives, off_by, runner_flag, still_runs, flag_after, after_kept, slice-over, slice-stop, slice-on, slice-off}
use Rattle.frames.proofs.thread_slices.slice_from.Goals as goal

pub loop-execution-init : goal.loop-execution-init
loop-execution-init g c =
    let at = ap (λ z. levels_of (at_place z c.args.state.now.threads)) (sym c.runner-runner.ensures.place_is) in
    record {
      runs = c.runner-runner.ensures;
      below = omega arith;
      block = sym c.requires.block ∙ ap top_block at;
      flag = c.requires.flag ∙ ap warp_flag at;
      same = refl;
    }

pub returns-then-not-goes_on-clause-ok : goal.returns-then-not-goes_on-clause-ok
returns-then-not-goes_on-clause-ok g c =
    let p = c.args.project.now in
    let l = c.loop-execution in
    slice-off (executing (program_of p) c.args.slot) c.args.warp most_executions l.execution l.counted _ (seen g.R.Rng.stream p l.state) l.before l.invariant.same (omega (arith, c.loop-execution-test.true)) (l.invariant.flag ∙ sym (runner_flag p c.args.slot l.runner l.state l.invariant.runs))
    (seen g.R.Rng.stream p c.step_at.new.self) c.in-Ok.report _ _ c.in-Ok.ensures.ok c.counted_after-counted.ensures.value refl
    (off_by c.in-Ok.report l.before c.head-top.result.1 _ _ (λ e. c.head-top.ensures.warp ∙ flag_after p c.args.slot c.in-Ok.report c.step_at.new.runner c.step_at.new.self c.in-Ok.ensures.after e) c.if-not-goes_on.ensures)

pub returns-then-not-goes_on-clause-kept : goal.returns-then-not-goes_on-clause-kept
returns-then-not-goes_on-clause-kept g c = after_kept c.args.project.now c.args.slot c.in-Ok.report c.step_at.new.runner c.step_at.new.self c.in-Ok.ensures.after

pub returns-in-Err-clause-stop : goal.returns-in-Err-clause-stop
returns-in-Err-clause-stop g c =
    let p = c.args.project.now in
    let l = c.loop-execution in
    slice-stop (executing (program_of p) c.args.slot) c.args.warp most_executions l.execution l.counted _ (seen g.R.Rng.stream p l.state) l.before l.invariant.same (omega (arith, c.loop-execution-test.true)) (l.invariant.flag ∙ sym (runner_flag p c.args.slot l.runner l.state l.invariant.runs))
    Report (Unit {0}) c.in-Err.stop c.in-Err.ensures.stop

pub loop-execution-preserved : goal.loop-execution-preserved
loop-execution-preserved g c =
    let p = c.args.project.now in
    let l = c.loop-execution in
    let goes = goes_on_lives c.in-Ok.report l.before c.head-top.result.1 _ (sym c.if-not-goes_on.ensures) in
    record {
      runs = still_runs p c.args.slot c.in-Ok.report c.step_at.new.runner c.step_at.new.self c.in-Ok.ensures.after goes;
      block = c.head-top.ensures.block;
      below = omega (arith, c.counted_after-counted.ensures.bound, l.invariant.below);
      flag = c.head-top.ensures.warp;
      same =
          slice-on (executing (program_of p) c.args.slot) c.args.warp most_executions l.execution l.counted _ (seen g.R.Rng.stream p l.state) l.before l.invariant.same (omega (arith, c.loop-execution-test.true)) (l.invariant.flag ∙ sym (runner_flag p c.args.slot l.runner l.state l.invariant.runs))
          (seen g.R.Rng.stream p c.step_at.new.self) c.in-Ok.report _ _ c.in-Ok.ensures.ok c.counted_after-counted.ensures.value
          (c.head-top.ensures.warp ∙ flag_after p c.args.slot c.in-Ok.report c.step_at.new.runner c.step_at.new.self c.in-Ok.ensures.after goes) c.if-not-goes_on.ensures;
    }

pub unreachable-requires : goal.unreachable-requires
unreachable-requires g c =
    let l = c.loop-execution in
    holds_block c.args.project.now c.args.slot l.runner l.state l.invariant.runs (sym l.invariant.block ∙ c.in-None.is)

pub step_at-requires-clause-block : goal.step_at-requires-clause-block
step_at-requires-clause-block g c = sym c.loop-execution.invariant.block ∙ c.in-Some.is

pub returns-clause-ok : goal.returns-clause-ok
returns-clause-ok g c =
    let p = c.args.project.now in
    let l = c.loop-execution in
    slice-over (executing (program_of p) c.args.slot) c.args.warp most_executions l.execution l.counted _ (seen g.R.Rng.stream p l.state) l.invariant.same (omega (arith, c.loop-execution-test.false))

pub returns-clause-kept : goal.returns-clause-kept
returns-clause-kept g c = c.loop-execution.invariant.runs.ready.kept
