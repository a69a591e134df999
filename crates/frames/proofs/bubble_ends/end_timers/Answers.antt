-- One more timer that ends is one more turn.
use Rattle.std.proofs.Common.{◌≡◌, ◌-◌, ◌+◌, Bool, length, sym, ap, ◌∙◌, arith}
use Rattle.machine_spec.specs.Frame.{timers_ended}
use Rattle.executions.specs.Seen.{seen}
use Rattle.frames.proofs.Endings.{timers-over, timers-on, timers-off, timers-stop}
use Rattle.frames.proofs.bubble_ends.end_timers.Goals as goal

pub returns-in-Ok-false-clause-ok : goal.returns-in-Ok-false-clause-ok
returns-in-Ok-false-clause-ok g c =
    let start = seen g.R.Rng.stream c.args.project.now c.args.state.now in
    let count : length c.args.state.now.devices.timers ≡ c.len-count.result = sym (c.len-count.ensures ∙ ap length c.timers.ensures) in
    timers-off c.len-count.result c.loop-ended.ended _ _ (ap (λ n. timers_ended n start) count ∙ c.loop-ended.invariant.same) (omega (arith, c.loop-ended-test.true))
    c.in-Ok-false.field-0 _ c.in-Ok-false.field-0-test (c.in-Ok-false.ensures.ok (timers_ended (c.len-count.result - (c.loop-ended.ended + 1))))

pub returns-in-Err-clause-stop : goal.returns-in-Err-clause-stop
returns-in-Err-clause-stop g c =
    let start = seen g.R.Rng.stream c.args.project.now c.args.state.now in
    let count : length c.args.state.now.devices.timers ≡ c.len-count.result = sym (c.len-count.ensures ∙ ap length c.timers.ensures) in
    timers-stop c.len-count.result c.loop-ended.ended _ _ (ap (λ n. timers_ended n start) count ∙ c.loop-ended.invariant.same) (omega (arith, c.loop-ended-test.true))
    Bool (Unit {0}) c.in-Err.stop (c.in-Err.ensures.stop (timers_ended (c.len-count.result - (c.loop-ended.ended + 1))))

pub loop-ended-preserved : goal.loop-ended-preserved
loop-ended-preserved g c = record {
  idle = c.in-Ok-true.ensures.kept;
  same = timers-on c.len-count.result c.loop-ended.ended _ _ c.loop-ended.invariant.same (omega (arith, c.loop-ended-test.true))
      c.in-Ok-true.field-0 _ c.in-Ok-true.field-0-test (c.in-Ok-true.ensures.ok (timers_ended (c.len-count.result - (c.loop-ended.ended + 1))));
}

pub returns-clause-ok : goal.returns-clause-ok
returns-clause-ok g c =
    let start = seen g.R.Rng.stream c.args.project.now c.args.state.now in
    let count : length c.args.state.now.devices.timers ≡ c.len-count.result = sym (c.len-count.ensures ∙ ap length c.timers.ensures) in
    timers-over c.len-count.result c.loop-ended.ended _ _ (ap (λ n. timers_ended n start) count ∙ c.loop-ended.invariant.same) (omega (arith, c.loop-ended-test.false))
