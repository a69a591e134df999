-- Each place is the next one, or leaves the next one behind it.
use Rattle.std.proofs.Common.{sym, ◌∙◌, arith}
use Rattle.executions.specs.Seen.{sheets}
use Rattle.frames.proofs.OnePass.{gets_alive, next_here, next_later, next_over}
use Rattle.frames.proofs.thread_visits.next_place.Goals as goal

pub returns-then-gets_slice-clause-next : goal.returns-then-gets_slice-clause-next
returns-then-gets_slice-clause-next c = λ p. sym (c.loop-place.invariant.same p ∙ next_here (sheets p) c.args.first c.loop-place.place c.args.threads.now.list (omega (arith, c.loop-place-test.true, c.len-place-end.ensures)) c.if-gets_slice.ensures)

pub returns-then-gets_slice-clause-alive : goal.returns-then-gets_slice-clause-alive
returns-then-gets_slice-clause-alive c = gets_alive c.args.first c.loop-place.place c.args.threads.now c.if-gets_slice.ensures

pub loop-place-preserved : goal.loop-place-preserved
loop-place-preserved c = record { same = λ p. c.loop-place.invariant.same p ∙ next_later (sheets p) c.args.first c.loop-place.place c.args.threads.now.list (omega (arith, c.loop-place-test.true, c.len-place-end.ensures)) c.if-gets_slice.ensures }

pub returns-clause-next : goal.returns-clause-next
returns-clause-next c = λ p. sym (c.loop-place.invariant.same p ∙ next_over (sheets p) c.args.first c.loop-place.place c.args.threads.now.list (omega (arith, c.loop-place-test.false, c.len-place-end.ensures)))
