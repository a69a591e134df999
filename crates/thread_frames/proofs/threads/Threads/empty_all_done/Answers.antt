use Rattle.std.proofs.Common.{sym, ap, ◌∙◌, arith, List}
use Rattle.thread_frames.specs.Stopping.{emptied}
use Rattle.thread_frames.specs.Threads.{Thread}
use Rattle.thread_frames.proofs.Walking.{rest-more, rest-all, rest-none, length-more, mapped_from-map}
use Rattle.thread_frames.proofs.threads.Threads.empty_all_done.Goals as goal

pub loop-slot-preserved : goal.loop-slot-preserved
loop-slot-preserved c = record {
  same = rest-more (λ k. emptied) _ _ _ c.empty_done.ensures ∙ c.loop-slot.invariant.same;
  length = length-more (λ k. emptied) _ _ _ c.empty_done.ensures ∙ c.loop-slot.invariant.length;
}

pub returns : goal.returns
returns c =
    sym (rest-all (λ k. emptied) c.loop-slot.slot c.loop-slot.self (omega (arith, c.loop-slot-test.false, c.loop-slot.invariant.length)))
    ∙ c.loop-slot.invariant.same ∙ rest-none (λ k. emptied) c.args.self.now
    ∙ ap (λ (xs : List Thread). record { list = xs; detached = c.args.self.now.detached }) (mapped_from-map emptied 0 c.args.self.now.list)
