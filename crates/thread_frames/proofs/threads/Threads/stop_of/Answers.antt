use Rattle.instance_index.proofs.Walk.{behind-last_below}
use Rattle.thread_frames.proofs.Ending.{walk_begins, walk_at, walk_on, walk_ends}
use Rattle.thread_frames.proofs.threads.Threads.stop_of.Goals as goal

pub loop-next-init : goal.loop-next-init
loop-next-init c = walk_begins c.args.except c.args.of _ _ _ c.note_search.ensures c.last_of-next.ensures

pub earlier_of-next-requires : goal.earlier_of-next-requires
earlier_of-next-requires c = walk_at c.args.except c.args.of _ _ _ _ c.loop-next.invariant c.in-Some.is

pub loop-next-smaller : goal.loop-next-smaller
loop-next-smaller c = behind-last_below _ _ c.in-Some.slot c.loop-next.next c.earlier_of-next.result c.in-Some.is c.earlier_of-next.ensures

pub loop-next-preserved : goal.loop-next-preserved
loop-next-preserved c = walk_on c.args.except c.args.of c.in-Some.slot _ _ _ _ _ c.loop-next.invariant c.in-Some.is c.stop_at.ensures c.earlier_of-next.ensures

pub returns : goal.returns
returns c = walk_ends c.args.except c.args.of _ _ _ c.loop-next.invariant c.in_default.is
