use Rattle.std.proofs.Common.{◌∙◌, refl}
use Rattle.thread_frames.specs.Indexing.{keys_of}
use Rattle.thread_frames.proofs.Keys.{key_more, seen_end}
use Rattle.thread_frames.proofs.Removing.{Stand-more}
use Rattle.thread_frames.proofs.threads.Threads.add.Goals as goal

pub invariant_of-self-2 : goal.invariant_of-self-2
invariant_of-self-2 c = record {
  stand = Stand-more c.self.inside.pool (record { thread = c.args.thread; stack = record { top = 0; depth = 0 } }) c.self.inside.table _ refl c.self.invariant.stand c.in_ok-append.ensures.ok;
  indexed = key_more _ _ _ (record { thread = c.args.thread; stack = record { top = 0; depth = 0 } }) c.self.inside.table _ c.in_ok-append.ensures.ok c.of.ensures c.hat.ensures
      (c.append-2.ensures (keys_of c.self.inside.table.list) (c.len-slot.ensures ∙ seen_end c.self.inside.pool c.self.inside.table _ c.self.view_is) c.self.invariant.indexed);
}
