use Rattle.std.proofs.Common.{subst}
use Rattle.thread_frames.specs.declared.slot_index.Key.{Key}
use Rattle.thread_frames.specs.Indexing.{Notes}
use Rattle.thread_frames.proofs.Keys.{first_push}
use Rattle.thread_frames.proofs.slot_index.SlotIndex.append.Goals as goal

pub returns-then-self : goal.returns-then-self
returns-then-self c = λ keys end are.
    first_push _ _ c.args.slot keys (record { of = c.args.of; hat = c.args.hat }) c.if-self.true (λ noted. subst (λ (k : Key). Notes c.args.self.now.slots c.note-self.new.slots k c.args.slot) c.new.ensures (c.note-self.ensures noted)) end are
