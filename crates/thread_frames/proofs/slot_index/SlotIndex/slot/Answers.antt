use Rattle.std.proofs.Common.{ap, ◌∙◌}
use Rattle.std.specs.HashMap.{get}
use Rattle.thread_frames.specs.declared.slot_index.Key.{Key}
use Rattle.thread_frames.specs.Indexing.{same_key}
use Rattle.thread_frames.proofs.slot_index.SlotIndex.slot.Goals as goal

pub returns : goal.returns
returns c = λ keys are. c.copied.ensures ∙ c.get.ensures.value ∙ ap (λ (k : Key). get same_key c.args.self.now.slots k) c.new.ensures ∙ are.first c.requires _
