use Rattle.saved_text.specs.Threads.{thread}
use Rattle.saved_text.specs.Ranges.{IsThread}
use Rattle.saved_text.proofs.Lists.{AllFirst, Continues}
use Rattle.saved_text.proofs.levels.ThreadsSaved.send.Given as goal

abbrev pub invariant-loop-slot : goal.invariant-loop-slot
invariant-loop-slot g l = (Continues thread l.self.list l.slot (g.S.Serializer.written l.initial.out) (g.S.Serializer.written l.out)) × AllFirst IsThread l.self.list l.slot
