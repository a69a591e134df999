use Rattle.saved_text.proofs.Lists.{AllFirst, Continues}
use Rattle.saved_text.proofs.rows.send_each.Given as goal

abbrev pub invariant-loop-item : goal.invariant-loop-item
invariant-loop-item g l = (Continues g.T.Saved.as_data l.items l.item-index (g.S.Serializer.written l.initial.out) (g.S.Serializer.written l.out)) × AllFirst g.T.Saved.in_range l.items l.item-index
