use Rattle.saved_spec.specs.Instances.{instance}
use Rattle.saved_spec.specs.Ranges.{IsStanding}
use Rattle.saved_text.proofs.Lists.{AllFirst, Continues}
use Rattle.saved_text.proofs.instances.send_instances.Given as goal

abbrev pub invariant-loop-instance : goal.invariant-loop-instance
invariant-loop-instance g l = (Continues (instance l.stores) l.instances l.instance-index (g.S.Serializer.written l.initial.out) (g.S.Serializer.written l.out)) × AllFirst (IsStanding l.stores) l.instances l.instance-index
