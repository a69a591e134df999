use Rattle.std.proofs.Common.{subst}
use Rattle.std.specs.List.{All}
use Rattle.std.specs.Vec.Iter.{into_iter_items}
use Rattle.std.proofs.lemmas.List.Elements.{All-tail}
use Rattle.saved_parts.specs.Telling.{instance_of, store_of}
use Rattle.saved_stores.specs.Held.{IsHeld}
use Rattle.saved_stores.proofs.Turning.{turn}
use Rattle.saved_stores.proofs.instances.instances_told.Goals as goal

pub loop-told-preserved : goal.loop-told-preserved
loop-told-preserved c =
    let taken = c.in-Some.ensures.steps.0 in
    record {
      instances = turn instance_of c.loop-told.instances.items c.push.new.self.items _ (into_iter_items c.loop-told.told-iterator) (into_iter_items c.next.new.self) c.in-Some.told c.in_ok-instance.field-0.instance c.in_ok-push.ensures.items c.in_ok-instance.ensures.0 taken c.loop-told.invariant.instances;
      stores = turn store_of c.loop-told.stores.items c.push-in-loop-told.new.self.items _ (into_iter_items c.loop-told.told-iterator) (into_iter_items c.next.new.self) c.in-Some.told c.in_ok-instance.field-0.store c.in_ok-push-2.ensures.items c.in_ok-instance.ensures.1 taken c.loop-told.invariant.stores;
      left = All-tail IsHeld c.in-Some.told (into_iter_items c.next.new.self) (subst (All IsHeld) taken c.loop-told.invariant.left);
    }
