use Rattle.std.proofs.Common.{length, refl, arith}
use Rattle.std.proofs.lemmas.Option.{slice_get_read}
use Rattle.std.proofs.lemmas.Result.{on_ok_weaker}
use Rattle.saved_spec.specs.Instances.{instance}
use Rattle.saved_spec.specs.Ranges.{IsStanding}
use Rattle.saved_text.proofs.Lists.{all_sent, continued, first_all, first_one}
use Rattle.saved_text.proofs.instances.send_instances.Goals as goal

pub returns-clause-sent : goal.returns-clause-sent
returns-clause-sent g c =
    let at = g.S.Serializer.written in
    on_ok_weaker c.end_seq.result
    (all_sent (instance c.args.stores.now) c.args.instances.now c.loop-instance.instance-index (at c.args.out.now) (at c.begin_seq.new.self) (at c.loop-instance.out) (at c.end_seq.new.self) (omega arith) c.in_ok-begin_seq.ensures c.loop-instance.invariant.0)
    c.end_seq.ensures

pub loop-instance-preserved : goal.loop-instance-preserved
loop-instance-preserved g c =
    let at = g.S.Serializer.written in
    let is = c.args.instances.now in
    let n = c.loop-instance.instance-index in
    let there = slice_get_read is (length is) n c.instance-item.result refl c.loop-instance-test.true c.instance-item.is in (
      continued (instance c.args.stores.now) is n c.instance-item.result (at c.begin_seq.new.self) (at c.loop-instance.out) (at c.send_instance.new.out) there c.in_ok-send_instance.ensures.sent c.loop-instance.invariant.0,
      first_one (IsStanding c.args.stores.now) is n c.instance-item.result there c.in_ok-send_instance.ensures.ranges c.loop-instance.invariant.1,
    )

pub returns-clause-ranges : goal.returns-clause-ranges
returns-clause-ranges g c = on_ok_weaker c.end_seq.result (λ e. first_all (IsStanding c.args.stores.now) c.args.instances.now c.loop-instance.instance-index (omega arith) c.loop-instance.invariant.1) c.end_seq.ensures
