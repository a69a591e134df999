use Rattle.std.proofs.Common.{arith}
use Rattle.std.proofs.lemmas.Result.{on_ok_weaker}
use Rattle.saved_text.proofs.Lists.{all_sent}
use Rattle.saved_text.proofs.rows.send_each.Goals as goal

pub returns-clause-sent : goal.returns-clause-sent
returns-clause-sent g c =
    let at = g.S.Serializer.written in
    on_ok_weaker c.end_seq.result
    (all_sent g.T.Saved.as_data c.args.items.now c.loop-item.item-index (at c.args.out.now) (at c.begin_seq.new.self) (at c.loop-item.out) (at c.end_seq.new.self) (omega arith) c.in_ok-begin_seq.ensures c.loop-item.invariant.0)
    c.end_seq.ensures
