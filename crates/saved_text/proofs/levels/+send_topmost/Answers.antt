use Rattle.std.proofs.Common.{◌/◌, arith}
use Rattle.std.proofs.lemmas.Result.{on_ok_weaker}
use Rattle.saved_text.specs.Ranges.{IsLevel}
use Rattle.saved_text.specs.Threads.{level}
use Rattle.saved_text.proofs.Lists.{halves_all, halves_sent}
use Rattle.saved_text.proofs.levels.+send_topmost.Goals as goal

pub returns-clause-sent : goal.returns-clause-sent
returns-clause-sent g t c =
    let at = g.S.Serializer.written in
    on_ok_weaker c.send_topmost-2.result
    (halves_sent level c.args.levels.now c.below.result (c.args.count / 2) c.args.count (at c.args.out.now) (at c.send_topmost.new.out) (at c.send_topmost-2.new.out) (omega arith) c.below.ensures c.in_ok-send_topmost.ensures.sent)
    c.send_topmost-2.ensures.sent

pub returns-clause-ranges : goal.returns-clause-ranges
returns-clause-ranges g t c =
    on_ok_weaker c.send_topmost-2.result
    (λ upper. halves_all IsLevel c.args.levels.now c.below.result (c.args.count / 2) c.args.count (omega arith) c.below.ensures upper c.in_ok-send_topmost.ensures.ranges)
    c.send_topmost-2.ensures.ranges
