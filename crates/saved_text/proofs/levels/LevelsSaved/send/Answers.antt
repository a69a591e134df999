use Rattle.std.proofs.Common.{subst, arith}
use Rattle.std.specs.List.{All}
use Rattle.std.proofs.lemmas.List.{take_all}
use Rattle.std.proofs.lemmas.Result.{on_ok_weaker}
use Rattle.saved_text.specs.Ranges.{IsLevel}
use Rattle.saved_text.specs.Threads.{level}
use Rattle.saved_text.proofs.Lists.{reverse_sent}
use Rattle.saved_text.proofs.levels.LevelsSaved.send.Goals as goal

pub returns-clause-sent : goal.returns-clause-sent
returns-clause-sent g c =
    let at = g.S.Serializer.written in
    on_ok_weaker c.end_seq.result
    (reverse_sent level c.args.self.now c.depth-depth.result (at c.args.out.now) (at c.begin_seq.new.self) (at c.send_topmost.new.out) (at c.end_seq.new.self) c.depth-depth.ensures c.in_ok-begin_seq.ensures c.in_ok-send_topmost.ensures.sent)
    c.end_seq.ensures

pub returns-clause-ranges : goal.returns-clause-ranges
returns-clause-ranges g c =
    let ls = c.args.self.now in
    on_ok_weaker c.end_seq.result
    (λ e. subst (All IsLevel) (take_all c.depth-depth.result ls (omega (arith, c.depth-depth.ensures))) c.in_ok-send_topmost.ensures.ranges)
    c.end_seq.ensures
