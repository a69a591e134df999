use Rattle.std.proofs.Common.{sym, ◌∙◌}
use Rattle.call_outcomes.specs.Seen.{sink_now}
use Rattle.script_play.proofs.Stopping.{line_met, line_wants}
use Rattle.script_play.proofs.lines.stopped.Goals as goal

pub returns-in-Some : goal.returns-in-Some
returns-in-Some g c p l o h =
    let k = sink_now g.K.Sink.written g.K.Sink.faults g.K.Sink.calls c.args.out.now in
    let m = sink_now g.K.Sink.written g.K.Sink.faults g.K.Sink.calls c.tell_limit.new.out in
    line_met p l c.args.stop c.in-Some.limit o k m c.tell_limit.result (sym c.limit_of.ensures ∙ c.in-Some.is) h c.tell_limit.ensures.ends c.tell_limit.ensures.writes

pub returns-in-None : goal.returns-in-None
returns-in-None g c p l o h = line_wants p l o (sink_now g.K.Sink.written g.K.Sink.faults g.K.Sink.calls c.args.out.now)
