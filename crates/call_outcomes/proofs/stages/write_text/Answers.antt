use Rattle.call_outcomes.specs.Seen.{sink_now}
use Rattle.call_outcomes.proofs.Writings.{one_written}
use Rattle.call_outcomes.proofs.stages.write_text.Goals as goal

pub returns-clause-writes : goal.returns-clause-writes
returns-clause-writes g c =
    let k = sink_now g.K.Sink.written g.K.Sink.faults g.K.Sink.calls c.args.out.now in
    let l = sink_now g.K.Sink.written g.K.Sink.faults g.K.Sink.calls c.write.new.self in
    one_written k l c.args.text.now c.write.result c.write.ensures.answer c.write.ensures.steady c.write.ensures.faults c.write.ensures.calls
