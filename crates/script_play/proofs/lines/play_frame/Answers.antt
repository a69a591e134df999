use Rattle.std.proofs.Common.{◌∙◌}
use Rattle.call_outcomes.specs.Seen.{sink_now}
use Rattle.machine_spec.specs.Line.{after}
use Rattle.machine_spec.specs.declared.lines.Line.TheVariants as line_of
use Rattle.project_check.specs.Loaded.{program_of}
use Rattle.sequencer.specs.Runs.{world_of}
use Rattle.script_play.proofs.Stopping.{frame_written}
use Rattle.script_play.proofs.lines.play_frame.Goals as goal

pub returns-in-Err-clause-plays : goal.returns-in-Err-clause-plays
returns-in-Err-clause-plays g c = c.stopped.ensures (program_of c.args.project.now) (line_of.Frame c.args.budget) _ c.in-Err.ensures.stop

pub returns-clause-plays : goal.returns-clause-plays
returns-clause-plays g c =
    let p = program_of c.args.project.now in
    let k = sink_now g.K.Sink.written g.K.Sink.faults g.K.Sink.calls c.args.out.now in
    let l = sink_now g.K.Sink.written g.K.Sink.faults g.K.Sink.calls c.write.new.out in
    frame_written p c.args.budget (after p (line_of.Frame c.args.budget) (world_of g.R.Rng.stream c.args.project.now c.args.run.now)) (world_of g.R.Rng.stream c.args.project.now c.frame.new.self) c.deref.result.now k l c.write.result
    c.in-Ok.ensures.ok (c.deref.ensures.value ∙ c.in-Ok-text_of.ensures) c.write.ensures.ends c.write.ensures.writes
