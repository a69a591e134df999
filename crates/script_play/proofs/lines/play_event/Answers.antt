use Rattle.call_outcomes.specs.Seen.{sink_now}
use Rattle.machine_spec.specs.Line.{after}
use Rattle.project_check.specs.Loaded.{program_of}
use Rattle.sequencer.specs.Runs.{world_of}
use Rattle.script_play.proofs.Stopping.{event_applied}
use Rattle.script_play.proofs.lines.play_event.Goals as goal

pub returns-in-Ok-clause-plays : goal.returns-in-Ok-clause-plays
returns-in-Ok-clause-plays g c =
    let p = program_of c.args.project.now in
    event_applied p c.args.line (after p c.args.line (world_of g.R.Rng.stream c.args.project.now c.args.run.now)) (world_of g.R.Rng.stream c.args.project.now c.apply_line-applied.new.self)
    (sink_now g.K.Sink.written g.K.Sink.faults g.K.Sink.calls c.args.out.now) c.requires.event c.in-Ok.ensures.ok

pub returns-in-Err-clause-plays : goal.returns-in-Err-clause-plays
returns-in-Err-clause-plays g c = c.stopped.ensures (program_of c.args.project.now) c.args.line _ c.in-Err.ensures.stop
