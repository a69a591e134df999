use Rattle.std.proofs.Common.{sym, subst}
use Rattle.call_outcomes.specs.Seen.{shelf_now, sink_now}
use Rattle.machine_spec.specs.Output.{played}
use Rattle.machine_spec.specs.ScriptText.{lines_of}
use Rattle.project_check.specs.Loaded.{program_of}
use Rattle.sequencer.specs.Runs.{world_of}
use Rattle.play_command.specs.Saving.{name_in, text_in, SavesInRange}
use Rattle.play_command.proofs.Saved.{ends_early, ends_late}
use Rattle.play_command.proofs.playback.play_on.Goals as goal

-- the script was played to its end
pub returns-in-Ok-clause-ends : goal.returns-in-Ok-clause-ends
returns-in-Ok-clause-ends g c =
    let run = played (program_of c.args.project.now) 1 c.args.run.now.state.devices.clock (world_of g.R.Rng.stream c.args.project.now c.args.run.now) (lines_of c.args.script.now) in
    let s = shelf_now g.H.Shelf.held g.H.Shelf.fetch_faults g.H.Shelf.put_faults g.H.Shelf.calls g.H.Shelf.wants c.args.shelf.now in
    let t = shelf_now g.H.Shelf.held g.H.Shelf.fetch_faults g.H.Shelf.put_faults g.H.Shelf.calls g.H.Shelf.wants c.end.new.shelf in
    let k = sink_now g.K.Sink.written g.K.Sink.faults g.K.Sink.calls c.args.out.now in
    let m = sink_now g.K.Sink.written g.K.Sink.faults g.K.Sink.calls c.play_lines.new.out in
    let l = sink_now g.K.Sink.written g.K.Sink.faults g.K.Sink.calls c.end.new.out in
    ends_late (name_in c.args.saving) (text_in c.args.saving) run (world_of g.R.Rng.stream c.args.project.now c.play_lines.new.run) s t k m l c.end.result c.in-Ok.ensures.plays c.end.ensures.ends

-- it was not
pub returns-in-Err-clause-ends : goal.returns-in-Err-clause-ends
returns-in-Err-clause-ends g c =
    let run = played (program_of c.args.project.now) 1 c.args.run.now.state.devices.clock (world_of g.R.Rng.stream c.args.project.now c.args.run.now) (lines_of c.args.script.now) in
    let s = shelf_now g.H.Shelf.held g.H.Shelf.fetch_faults g.H.Shelf.put_faults g.H.Shelf.calls g.H.Shelf.wants c.args.shelf.now in
    let k = sink_now g.K.Sink.written g.K.Sink.faults g.K.Sink.calls c.args.out.now in
    let l = sink_now g.K.Sink.written g.K.Sink.faults g.K.Sink.calls c.play_lines.new.out in
    ends_early (name_in c.args.saving) (text_in c.args.saving) run (world_of g.R.Rng.stream c.args.project.now c.play_lines.new.run) s k l c.in-Err.stop c.in-Err.ensures.plays

pub returns-in-Ok-clause-ranges : goal.returns-in-Ok-clause-ranges
returns-in-Ok-clause-ranges g c = subst (λ ending. SavesInRange c.args.saving ending c.end.result) (sym c.in-Ok.ensures.plays.ends) c.end.ensures.ranges
