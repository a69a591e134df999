use Rattle.std.proofs.Common.{◌≡◌, ◌+◌, Option, sym, ap, ◌∙◌, subst}
use Rattle.std.specs.Prelude.{drop, option_map}
use Rattle.call_outcomes.specs.Seen.{sink_now}
use Rattle.machine_spec.specs.declared.lines.Line.{Line}
use Rattle.machine_spec.specs.Line.{after}
use Rattle.machine_spec.specs.Outcome.{Goes}
use Rattle.machine_spec.specs.Output.{in_front, played}
use Rattle.machine_spec.specs.ScriptText.{Good, lines_of, clock_after}
use Rattle.project_check.specs.Loaded.{program_of}
use Rattle.input_script.specs.Reader.{Reader, next_reading, reader_after, behind}
use Rattle.sequencer.specs.Runs.{world_of}
use Rattle.script_play.specs.Lines.{line_writes}
use Rattle.script_play.proofs.Parts.{part_more, part_stopped, part_refused}
use Rattle.script_play.proofs.Turns.{follows, turn_good, turn_refused}
use Rattle.script_play.proofs.scripts.play_from.Goals as goal

-- a line is refused
pub returns-in-Err-clause-plays : goal.returns-in-Err-clause-plays
returns-in-Err-clause-plays g c =
    let p = program_of c.args.project.now in
    let w = world_of g.R.Rng.stream c.args.project.now c.lines.run in
    let k = sink_now g.K.Sink.written g.K.Sink.faults g.K.Sink.calls c.args.out.now in
    let m = sink_now g.K.Sink.written g.K.Sink.faults g.K.Sink.calls c.lines.out in
    let all = played p 1 c.args.run.now.state.devices.clock (world_of g.R.Rng.stream c.args.project.now c.args.run.now) (lines_of c.args.script.now) in
    part_refused all (played p (c.lines.reader.number + 1) c.lines.reader.last w c.lines.reader.lines) w k m c.in-Err.refusal c.refused_line.result
    c.lines.invariant.part c.refused_line.ensures (λ n. turn_refused (Option Line) p c.lines.reader w c.in-Err.refusal n c.in-Err.ensures.refused)

pub lines-preserved : goal.lines-preserved
lines-preserved g c =
    let p = program_of c.args.project.now in
    let w = world_of g.R.Rng.stream c.args.project.now c.lines.run in
    let v = world_of g.R.Rng.stream c.args.project.now c.play_line.new.run in
    let k = sink_now g.K.Sink.written g.K.Sink.faults g.K.Sink.calls c.args.out.now in
    let m = sink_now g.K.Sink.written g.K.Sink.faults g.K.Sink.calls c.lines.out in
    let l = sink_now g.K.Sink.written g.K.Sink.faults g.K.Sink.calls c.play_line.new.out in
    let all = played p 1 c.args.run.now.state.devices.clock (world_of g.R.Rng.stream c.args.project.now c.args.run.now) (lines_of c.args.script.now) in
    let old = c.lines.reader in
    let next = c.next_line.new.self in
    let line = c.in-Some.line in
    let inv = c.lines.invariant in
    let read = subst (λ (o : Option Line). next_reading old ≡ option_map Good o) c.in-Some.is c.in-Ok.ensures.ok in
    let moved : next ≡ behind line old = subst (λ (o : Option Line). next ≡ reader_after o old) c.in-Some.is c.in-Ok.ensures.after in
    let fs = line_writes p line (after p line w) in
    let goes : after p line w ≡ Goes v = c.in-Ok-play_line.ensures.world in
    let turned = turn_good p old w line read
    ∙ ap (λ o. in_front fs (follows p (old.number + 1 + 1) (clock_after old.last (Good line)) o (drop 1 old.lines))) goes
    ∙ ap (λ (r : Reader). in_front fs (played p (r.number + 1) r.last v r.lines)) (sym moved) in
    record {
      fits = c.in-Ok-play_line.ensures.fits;
      clock = ap (λ (r : Reader). r.last) moved ∙ ap (λ n. clock_after n (Good line)) inv.clock ∙ sym c.in-Ok-play_line.ensures.clock;
      part = part_more all (played p (old.number + 1) old.last w old.lines) (played p (next.number + 1) next.last v next.lines) fs k m l inv.part turned c.in-Ok-play_line.ensures.plays.writes;
    }

-- a line stops the play
pub returns-in-Err-play_line-clause-plays : goal.returns-in-Err-play_line-clause-plays
returns-in-Err-play_line-clause-plays g c =
    let p = program_of c.args.project.now in
    let w = world_of g.R.Rng.stream c.args.project.now c.lines.run in
    let k = sink_now g.K.Sink.written g.K.Sink.faults g.K.Sink.calls c.args.out.now in
    let m = sink_now g.K.Sink.written g.K.Sink.faults g.K.Sink.calls c.lines.out in
    let l = sink_now g.K.Sink.written g.K.Sink.faults g.K.Sink.calls c.play_line.new.out in
    let all = played p 1 c.args.run.now.state.devices.clock (world_of g.R.Rng.stream c.args.project.now c.args.run.now) (lines_of c.args.script.now) in
    let old = c.lines.reader in
    let line = c.in-Some.line in
    let read = subst (λ (o : Option Line). next_reading old ≡ option_map Good o) c.in-Some.is c.in-Ok.ensures.ok in
    part_stopped p line (after p line w) (old.number + 1 + 1) (clock_after old.last (Good line)) (drop 1 old.lines) all (played p (old.number + 1) old.last w old.lines)
    (world_of g.R.Rng.stream c.args.project.now c.play_line.new.run) k m l c.in-Err-play_line.stop c.lines.invariant.part (turn_good p old w line read) c.in-Err-play_line.ensures.plays
