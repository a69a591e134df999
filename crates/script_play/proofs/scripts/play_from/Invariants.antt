use Rattle.std.proofs.Common.{◌≡◌, ◌+◌, length}
use Rattle.call_outcomes.specs.Seen.{sink_now}
use Rattle.machine_spec.specs.Output.{played}
use Rattle.machine_spec.specs.ScriptText.{lines_of}
use Rattle.project_check.specs.Loaded.{program_of}
use Rattle.sequencer.specs.Runs.{world_of, IsRunOf}
use Rattle.script_play.proofs.Parts.{IsPartOf}
use Rattle.script_play.proofs.scripts.play_from.Given as goal

-- some texts were written, each by one write, and what is left is the rest of the output
abbrev pub invariant-lines : goal.invariant-lines
invariant-lines g l =
    let p = program_of l.project in
    let all = played p 1 l.fn.run.state.devices.clock (world_of g.R.Rng.stream l.project l.fn.run) (lines_of l.script) in
    record {
      fits : IsRunOf l.project l.run;
      clock : l.reader.last ≡ l.run.state.devices.clock;
      part : IsPartOf all (played p (l.reader.number + 1) l.reader.last (world_of g.R.Rng.stream l.project l.run) l.reader.lines)
          (sink_now g.K.Sink.written g.K.Sink.faults g.K.Sink.calls l.fn.out) (sink_now g.K.Sink.written g.K.Sink.faults g.K.Sink.calls l.out);
    }

abbrev pub decreases-lines : goal.decreases-lines
decreases-lines g l = length l.reader.lines
