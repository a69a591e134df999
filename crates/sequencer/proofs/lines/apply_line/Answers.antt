-- A line stops as the machine's line does.
use Rattle.project_check.specs.Loaded.{program_of}
use Rattle.executions.specs.Seen.{seen}
use Rattle.sequencer.proofs.Stopping.{line_stops}
use Rattle.sequencer.proofs.lines.apply_line.Goals as goal

pub returns-clause-kind : goal.returns-clause-kind
returns-clause-kind g c =
    line_stops c.apply.result (program_of c.args.project.now) c.args.line.now (seen g.R.Rng.stream c.args.project.now c.args.state.now) c.requires.no_frame c.apply.ensures.stop
