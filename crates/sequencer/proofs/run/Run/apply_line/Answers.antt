-- A line keeps a legal world legal.
use Rattle.project_check.specs.Loaded.{program_of}
use Rattle.executions.specs.Seen.{seen}
use Rattle.sequencer.proofs.Legal.{legal_behind}
use Rattle.sequencer.proofs.run.Run.apply_line.Goals as goal

pub returns-clause-legal : goal.returns-clause-legal
returns-clause-legal g c =
    legal_behind c.apply_line.result (program_of c.args.project.now) c.args.line.now (seen g.R.Rng.stream c.args.project.now c.args.self.now.state) (seen g.R.Rng.stream c.args.project.now c.apply_line.new.state)
    c.every_line_keeps_it_legal.ensures c.apply_line.ensures.ok
