-- A frame keeps a legal world legal.
use Rattle.machine_spec.specs.declared.lines.Line.TheVariants.{Frame}
use Rattle.project_check.specs.Loaded.{program_of}
use Rattle.executions.specs.Seen.{seen}
use Rattle.sequencer.proofs.Legal.{legal_behind}
use Rattle.sequencer.proofs.run.Run.frame.Goals as goal

pub returns-clause-legal : goal.returns-clause-legal
returns-clause-legal g c =
    legal_behind c.frame.result (program_of c.args.project.now) (Frame c.args.budget.now) (seen g.R.Rng.stream c.args.project.now c.args.self.now.state) (seen g.R.Rng.stream c.args.project.now c.frame.new.state)
    c.every_line_keeps_it_legal.ensures c.frame.ensures.ok
