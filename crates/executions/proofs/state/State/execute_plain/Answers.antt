-- A block without inputs is enacted with its fields alone.
use Rattle.std.proofs.Common.{ap}
use Rattle.machine_spec.specs.Words.{seen_words}
use Rattle.thread_frames.specs.Levels.{near_params}
use Rattle.executions.proofs.Rowing.{executes_so}
use Rattle.executions.proofs.state.State.execute_plain.Goals as goal

pub returns : goal.returns
returns g c =
    executes_so g.R.Rng.stream c.args.project.now c.args.slot c.args.id c.args.late c.no_inputs-args.result c.args.runner.now c.args.self.now c.requires.at _ (ap near_params c.levels_at-levels.ensures) c.args.self.now.words
    (λ s rest e. c.no_inputs-args.ensures s rest (seen_words g.R.Rng.stream c.args.self.now.words) e)
    c.enact.result c.enact.new.runner c.enact.new.self c.enact.ensures
