-- A loop without end is entered, whose block has its fields alone.
use Rattle.std.proofs.Common.{◌≡◌, true, Some, ap}
use Rattle.opcode_table.specs.declared.opcode.Opcode.{Opcode}
use Rattle.opcode_table.specs.declared.opcode.Opcode.TheVariants.{ControlForever}
use Rattle.scratch_values.specs.Named.{Arguments}
use Rattle.machine_spec.specs.Words.{seen_words}
use Rattle.machine_spec.specs.declared.threads.Control.TheVariants.{Branch}
use Rattle.executions.specs.Choices.{chosen}
use Rattle.thread_frames.specs.Levels.{near_params}
use Rattle.executions.proofs.Rowing.{chosen_so, executes_so}
use Rattle.executions.proofs.state.State.execute_forever.Goals as goal

-- a loop without end enters its branch
forever_enters : (op : Opcode) (a : Arguments) → op ≡ ControlForever → chosen op a ≡ Some (Branch 1 true)
forever_enters op a is = ap (λ o. chosen o a) is

pub returns : goal.returns
returns g c =
    executes_so g.R.Rng.stream c.args.project.now c.args.slot c.args.id c.args.late c.no_inputs-none.result c.args.runner.now c.args.self.now c.requires.at _ (ap near_params c.levels_at-levels.ensures) c.args.self.now.words
    (λ s rest e. c.no_inputs-none.ensures s rest (seen_words g.R.Rng.stream c.args.self.now.words) e)
    c.enter_chosen.result c.args.runner.now c.enter_chosen.new.self
    (chosen_so g.R.Rng.stream c.args.project.now c.args.slot c.args.id c.args.late c.args.block.now.op (Branch 1 true) c.args.self.now c.enter_chosen.result c.args.runner.now c.enter_chosen.new.self
    c.no_inputs-none.result (forever_enters c.args.block.now.op c.no_inputs-none.result c.requires.op) c.enter_chosen.ensures)
