-- The input is evaluated, and then the block is enacted.
use Rattle.std.proofs.Common.{◌≡◌, ℕ, List, [], ◌∷◌, Some, sym, ap, ◌∙◌, refl}
use Rattle.std.specs.Prelude.{slice_get}
use Rattle.cached_blocks.specs.declared.block.CachedBlock.{CachedBlock}
use Rattle.cached_blocks.specs.Cached.{cached_blocks}
use Rattle.evaluate.specs.Seen.{fields_of}
use Rattle.project_spec.specs.Trees.{Sheet}
use Rattle.scratch_values.specs.declared.argument_values.Arg.{Arg}
use Rattle.scratch_values.specs.declared.names.ResolvedField.{ResolvedField}
use Rattle.scratch_values.specs.Args.{arguments}
use Rattle.scratch_values.specs.Held.{pair_of}
use Rattle.scratch_values.specs.Named.{Arguments}
use Rattle.machine_spec.specs.Words.{seen_words}
use Rattle.machine_spec.specs.Outcome.{Goes}
use Rattle.machine_spec.specs.declared.threads.Report.{Report}
use Rattle.executions.specs.Seen.{sheets}
use Rattle.executions.proofs.Enacting.{of_ok}
use Rattle.thread_frames.specs.Levels.{near_params}
use Rattle.executions.proofs.Rowing.{executes_so, runner_stopped}
use Rattle.executions.proofs.state.State.execute_one.Goals as goal

-- the arguments of a block with one input
sole_arguments : (first : Arg) (sheet : Sheet) (k : ℕ) (b : CachedBlock) → slice_get (cached_blocks sheet) k ≡ Some b → (fields : List ResolvedField) → fields ≡ b.fields → (a : Arguments) → a ≡ arguments (pair_of first ∷ []) fields
    → arguments (pair_of first ∷ []) (fields_of (slice_get (cached_blocks sheet) k)) ≡ a
sole_arguments first sheet k b here fields same a is = ap (λ o. arguments (pair_of first ∷ []) (fields_of o)) here ∙ ap (arguments (pair_of first ∷ [])) (sym same) ∙ sym is

pub returns-then-matches : goal.returns-then-matches
returns-then-matches g c =
    executes_so g.R.Rng.stream c.args.project.now c.args.slot c.args.id c.args.late (arguments (pair_of c.in-Ok.first ∷ []) c.args.block.now.fields) c.args.runner.now c.args.self.now c.requires.at _ (ap near_params c.levels_at-levels.ensures) c.only_input.new.words
    (λ s rest e. of_ok c.only_input.result _ c.in-Ok.first c.in-Ok.is c.only_input.ensures.ok s rest e
    ∙ ap (λ a. Goes (record { value = a; words = seen_words g.R.Rng.stream c.only_input.new.words })) (sole_arguments c.in-Ok.first (sheets c.args.project.now c.args.runner.now.target) c.args.id c.args.block.now c.requires.block c.args.block.now.fields refl (arguments (pair_of c.in-Ok.first ∷ []) c.args.block.now.fields) refl))
    c.enact_data_one.result c.args.runner.now c.enact_data_one.new.self c.enact_data_one.ensures

pub returns-else-matches : goal.returns-else-matches
returns-else-matches g c =
    executes_so g.R.Rng.stream c.args.project.now c.args.slot c.args.id c.args.late (arguments (pair_of c.in-Ok.first ∷ []) c.args.block.now.fields) c.args.runner.now c.args.self.now c.requires.at _ (ap near_params c.levels_at-levels.ensures) c.only_input.new.words
    (λ s rest e. of_ok c.only_input.result _ c.in-Ok.first c.in-Ok.is c.only_input.ensures.ok s rest e
    ∙ ap (λ a. Goes (record { value = a; words = seen_words g.R.Rng.stream c.only_input.new.words })) (sole_arguments c.in-Ok.first (sheets c.args.project.now c.args.runner.now.target) c.args.id c.args.block.now c.requires.block c.args.block.now.fields refl (arguments (pair_of c.in-Ok.first ∷ []) c.args.block.now.fields) refl))
    c.enact_by.result c.enact_by.new.runner c.enact_by.new.self c.enact_by.ensures

pub returns-in-Err : goal.returns-in-Err
returns-in-Err g c = record {
  ok = tt;
  after = tt;
  stop = runner_stopped g.R.Rng.stream c.args.project.now c.args.slot c.args.id c.args.late (record { values = []; fields = []; variables = [] }) c.args.runner.now c.args.self.now c.requires.at _ (ap near_params c.levels_at-levels.ensures) Arg Report c.only_input.result c.in-Err.stop c.in-Err.is c.only_input.ensures.stop;
}
