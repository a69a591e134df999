use Rattle.std.proofs.Common.{◌≡◌, ℕ, ◌+◌, ◌*◌, drop, map}
use Rattle.std.specs.List.{slice_index}
use Rattle.scratch_values.specs.Held.{pair_of}
use Rattle.machine_spec.specs.Words.{seen_words}
use Rattle.project_check.specs.Loaded.{ranks_at}
use Rattle.evaluate.specs.declared.view.View.{View}
use Rattle.evaluate.specs.Seen.{input_values}
use Rattle.evaluate.proofs.Values.{before}
use Rattle.evaluate.proofs.input_values.+evaluate.Given as goal

abbrev rank : View → ℕ → ℕ
rank v k = slice_index (ranks_at v.target v.project.now) k

abbrev pub decreases-operand : goal.decreases-operand
decreases-operand g l = 8 * rank l.view.now l.k

abbrev pub decreases-lent : goal.decreases-lent
decreases-lent g l = 8 * rank l.view.now l.k

abbrev pub decreases-number : goal.decreases-number
decreases-number g l = 8 * rank l.view.now l.k

abbrev pub decreases-truth : goal.decreases-truth
decreases-truth g l = 8 * rank l.view.now l.k

abbrev pub decreases-argument : goal.decreases-argument
decreases-argument g l = 8 * rank l.view.now l.k + 1

abbrev pub decreases-many : goal.decreases-many
decreases-many g l = 8 * rank l.view.now l.k + 2

abbrev pub decreases-arguments : goal.decreases-arguments
decreases-arguments g l = 8 * rank l.view.now l.k + 3

abbrev pub decreases-by_arguments : goal.decreases-by_arguments
decreases-by_arguments g l = 8 * rank l.view.now l.id + 4

abbrev pub decreases-calculation : goal.decreases-calculation
decreases-calculation g l = 8 * rank l.view.now l.id + 1

abbrev pub decreases-comparison_holds : goal.decreases-comparison_holds
decreases-comparison_holds g l = 8 * rank l.view.now l.id + 1

abbrev pub decreases-connective_holds : goal.decreases-connective_holds
decreases-connective_holds g l = 8 * rank l.view.now l.id + 1

abbrev pub decreases-both_texts : goal.decreases-both_texts
decreases-both_texts g l = 8 * rank l.view.now l.id + 1

abbrev pub decreases-rounded : goal.decreases-rounded
decreases-rounded g l = 8 * rank l.view.now l.id + 1

abbrev pub decreases-negated : goal.decreases-negated
decreases-negated g l = 8 * rank l.view.now l.id + 1

abbrev pub decreases-reporter : goal.decreases-reporter
decreases-reporter g l = 8 * rank l.view.now l.id + 5

abbrev pub decreases-reporter_number : goal.decreases-reporter_number
decreases-reporter_number g l = 8 * rank l.view.now l.id + 6

abbrev pub decreases-reporter_truth : goal.decreases-reporter_truth
decreases-reporter_truth g l = 8 * rank l.view.now l.id + 6

-- the values so far, and those of the inputs that are left
abbrev pub invariant-many-loop-input : goal.invariant-many-loop-input
invariant-many-loop-input g l = record {
  of : l.input-items ≡ l.block.inputs;
  same : input_values l.view l.input-items (seen_words g.R.Rng.stream l.fn.words) ≡ before (map pair_of l.args.items) (input_values l.view (drop l.input-index l.input-items) (seen_words g.R.Rng.stream l.words));
}
