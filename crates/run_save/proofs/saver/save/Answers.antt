use Rattle.std.proofs.Common.{subst}
use Rattle.std.proofs.lemmas.Result.{IfOk-weaker}
use Rattle.saved_text.specs.Saving.{IsSaved}
use Rattle.saved_spec.specs.Saved.{saved_limit}
use Rattle.run_save.proofs.SavedRun.{is_text_of_run, ranges_of_run}
use Rattle.run_save.proofs.saver.save.Goals as goal

pub returns-clause-text : goal.returns-clause-text
returns-clause-text g c =
    subst (λ text. IsSaved saved_limit text c.save.result)
    (is_text_of_run g.R.Rng.stream c.args.project.now _ c.args.run.now c.args.digest.now c.args.seed c.a_saved_run_is_its_world.ensures c.requires c.saved_run.ensures)
    c.save.ensures.text

pub returns-clause-ranges : goal.returns-clause-ranges
returns-clause-ranges g c =
    IfOk-weaker c.save.result _ _
    (λ text ranges. ranges_of_run g.R.Rng.stream c.args.project.now _ c.args.run.now c.args.digest.now c.args.seed c.what_is_left_is_in_range.ensures c.requires c.saved_run.ensures ranges)
    c.save.ensures.ranges
