use Rattle.std.proofs.Common.{ap, ◌∙◌}
use Rattle.script_words.specs.Words.{answers}
use Rattle.saved_spec.specs.Refusals.{first_difference}
use Rattle.run_save.proofs.SavedRun.{is_text_of_run}
use Rattle.run_save.proofs.loader.misspelled.Goals as goal

pub returns : goal.returns
returns c =
    c.difference.ensures
    ∙ ap (first_difference c.args.bytes.now)
    (c.deref.ensures.value ∙ c.in_ok-text.ensures.text
    ∙ is_text_of_run answers c.args.project.now _ c.args.run.now c.args.digest.now c.args.seed c.a_saved_run_is_its_world.ensures c.requires c.saved_run.ensures)
