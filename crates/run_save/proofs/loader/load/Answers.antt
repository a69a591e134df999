use Rattle.script_words.specs.Words.{answers}
use Rattle.run_save.proofs.Again.{loads_again}
use Rattle.run_save.proofs.loader.load.Goals as goal

pub returns-clause-again : goal.returns-clause-again
returns-clause-again c =
    loads_again c.one_answer_at_most.ensures.accepted c.the_text_of_a_run_is_accepted.ensures c.the_world_of_a_run_is_told.ensures answers c.args.project.now c.args.digest.now c.args.bytes.now c.a_digest_has_its_bytes.ensures c.loaded.result c.loaded.ensures
