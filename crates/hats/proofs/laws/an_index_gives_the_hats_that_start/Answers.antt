-- Each head that passes is found under its key.
use Rattle.hats.proofs.Indexing.{starts-given, held-given}
use Rattle.hats.proofs.laws.an_index_gives_the_hats_that_start.Goals as goal

pub returns-clause-starts : goal.returns-clause-starts
returns-clause-starts c = λ p index f is at.
    starts-given c.a_kind_of_hat_has_one_opcode.ensures c.every_project_is_linked.ensures p index at c.the_hats_that_fit_are_those_of_their_keys.ensures.first c.the_hats_that_fit_are_those_of_their_keys.ensures.second f is

pub returns-clause-held : goal.returns-clause-held
returns-clause-held c = λ p index at. held-given c.a_kind_of_hat_has_one_opcode.ensures c.every_project_is_linked.ensures p index at
