-- Each rule is what was tested.
use Rattle.std.proofs.Common.{◌≡◌, [], ◌∷◌, ◌∙◌, ap}
use Rattle.std.specs.Prelude.{codes}
use Rattle.std.specs.List.{list_all}
use Rattle.std.specs.Option.{option_copied}
use Rattle.saved_parts.specs.Telling.{told_of}
use Rattle.project_check.specs.Loaded.{basis_of}
use Rattle.saved_spec.specs.Rules as rules
use Rattle.saved_spec.specs.Rules.{rule}
use Rattle.saved_checks.specs.Groups.{broken_in}
use Rattle.saved_checks.proofs.ThreadsTold.{live-in, questions-told, timers-told, hats-told, blocks-told, given-told, few-told}
use Rattle.saved_checks.proofs.groups.of_threads.Goals as goal

pub returns : goal.returns
returns c =
    let b = basis_of c.args.project.now in
    let r = c.args.run.now in
    let t = told_of r in
    let ts = c.as_slice-threads.result.now in
    let e = c.as_slice-threads.ensures in
    let live = c.in_ok-live.live in
    let is = live-in live r c.as_slice.result.now c.as_slice.ensures c.in_ok-live.ensures in
    let questions : c.in_ok-questions.questions ≡ rules.questions_are_of_threads t = questions-told live r is c.as_slice-2.result.now c.in_ok-questions.questions c.as_slice-2.ensures c.in_ok-questions.ensures in
    let timers : c.in_ok-timers.timers ≡ rules.timers_are_of_threads t = timers-told live r is c.as_slice-3.result.now c.in_ok-timers.timers c.as_slice-3.ensures c.in_ok-timers.ensures in
    let due : c.are_due.result ≡ rules.timers_come_due t = c.are_due.ensures ∙ ap (list_all (λ x. rules.is_due_time x.due)) c.as_slice-4.ensures in
    let hats : c.in_ok-hats.hats ≡ rules.threads_are_of_hats b t = hats-told live r is b ts c.in_ok-hats.hats e c.in_ok-hats.ensures in
    let blocks : c.have_blocks.result ≡ rules.levels_are_of_blocks b t = blocks-told live r is b ts c.have_blocks.result e c.have_blocks.ensures in
    let given : c.have_given.result ≡ rules.started_were_there t = given-told r ts c.have_given.result e c.have_given.ensures in
    let few : c.have_few_levels.result ≡ rules.levels_are_few t = few-told r ts c.have_few_levels.result e c.have_few_levels.ensures in
    let tested : option_copied c.first_broken.result ≡ broken_in (
    rule (codes "questions") c.in_ok-questions.questions
    ∷ rule (codes "timers") c.in_ok-timers.timers
    ∷ rule (codes "timers") c.are_due.result
    ∷ rule (codes "threads") c.in_ok-hats.hats
    ∷ rule (codes "threads") c.have_blocks.result
    ∷ rule (codes "threads") c.have_given.result
    ∷ rule (codes "threads") c.have_few_levels.result
    ∷ []) = c.first_broken.ensures in
    tested
    ∙ (λ j. broken_in (
    rule (codes "questions") (questions j)
    ∷ rule (codes "timers") (timers j)
    ∷ rule (codes "timers") (due j)
    ∷ rule (codes "threads") (hats j)
    ∷ rule (codes "threads") (blocks j)
    ∷ rule (codes "threads") (given j)
    ∷ rule (codes "threads") (few j)
    ∷ []))
