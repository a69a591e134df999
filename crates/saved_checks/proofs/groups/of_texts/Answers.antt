-- Each rule is what was tested.
use Rattle.std.proofs.Common.{◌≡◌, [], ◌∷◌, ◌∙◌, ap}
use Rattle.std.specs.Prelude.{codes, nat_lt}
use Rattle.std.specs.List.{list_all}
use Rattle.std.specs.Option.{option_copied}
use Rattle.saved_parts.specs.Telling.{told_of, instance_of, question_of}
use Rattle.project_check.specs.Loaded.{basis_of}
use Rattle.project_spec.specs.Basis.{is_edge}
use Rattle.saved_spec.specs.Rules as rules
use Rattle.saved_spec.specs.Rules.{rule}
use Rattle.saved_checks.specs.Groups.{broken_in}
use Rattle.saved_checks.proofs.Joined.{mapped}
use Rattle.saved_checks.proofs.TextsTold.{little-told, params-told}
use Rattle.saved_checks.proofs.groups.of_texts.Goals as goal

pub returns : goal.returns
returns c =
    let b = basis_of c.args.project.now in
    let r = c.args.run.now in
    let t = told_of r in
    let is = c.as_slice-instances.result.now in
    let e = c.as_slice-instances.ensures in
    let answer : c.is_value_text.result ≡ rules.answer_is_short t = c.is_value_text.ensures in
    let little : c.have_little_to_say.result ≡ rules.instances_say_little t = little-told r is c.have_little_to_say.result e c.have_little_to_say.ensures in
    let questions : c.ask_briefly.result ≡ rules.questions_are_short t = mapped (λ q. rules.is_value_text q.text) question_of r.questions c.as_slice.result.now c.ask_briefly.result c.as_slice.ensures c.ask_briefly.ensures in
    let params : c.have_short_params.result ≡ rules.params_are_short t = params-told r c.as_slice-2.result.now c.have_short_params.result c.as_slice-2.ensures c.have_short_params.ensures in
    let bubbles : c.were_updated.result ≡ rules.bubbles_were_updated t = mapped (λ i. nat_lt i.bubble.usage r.next.usage) instance_of r.instances is c.were_updated.result e c.were_updated.ensures in
    let timers : c.timers_were_updated.result ≡ rules.timers_were_updated t = c.timers_were_updated.ensures ∙ ap (list_all (λ x. nat_lt x.usage r.next.usage)) c.as_slice-3.ensures in
    let edges : c.have_edges.result ≡ rules.edges_are_hats b t = mapped (λ i. list_all (λ e. is_edge i.of e.0 b) i.edges) instance_of r.instances is c.have_edges.result e c.have_edges.ensures in
    let tested : option_copied c.first_broken.result ≡ broken_in (
    rule (codes "answer") c.is_value_text.result
    ∷ rule (codes "instances") c.have_little_to_say.result
    ∷ rule (codes "questions") c.ask_briefly.result
    ∷ rule (codes "threads") c.have_short_params.result
    ∷ rule (codes "instances") c.were_updated.result
    ∷ rule (codes "timers") c.timers_were_updated.result
    ∷ rule (codes "instances") c.have_edges.result
    ∷ []) = c.first_broken.ensures in
    tested
    ∙ (λ j. broken_in (
    rule (codes "answer") (answer j)
    ∷ rule (codes "instances") (little j)
    ∷ rule (codes "questions") (questions j)
    ∷ rule (codes "threads") (params j)
    ∷ rule (codes "instances") (bubbles j)
    ∷ rule (codes "timers") (timers j)
    ∷ rule (codes "instances") (edges j)
    ∷ []))
