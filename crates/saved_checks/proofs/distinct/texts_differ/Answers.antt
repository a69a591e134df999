-- No text is among those before it.
use Rattle.std.proofs.Common.{◌≡◌, ℕ, ◌+◌, true, ◌&&◌, not, List, ◌∷◌, drop, get_or, sym, ap, ◌∙◌}
use Rattle.std.specs.Prelude.{bytes_eq, cond}
use Rattle.std.specs.List.{list_all, list_any}
use Rattle.std.specs.BTreeSet.{contains_by}
use Rattle.std.specs.Ordering.{is_eq, nat_cmp}
use Rattle.std.specs.Cmp.Lexicographic.{slice_cmp}
use Rattle.std.proofs.lemmas.Bool.{not-true, not-false}
use Rattle.std.proofs.lemmas.Map.Text.{is_eq-slice_cmp}
use Rattle.saved_spec.specs.Rules.{texts_differ}
use Rattle.saved_checks.proofs.Fresh.{one-less, none-in, any-same, cut-at}
use Rattle.saved_checks.proofs.distinct.texts_differ.Goals as goal

pub loop-text-init : goal.loop-text-init
loop-text-init c =
    sym (ap (λ t. t && texts_differ c.args.texts.now) (none-in (λ t. contains_by (λ k. slice_cmp nat_cmp t k.now) c.new-seen.result)
    (λ q. ap (list_any (λ k. is_eq (slice_cmp nat_cmp q k.now))) c.new-seen.ensures.empty) c.args.texts.now))

pub returns-then-not-branch : goal.returns-then-not-branch
returns-then-not-branch c =
    let k = c.loop-text.text-index in
    let ts = c.args.texts.now in
    let old = λ (t : List ℕ). contains_by (λ k. slice_cmp nat_cmp t k.now) c.loop-text.seen in
    let is = c.as_str.ensures ∙ c.text-item.is in
    let in_set = ap old (sym is) ∙ not-false (old c.as_str.result.now) (sym c.in_ok-insert.ensures.added ∙ c.if-not-branch.true) in
    let rest = cut-at ts k c.text-item.result c.loop-text-test.true in
    sym (c.loop-text.invariant ∙ ap (λ xs. list_all (λ m. not (old m)) xs && texts_differ xs) rest
    ∙ ap (λ t. (not t && list_all (λ m. not (old m)) (drop (k + 1) ts)) && texts_differ (get_or ts k c.text-item.result ∷ drop (k + 1) ts)) in_set)

pub loop-text-preserved : goal.loop-text-preserved
loop-text-preserved c =
    let k = c.loop-text.text-index in
    let ts = c.args.texts.now in
    let x = get_or ts k c.text-item.result in
    let old = λ (t : List ℕ). contains_by (λ k. slice_cmp nat_cmp t k.now) c.loop-text.seen in
    let new = λ (t : List ℕ). contains_by (λ k. slice_cmp nat_cmp t k.now) c.insert.new.self in
    let is = c.as_str.ensures ∙ c.text-item.is in
    let apart = ap old (sym is) ∙ not-true (old c.as_str.result.now) (sym c.in_ok-insert.ensures.added ∙ c.if-not-branch.false) in
    let rest = cut-at ts k c.text-item.result c.loop-text-test.true in
    let hit = λ (t : List ℕ). is_eq (slice_cmp nat_cmp c.as_str.result.now t) in
    let gains : (t : List ℕ) → new t ≡ cond (hit t) true (old t) = λ t. c.in_ok-insert.ensures.updates.0 (record { ref_ptr = (0, 0); now = t }) in
    c.loop-text.invariant ∙ ap (λ xs. list_all (λ m. not (old m)) xs && texts_differ xs) rest
    ∙ one-less old new hit gains x (drop (k + 1) ts) (list_any (bytes_eq x) (drop (k + 1) ts)) (texts_differ (drop (k + 1) ts)) apart
    (ap (λ t. list_any (bytes_eq t) (drop (k + 1) ts)) (sym is) ∙ any-same (bytes_eq c.as_str.result.now) hit (λ t. sym (is_eq-slice_cmp c.as_str.result.now t)) (drop (k + 1) ts))
