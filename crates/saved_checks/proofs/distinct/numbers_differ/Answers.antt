-- No number is among those before it.
use Rattle.std.proofs.Common.{◌+◌, ◌==◌, ◌&&◌, not, ◌∷◌, drop, get_or, sym, ap, ◌∙◌}
use Rattle.std.specs.List.{list_all, list_any}
use Rattle.std.specs.BTreeSet.{contains}
use Rattle.std.specs.Ordering.{is_eq, nat_cmp}
use Rattle.std.proofs.lemmas.Bool.{not-true, not-false}
use Rattle.saved_spec.specs.Rules.{differ}
use Rattle.saved_checks.proofs.Fresh.{one-less, none-in, any-same, number-same, cut-at}
use Rattle.saved_checks.proofs.distinct.numbers_differ.Goals as goal

pub loop-number-init : goal.loop-number-init
loop-number-init c =
    sym (ap (λ t. t && differ c.args.numbers.now) (none-in (contains nat_cmp c.new-seen.result) (λ q. ap (list_any (λ k. is_eq (nat_cmp q k))) c.new-seen.ensures.empty) c.args.numbers.now))

pub returns-then-not-branch : goal.returns-then-not-branch
returns-then-not-branch c =
    let k = c.loop-number.number-index in
    let ns = c.args.numbers.now in
    let in_set = not-false (contains nat_cmp c.loop-number.seen (get_or ns k 0)) (sym c.in_ok-insert.ensures.added ∙ c.if-not-branch.true) in
    let rest = cut-at ns k 0 c.loop-number-test.true in
    sym (c.loop-number.invariant ∙ ap (λ xs. list_all (λ m. not (contains nat_cmp c.loop-number.seen m)) xs && differ xs) rest
    ∙ ap (λ t. (not t && list_all (λ m. not (contains nat_cmp c.loop-number.seen m)) (drop (k + 1) ns)) && differ (get_or ns k 0 ∷ drop (k + 1) ns)) in_set)

pub loop-number-preserved : goal.loop-number-preserved
loop-number-preserved c =
    let k = c.loop-number.number-index in
    let ns = c.args.numbers.now in
    let x = get_or ns k 0 in
    let old = contains nat_cmp c.loop-number.seen in
    let new = contains nat_cmp c.insert.new.self in
    let apart = not-true (old x) (sym c.in_ok-insert.ensures.added ∙ c.if-not-branch.false) in
    let rest = cut-at ns k 0 c.loop-number-test.true in
    c.loop-number.invariant ∙ ap (λ xs. list_all (λ m. not (old m)) xs && differ xs) rest
    ∙ one-less old new (λ q. is_eq (nat_cmp x q)) c.in_ok-insert.ensures.updates.0 x (drop (k + 1) ns) (list_any (λ m. m == x) (drop (k + 1) ns)) (differ (drop (k + 1) ns)) apart
    (any-same (λ m. m == x) (λ q. is_eq (nat_cmp x q)) (number-same x) (drop (k + 1) ns))
