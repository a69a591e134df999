use Rattle.std.proofs.Common.{◌≡◌, ◌&&◌, not, drop}
use Rattle.std.specs.List.{list_all}
use Rattle.std.specs.BTreeSet.{contains_by}
use Rattle.std.specs.Ordering.{nat_cmp}
use Rattle.std.specs.Cmp.Lexicographic.{slice_cmp}
use Rattle.saved_spec.specs.Rules.{texts_differ}
use Rattle.saved_checks.proofs.distinct.texts_differ.Given as goal

-- the texts that are left are not among those before, and differ
abbrev pub invariant-loop-text : goal.invariant-loop-text
invariant-loop-text l =
    texts_differ l.texts
    ≡ (list_all (λ t. not (contains_by (λ k. slice_cmp nat_cmp t k.now) l.seen)) (drop l.text-index l.texts) && texts_differ (drop l.text-index l.texts))
