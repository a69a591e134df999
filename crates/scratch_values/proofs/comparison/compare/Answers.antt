use Rattle.std.proofs.Common.{ap, sym, ◌∙◌, subst}
use Rattle.std.specs.Ordering.{ordering_reverse}
use Rattle.std.proofs.lemmas.Result.{IfOk-weaker}
use Rattle.scratch_values.specs.Comparison.{IsUpTo}
use Rattle.scratch_values.proofs.Orders.{compare-swapped, compare-upto}
use Rattle.scratch_values.proofs.comparison.compare.Goals as goal

pub returns-clause-swapped : goal.returns-clause-swapped
returns-clause-swapped c =
    IfOk-weaker c.value_order.result _ _ (λ o is. compare-swapped c.args.a.now c.args.b.now ∙ ap ordering_reverse (sym is)) c.value_order.ensures

pub returns-clause-transitive : goal.returns-clause-transitive
returns-clause-transitive c =
    IfOk-weaker c.value_order.result _ _ (λ o is. λ v alike also first. compare-upto c.args.a.now c.args.b.now v alike also (subst IsUpTo is first)) c.value_order.ensures
