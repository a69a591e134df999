use Rattle.std.proofs.Common.{set, sym, ap, ◌∙◌}
use Rattle.std.proofs.lemmas.List.Edits.{map_over_more}
use Rattle.machine_spec.specs.declared.instance.Instance.{Instance}
use Rattle.machine_spec.specs.Line.{without_edges}
use Rattle.targets.proofs.changes.forget_all.Goals as goal

pub loop-place-preserved : goal.loop-place-preserved
loop-place-preserved c =
    ap (λ (x : Instance). set c.loop-place.instances c.loop-place.place x) c.forget.ensures
    ∙ ap (λ (x : Instance). set c.loop-place.instances c.loop-place.place (without_edges x)) (sym c.index-instances-place.is)
    ∙ map_over_more without_edges c.args.instances.now c.loop-place.instances c.loop-place.place c.index-instances-place.result c.loop-place-test.true c.loop-place.invariant c.index-instances-place.is
