use Rattle.std.proofs.Common.{List, ap, sym, ◌∙◌}
use Rattle.std.specs.Option.{option_copied}
use Rattle.scratch_values.specs.declared.value.Value.{Value}
use Rattle.machine_spec.specs.declared.variables.Store.{Store}
use Rattle.variables.proofs.Kept.{set-none}
use Rattle.variables.proofs.store.raise.Goals as goal

pub returns-in-None-clause-new : goal.returns-in-None-clause-new
returns-in-None-clause-new c =
    ap (λ (vs : List Value). let s : Store = record c.args.store.now { values = vs } in s)
    (sym (set-none c.args.store.now.values c.args.index _ (sym c.get.ensures ∙ ap (λ o. option_copied o) c.in-None.is)))
