use Rattle.std.proofs.Common.{sym, ◌∙◌}
use Rattle.scratch_values.specs.declared.index.Index.TheVariants.{At}
use Rattle.std.proofs.Common.{List}
use Rattle.scratch_values.specs.declared.value.Value.{Value}
use Rattle.machine_spec.specs.DataRows.{deleted}
use Rattle.variables.proofs.Kept.{kept_is}
use Rattle.variables.proofs.Shapes.{list_changed_is, shape_is}
use Rattle.variables.proofs.state.Variables.delete.Goals as goal

pub invariant_of-self : goal.invariant_of-self
invariant_of-self c =
    kept_is c.args.of (record { stores = c.self.inside.stores.items; file_monitors = c.self.inside.file_monitors; made = c.self.inside.made }) c.args.self.now c.self.inside.zero c.self.inside.nothing c.in-Some.place c.index_mut.result.now c.delete.new.store
    c.self.view_is (sym c.place.ensures ∙ c.in-Some.is) c.index_mut.ensures.value c.delete.ensures.alike c.self.invariant

pub returns-in-Some-clause-new : goal.returns-in-Some-clause-new
returns-in-Some-clause-new c =
    list_changed_is c.args.of c.args.index (λ (l : List Value). deleted (At c.args.at) l) (record { stores = c.self.inside.stores.items; file_monitors = c.self.inside.file_monitors; made = c.self.inside.made }) c.args.self.now c.in-Some.place c.index_mut.result.now c.delete.new.store
    c.self.view_is (sym c.place.ensures ∙ c.in-Some.is) c.index_mut.ensures.value c.delete.ensures.new

pub returns-in-Some-clause-held : goal.returns-in-Some-clause-held
returns-in-Some-clause-held c =
    shape_is (record { stores = c.self.inside.stores.items; file_monitors = c.self.inside.file_monitors; made = c.self.inside.made }) c.args.self.now c.in-Some.place c.index_mut.result.now c.delete.new.store c.self.view_is c.index_mut.ensures.value c.delete.ensures.alike
