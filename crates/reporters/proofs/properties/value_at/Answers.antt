use Rattle.std.proofs.Common.{◌∙◌}
use Rattle.std.proofs.lemmas.Option.{unwrap_or-slice_get}
use Rattle.scratch_values.specs.Casts.{zero_number}
use Rattle.scratch_values.specs.declared.value.Value.TheVariants.{Number}
use Rattle.machine_spec.specs.Stores.{store_at}
use Rattle.reporters.proofs.properties.value_at.Goals as goal

pub returns : goal.returns
returns c = c.value.ensures ∙ unwrap_or-slice_get (store_at c.args.of c.args.variables.now.stores).values c.args.index (Number zero_number)
