use Rattle.std.proofs.Common.{[], ap, sym}
use Rattle.scratch_values.specs.declared.value.Value.TheVariants.{Text}
use Rattle.operators.proofs.Defaults.{default_read, made_is}
use Rattle.reporters.proofs.instances.costume_at.Goals as goal

pub returns-in-None : goal.returns-in-None
returns-in-None c = made_is c.empty_text.result _ _ c.empty_text.ensures (ap Text (sym (default_read c.args.names.now c.args.place [] (sym c.in-None.ensures))))
