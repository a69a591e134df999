use Rattle.std.proofs.Common.{sym, []}
use Rattle.scratch_values.specs.declared.value.Value.TheVariants.{Text}
use Rattle.operators.proofs.Defaults.{default_read, made_is}
use Rattle.reporters.proofs.list_items.item.Goals as goal

pub returns-in-None : goal.returns-in-None
returns-in-None c = made_is c.empty_text.result _ _ c.empty_text.ensures (sym (default_read c.args.items.now c.args.others (Text []) (sym c.in-None.ensures)))
