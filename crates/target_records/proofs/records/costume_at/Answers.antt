use Rattle.std.proofs.Common.{[], ap, ◌∙◌}
use Rattle.std.specs.Prelude.{unwrap_or}
use Rattle.std.proofs.lemmas.Option.{unwrap_or-slice_get}
use Rattle.target_records.proofs.records.costume_at.Goals as goal

pub returns-in-None : goal.returns-in-None
returns-in-None c = ap (λ name. unwrap_or name []) c.in-None.ensures ∙ unwrap_or-slice_get c.args.names.now c.args.place []
