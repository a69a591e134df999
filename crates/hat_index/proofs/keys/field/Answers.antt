-- The text of a field is sought among all fields of the block.
use Rattle.std.proofs.Common.{sym, ap, ◌∙◌, [], option_map, unwrap_or, map}
use Rattle.scratch_values.specs.Named.{item_named}
use Rattle.hat_index.proofs.keys.field.Goals as goal

pub returns-in-Some : goal.returns-in-Some
returns-in-Some c = c.as_str.ensures ∙ ap (λ o. unwrap_or o []) (ap (option_map (λ t. t.now)) (sym c.in-Some.is) ∙ c.text_in.ensures ∙ ap (λ fs. item_named c.args.name.now (map (λ f. (f.0, f.1.name)) fs)) c.as_slice.ensures)

pub returns-in-None : goal.returns-in-None
returns-in-None c = ap (λ o. unwrap_or o []) (ap (option_map (λ t. t.now)) (sym c.in-None.is) ∙ c.text_in.ensures ∙ ap (λ fs. item_named c.args.name.now (map (λ f. (f.0, f.1.name)) fs)) c.as_slice.ensures)
