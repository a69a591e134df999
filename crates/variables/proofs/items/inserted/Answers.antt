use Rattle.std.proofs.Common.{◌-◌, sym, ap, ◌∙◌, arith}
use Rattle.std.specs.List.{insert}
use Rattle.std.proofs.lemmas.Result.{on_ok_weaker}
use Rattle.machine_spec.specs.DataRows.{most_items}
use Rattle.variables.proofs.Limits.{insert_short, short_when_cut}
use Rattle.variables.proofs.items.inserted.Goals as goal

pub returns-then-len-ge-MOST_ITEMS-clause-short : goal.returns-then-len-ge-MOST_ITEMS-clause-short
returns-then-len-ge-MOST_ITEMS-clause-short c = λ h. short_when_cut _ _ c.inserted_in_full.ensures

pub returns-clause-ok : goal.returns-clause-ok
returns-clause-ok c =
    on_ok_weaker c.put_in-put.result
    (λ e. c.from_vec.ensures ∙ e ∙ ap (λ l. insert l c.saturating_sub-place.result c.args.item) c.into_vec-items.ensures
    ∙ ap (λ n. insert c.args.items n c.args.item) c.saturating_sub-place.ensures
    ∙ sym (insert_short most_items c.args.items (c.args.at - 1) c.args.item (omega arith) (omega arith)))
    c.put_in-put.ensures.ok
