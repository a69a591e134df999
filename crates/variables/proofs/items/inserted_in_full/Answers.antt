use Rattle.std.proofs.Common.{◌-◌, take, sym, ap, ◌∙◌, arith}
use Rattle.std.specs.List.{insert}
use Rattle.machine_spec.specs.DataRows.{most_items}
use Rattle.variables.proofs.Limits.{insert_behind, insert_full}
use Rattle.variables.proofs.items.inserted_in_full.Goals as goal

pub returns-then-place-ge-MOST_ITEMS : goal.returns-then-place-ge-MOST_ITEMS
returns-then-place-ge-MOST_ITEMS c =
    c.shortened.ensures ∙ sym (insert_behind most_items c.args.items c.args.place c.args.item c.requires c.if-place-ge-MOST_ITEMS.true)

pub returns : goal.returns
returns c =
    c.from_vec.ensures ∙ c.in-Ok.ensures.items
    ∙ ap (λ l. insert l c.args.place c.args.item) (c.truncate.ensures.items ∙ ap (take 199999) c.into_vec-items.ensures)
    ∙ sym (insert_full most_items c.args.items c.args.place (199999 - c.args.place) c.args.item (omega arith) c.requires)
