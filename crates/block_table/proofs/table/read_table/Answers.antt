use Rattle.std.proofs.Common.{◌<◌, ◌^◌, map, sym, subst}
use Rattle.std.proofs.lemmas.List.{length-map}
use Rattle.project_json.specs.View.{field}
use Rattle.block_table.specs.FileBlock.{block_in}
use Rattle.block_table.proofs.Tables.{read_is_table, read_tells}
use Rattle.block_table.proofs.table.read_table.Goals as goal

pub invariant_of-result : goal.invariant_of-result
invariant_of-result c =
    read_is_table c.args.place.now (map field c.args.members.now) c.in_ok-ids.ids c.in_ok-lists.lists (map block_in c.in_ok-blocks.blocks)
    c.in_ok-ids.ensures c.in_ok-lists.ensures (subst (λ n. n < 2 ^ 32) (sym (length-map c.args.members.now field)) c.requires) c.in_ok-blocks.ensures

pub returns : goal.returns
returns c =
    read_tells c.args.place.now (map field c.args.members.now) c.in_ok-ids.ids c.in_ok-lists.lists (map block_in c.in_ok-blocks.blocks)
    c.in_ok-ids.ensures c.in_ok-lists.ensures c.in_ok-blocks.ensures
