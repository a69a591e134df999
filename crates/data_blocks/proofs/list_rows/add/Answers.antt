use Rattle.std.proofs.lemmas.Result.{on_ok_weaker}
use Rattle.data_blocks.proofs.Named.{added_is}
use Rattle.data_blocks.proofs.list_rows.add.Goals as goal

pub returns-clause-ok : goal.returns-clause-ok
returns-clause-ok c =
    on_ok_weaker c.push.result
    (λ e. added_is c.held_at-list.result.of _ c.held_at-list.result.index _ c.in_ok-item.item _ c.args.variables.now c.push.new.self
    e c.held_at-list.ensures.of c.held_at-list.ensures.index c.in_ok-item.ensures)
    c.push.ensures.ok
