use Rattle.std.proofs.lemmas.Result.{on_ok_weaker}
use Rattle.machine_spec.specs.declared.variables.Shown.TheVariants as shown
use Rattle.target_records.specs.Records.{records_in}
use Rattle.data_blocks.proofs.Named.{shown_is}
use Rattle.data_blocks.proofs.monitor_rows.show_list.Goals as goal

pub returns-clause-ok : goal.returns-clause-ok
returns-clause-ok c =
    on_ok_weaker c.show.result
    (λ e. shown_is (λ t k. shown.List t k) (records_in c.args.records.now) c.held_at-list.result.of _ c.held_at-list.result.index _ c.target.result c.args.targets.now c.args.visible c.args.variables.now c.show.new.self
    e c.target.ensures c.held_at-list.ensures.of c.held_at-list.ensures.index)
    c.show.ensures.ok
