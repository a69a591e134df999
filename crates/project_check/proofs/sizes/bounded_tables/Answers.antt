use Rattle.std.proofs.Common.{◌≡◌, ◌+◌, ℕ, length, ap, ◌∙◌, subst, rules, Ok}
use Rattle.std.specs.Vec.Iter.{into_iter_items}
use Rattle.std.proofs.lemmas.List.{length_push}
use Rattle.project_spec.specs.Limits.{table_measures, blocks_place, first_too_many}
use Rattle.block_table.specs.declared.table.BlockTable.{BlockTable}
use Rattle.block_table.specs.Table.{numbered}
use Rattle.project_check.specs.Measured.{texts_from, Stops, Bounds}
use Rattle.project_check.proofs.FirstTooMany.{table_stops, table_passes, bounded_more}
use Rattle.project_check.proofs.sizes.bounded_tables.Goals as goal

pub returns-in-Err : goal.returns-in-Err
returns-in-Err c =
    let n : ℕ = length c.loop-table.bounded.items in
    let here : c.len-t.result ≡ n = search rules in
    let stops = subst (λ t. Stops c.in-Err.refusal (table_measures (blocks_place t) c.in-Some.table)) here c.in-Err.ensures in
    table_stops n c.in-Some.table (into_iter_items c.loop-table.table-iterator) (into_iter_items c.next.new.self) c.in-Some.ensures.steps.0 c.args.tables.items c.loop-table.invariant.many c.in-Err.refusal stops

pub loop-table-preserved : goal.loop-table-preserved
loop-table-preserved c =
    let n : ℕ = length c.loop-table.bounded.items in
    let here : c.len-t.result ≡ n = search rules in
    let told = subst (λ t. Bounds (λ (b : BlockTable). b) (Ok c.in-Ok.table) (numbered c.in-Some.table) (table_measures (blocks_place t) c.in-Some.table)) here c.in-Ok.ensures in
    let long : length c.push.new.self.items ≡ n + 1 = ap length c.in_ok-push.ensures.items ∙ length_push c.loop-table.bounded.items c.in-Ok.table in
    record {
      all = bounded_more numbered c.loop-table.bounded.items c.push.new.self.items (into_iter_items c.loop-table.table-iterator) (into_iter_items c.next.new.self) c.in-Ok.table c.in-Some.table _ c.in_ok-push.ensures.items told.0 c.in-Some.ensures.steps.0 c.loop-table.invariant.all;
      many =
          ap (λ k. first_too_many (texts_from k (into_iter_items c.next.new.self))) long
          ∙ table_passes n c.in-Some.table (into_iter_items c.loop-table.table-iterator) (into_iter_items c.next.new.self) c.in-Some.ensures.steps.0 c.args.tables.items c.loop-table.invariant.many told.1;
    }
