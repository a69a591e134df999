use Rattle.std.proofs.Common.{sym, subst}
use Rattle.std.specs.List.{All}
use Rattle.std.proofs.lemmas.List.Elements.{All-push}
use Rattle.std.proofs.lemmas.Result.{err_from_is_err_and}
use Rattle.std.specs.Vec.Iter.{into_iter_items}
use Rattle.machine_spec.specs.declared.records.ListRecord.{ListRecord}
use Rattle.project_spec.specs.Limits.{list_measures, id_or_none}
use Rattle.target_records.specs.Held.{IsShort}
use Rattle.target_records.proofs.Counts.{turn_stop, turn_pass, turn_all}
use Rattle.target_records.proofs.text_lengths.bounded_lists.Goals as goal

pub returns-in_err-list-clause-bounds : goal.returns-in_err-list-clause-bounds
returns-in_err-list-clause-bounds c =
    let p = err_from_is_err_and c.from_residual.result c.from_residual.ensures.1 in
    rw (p.1, p.2) (turn_stop (λ l. l) (λ ls. ls) c.in-Some.list c.args.lists _ (λ (l : ListRecord). list_measures c.args.place.now (id_or_none l.name.id, l)) c.in-Some.list (into_iter_items c.loop-list.list-iterator) (into_iter_items c.next.new.self) _ c.in_err-list.ensures.bounds c.in-Some.ensures.steps.0 c.loop-list.invariant.many)

pub loop-list-preserved : goal.loop-list-preserved
loop-list-preserved c = record {
  all = turn_all c.loop-list.bounded c.push.new.self (into_iter_items c.loop-list.list-iterator) (into_iter_items c.next.new.self) c.args.lists c.in-Some.list c.in_ok-list.list c.in_ok-push.ensures.ok c.in_ok-list.ensures.bounds.0 c.in-Some.ensures.steps.0 c.loop-list.invariant.all;
  many = turn_pass (λ (l : ListRecord). list_measures c.args.place.now (id_or_none l.name.id, l)) c.in-Some.list (into_iter_items c.loop-list.list-iterator) (into_iter_items c.next.new.self) _ c.in_ok-list.ensures.bounds.1 c.in-Some.ensures.steps.0 c.loop-list.invariant.many;
  short = subst (All IsShort) (sym c.in_ok-push.ensures.ok) (All-push IsShort c.loop-list.bounded c.in_ok-list.list c.loop-list.invariant.short c.in_ok-list.ensures.short);
}
