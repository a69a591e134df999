use Rattle.std.proofs.Common.{◌≡◌, ◌++◌}
use Rattle.std.specs.Prelude.{flat_map}
use Rattle.std.specs.List.{All}
use Rattle.std.specs.Vec.Iter.{into_iter_items}
use Rattle.project_spec.specs.Limits.{list_measures, id_or_none, first_too_many}
use Rattle.machine_spec.specs.declared.records.ListRecord.{ListRecord}
use Rattle.target_records.specs.Held.{IsShort}
use Rattle.target_records.proofs.text_lengths.bounded_lists.Given as goal

-- the lists so far, and those that are left
abbrev pub invariant-loop-list : goal.invariant-loop-list
invariant-loop-list l = record {
  all : l.bounded ++ into_iter_items l.list-iterator ≡ l.fn.lists;
  many : first_too_many (flat_map (λ (v : ListRecord). list_measures l.place (id_or_none v.name.id, v)) (into_iter_items l.list-iterator)) ≡ first_too_many (flat_map (λ (v : ListRecord). list_measures l.place (id_or_none v.name.id, v)) l.fn.lists);
  short : All IsShort l.bounded;
}
