use Rattle.std.proofs.Common.{◌≡◌, ◌++◌, length}
use Rattle.std.specs.Prelude.{flat_map}
use Rattle.std.specs.List.{enumerate_from}
use Rattle.std.specs.Vec.Iter.{into_iter_items}
use Rattle.project_spec.specs.Limits.{costume_measures, first_too_many}
use Rattle.target_records.proofs.text_lengths.bounded_costumes.Given as goal

-- the names so far, and those that are left
abbrev pub invariant-loop-name : goal.invariant-loop-name
invariant-loop-name l = record {
  all : l.bounded ++ into_iter_items l.name-iterator ≡ l.fn.costumes;
  many : first_too_many (flat_map (costume_measures l.place) (enumerate_from (length l.bounded) (into_iter_items l.name-iterator))) ≡ first_too_many (flat_map (costume_measures l.place) (enumerate_from 0 l.fn.costumes));
}
