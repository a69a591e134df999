use Rattle.std.proofs.Common.{◌≡◌, ◌++◌, length, map}
use Rattle.std.specs.Vec.Iter.{into_iter_items}
use Rattle.project_spec.specs.Limits.{first_too_many}
use Rattle.block_table.specs.Table.{numbered}
use Rattle.project_check.specs.Measured.{texts_from}
use Rattle.project_check.proofs.sizes.bounded_tables.Given as goal

-- the tables so far, and those that are left
abbrev pub invariant-loop-table : goal.invariant-loop-table
invariant-loop-table l = record {
  all : l.bounded.items ++ map numbered (into_iter_items l.table-iterator) ≡ map numbered l.fn.tables.items;
  many : first_too_many (texts_from (length l.bounded.items) (into_iter_items l.table-iterator)) ≡ first_too_many (texts_from 0 l.fn.tables.items);
}
