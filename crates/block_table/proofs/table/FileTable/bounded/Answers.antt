use Rattle.std.proofs.Common.{◌≡◌, ◌∙◌, sym, ap, None}
use Rattle.project_spec.specs.Limits.{table_measures, first_too_many}
use Rattle.project_spec.specs.Reading.{Table}
use Rattle.block_table.specs.Table.{numbered, table_in}
use Rattle.block_table.proofs.Tables.{bounded_is_numbered, bounded_shows}
use Rattle.block_table.proofs.table.FileTable.bounded.Goals as goal

pub invariant_of-result : goal.invariant_of-result
invariant_of-result c =
    let inside = c.self.inside in
    let none : first_too_many (table_measures c.args.place.now (table_in inside.ids inside.lists inside.blocks)) ≡ None =
    rw (sym c.as_slice.ensures, sym c.as_slice-2.ensures) c.in_ok-blocks.ensures.1 in
    bounded_is_numbered _ _ _ _ c.self.invariant c.in_ok-blocks.ensures.0 c.args.place.now none

pub returns : goal.returns
returns c =
    let inside = c.self.inside in
    let short : first_too_many (table_measures c.args.place.now (table_in inside.ids inside.lists inside.blocks)) ≡ None =
    rw (sym c.as_slice.ensures, sym c.as_slice-2.ensures) c.in_ok-blocks.ensures.1 in (
      bounded_shows _ _ _ _ c.self.invariant c.in_ok-blocks.ensures.0 ∙ ap numbered c.self.view_is,
      ap (λ (t : Table). first_too_many (table_measures c.args.place.now t)) (sym c.self.view_is) ∙ short,
    )
