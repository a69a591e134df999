use Rattle.std.proofs.Common.{◌≡◌, ◌+◌, ◌++◌, length, drop, map, flat_map}
use Rattle.std.specs.List.{zip}
use Rattle.std.specs.Vec.Iter.{into_iter_items, into_iter_len}
use Rattle.project_spec.specs.Limits.{block_measures, first_too_many}
use Rattle.block_table.specs.FileBlock.{block_in}
use Rattle.block_table.specs.Table.{origins}
use Rattle.block_table.proofs.text_lengths.short_blocks.Given as goal

-- the blocks so far and those that are left, and that nothing so far is too long
abbrev pub invariant-loop-block : goal.invariant-loop-block
invariant-loop-block l =
    (l.short ++ map block_in (into_iter_items l.block-iterator) ≡ map block_in l.fn.blocks)
    × (first_too_many (flat_map (block_measures l.place) (zip (origins (drop l.number l.ids) (drop l.number l.lists)) (map block_in (into_iter_items l.block-iterator))))
    ≡ first_too_many (flat_map (block_measures l.place) (zip (origins l.ids l.lists) (map block_in l.fn.blocks))))
    × (into_iter_len l.block-iterator ≡ length (into_iter_items l.block-iterator))
    × (l.number + length (into_iter_items l.block-iterator) ≡ length l.ids)
    × (l.number + length (into_iter_items l.block-iterator) ≡ length l.lists)
