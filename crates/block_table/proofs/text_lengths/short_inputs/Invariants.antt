use Rattle.std.proofs.Common.{◌≡◌, ◌++◌, length, map, flat_map}
use Rattle.std.specs.Vec.Iter.{into_iter_items, into_iter_len}
use Rattle.project_spec.specs.Limits.{input_measures, first_too_many}
use Rattle.block_table.specs.FileBlock.{named_input}
use Rattle.block_table.proofs.text_lengths.short_inputs.Given as goal

-- the inputs so far and those that are left, and that none so far is too long
abbrev pub invariant-loop-entry : goal.invariant-loop-entry
invariant-loop-entry l =
    (l.short ++ map named_input (into_iter_items l.entry-iterator) ≡ map named_input l.fn.inputs)
    × (first_too_many (flat_map (input_measures l.place) (map named_input (into_iter_items l.entry-iterator)))
    ≡ first_too_many (flat_map (input_measures l.place) (map named_input l.fn.inputs)))
    × (into_iter_len l.entry-iterator ≡ length (into_iter_items l.entry-iterator))
