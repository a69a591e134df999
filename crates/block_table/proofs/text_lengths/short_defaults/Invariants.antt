use Rattle.std.proofs.Common.{◌≡◌, ◌++◌, drop, map, flat_map}
use Rattle.project_spec.specs.FileValues.{value_in}
use Rattle.project_spec.specs.Limits.{value_measures, first_too_many}
use Rattle.block_table.proofs.text_lengths.short_defaults.Given as goal

-- the defaults so far and those that are left, and that none so far is too long
abbrev pub invariant-loop-default : goal.invariant-loop-default
invariant-loop-default l =
    (l.short ++ map value_in (drop l.default-index l.defaults) ≡ map value_in l.defaults)
    × (first_too_many (flat_map (value_measures l.place) (map value_in (drop l.default-index l.defaults)))
    ≡ first_too_many (flat_map (value_measures l.place) (map value_in l.defaults)))
