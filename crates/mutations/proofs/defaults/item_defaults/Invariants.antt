use Rattle.std.proofs.Common.{◌≡◌, drop, map}
use Rattle.project_json.specs.View.{tree}
use Rattle.project_spec.specs.FileValues.{value_in}
use Rattle.project_spec.specs.Mutation.{all_some, default_of}
use Rattle.mutations.proofs.Joined.{joined}
use Rattle.mutations.proofs.defaults.item_defaults.Given as goal

-- the defaults so far, and those that are left
abbrev pub invariant-loop-item : goal.invariant-loop-item
invariant-loop-item l = joined (map value_in l.defaults) (all_some (map default_of (map tree (drop l.item-index l.items)))) ≡ all_some (map default_of (map tree l.items))
