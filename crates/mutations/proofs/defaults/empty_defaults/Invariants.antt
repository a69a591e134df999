use Rattle.std.proofs.Common.{◌≡◌, [], map, replicate}
use Rattle.scratch_values.specs.declared.value.Value.TheVariants.{Text}
use Rattle.project_spec.specs.FileValues.{value_in}
use Rattle.mutations.proofs.defaults.empty_defaults.Given as goal

-- one for each place so far
abbrev pub invariant-loop-place : goal.invariant-loop-place
invariant-loop-place l = map value_in l.defaults ≡ replicate l._place (Text [])
