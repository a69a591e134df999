use Rattle.std.proofs.Common.{◌≡◌, ◌≤◌, length, map, drop}
use Rattle.machine_spec.specs.Legal.{distinct}
use Rattle.saved_spec.specs.ThreadRules.{same_texts}
use Rattle.saved_levels.proofs.Names.{left_from}
use Rattle.saved_levels.proofs.parameter_names.are_named.Given as goal

-- the names so far are those of the first parameters, and the others are still to be compared
abbrev pub invariant-loop-name : goal.invariant-loop-name
invariant-loop-name l = record {
  within : l.count ≤ length l.params;
  left : left_from (map (λ p. p.name) l.params) l.count (drop l.name-index l.names) ≡ same_texts (map (λ p. p.name) l.params) (distinct l.names);
}
