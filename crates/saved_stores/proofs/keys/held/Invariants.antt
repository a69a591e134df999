use Rattle.std.proofs.Common.{◌≡◌, ◌++◌, filter_map, drop}
use Rattle.machine_spec.specs.ScriptText.{key_of_rest}
use Rattle.saved_stores.proofs.keys.held.Given as goal

-- the keys so far, and those of the names that are left
abbrev pub invariant-loop-name : goal.invariant-loop-name
invariant-loop-name l = l.keys ++ filter_map key_of_rest (drop l.name-index l.names) ≡ filter_map key_of_rest l.names
