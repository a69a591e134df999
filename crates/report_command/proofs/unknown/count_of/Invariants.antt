use Rattle.std.proofs.Common.{◌≡◌, ◌+◌, ◌≤◌, ℕ, List, drop, bytes_eq}
use Rattle.std.specs.List.{count_by}
use Rattle.report_command.proofs.unknown.count_of.Given as goal

-- the places so far, and those that are left
abbrev pub invariant-loop-other : goal.invariant-loop-other
invariant-loop-other l = record {
  seen : l.count + count_by (λ (other : List ℕ). bytes_eq other l.name) (drop l.other-index l.names) ≡ count_by (λ (other : List ℕ). bytes_eq other l.name) l.names;
  within : l.count ≤ l.other-index;
}
