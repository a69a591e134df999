use Rattle.std.proofs.Common.{◌≡◌, ◌++◌, map, drop, true}
use Rattle.std.specs.List.{list_all}
use Rattle.saved_parts.specs.Telling.{made_of}
use Rattle.project_check.specs.Loaded.{basis_of}
use Rattle.saved_stores.specs.Held.{is_of}
use Rattle.saved_stores.proofs.shown_monitors.made.Given as goal

-- the monitors so far, and those that are left
abbrev pub invariant-loop-monitor : goal.invariant-loop-monitor
invariant-loop-monitor l = record {
  all : l.made ++ map made_of (drop l.monitor-index l.monitors) ≡ map made_of l.monitors;
  left : list_all (is_of (basis_of l.project)) (drop l.monitor-index l.monitors) ≡ true;
}
