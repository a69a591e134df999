use Rattle.std.proofs.Common.{◌≡◌, drop, map}
use Rattle.project_json.specs.View.{tree}
use Rattle.project_spec.specs.Targets.{monitor_of}
use Rattle.json_shapes.specs.Shapes.{each, each_from}
use Rattle.json_shapes.specs.Each.{after}
use Rattle.target_records.specs.Records.{monitor_in}
use Rattle.target_records.proofs.monitors.each_monitor.Given as goal

-- the monitors so far, and those that are left
abbrev pub invariant-loop-i : goal.invariant-loop-i
invariant-loop-i l = after (map monitor_in l.monitors) (each_from l.i monitor_of l.place (map tree (drop l.i l.items))) ≡ each monitor_of l.place (map tree l.items)
