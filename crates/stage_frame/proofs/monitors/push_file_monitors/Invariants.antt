use Rattle.std.proofs.Common.{◌≡◌, ◌++◌, drop, map}
use Rattle.std.specs.Prelude.{flat_map}
use Rattle.std.specs.List.{zip}
use Rattle.machine_spec.specs.FrameText.{monitor_lines}
use Rattle.target_records.specs.Records.{records_in, monitor_in}
use Rattle.stage_frame.specs.Seen.{seen_stage}
use Rattle.stage_frame.proofs.monitors.push_file_monitors.Given as goal

-- the lines so far, and then those of the monitors that are left
abbrev pub invariant-loop-place : goal.invariant-loop-place
invariant-loop-place l =
    let f = monitor_lines (records_in l.records) (seen_stage l.view) in
    l.out.items ++ flat_map f (zip (map monitor_in (drop l.place l.monitors)) (drop l.place l.shown)) ≡ l.fn.out.items ++ flat_map f (zip (map monitor_in l.monitors) l.shown)
