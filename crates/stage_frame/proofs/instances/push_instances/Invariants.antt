use Rattle.std.proofs.Common.{◌≡◌, ◌++◌, drop}
use Rattle.std.specs.Prelude.{flat_map}
use Rattle.std.specs.List.{enumerate_from}
use Rattle.machine_spec.specs.FrameText.{instance_lines}
use Rattle.target_records.specs.Records.{records_in}
use Rattle.stage_frame.proofs.instances.push_instances.Given as goal

-- the lines so far, and then those of the instances that are left
abbrev pub invariant-loop-place : goal.invariant-loop-place
invariant-loop-place l =
    let f = instance_lines (records_in l.records) in
    l.out.items ++ flat_map f (enumerate_from l.place (drop l.place l.instances)) ≡ l.fn.out.items ++ flat_map f (enumerate_from 0 l.instances)
