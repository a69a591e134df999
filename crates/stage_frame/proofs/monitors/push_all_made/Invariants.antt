use Rattle.std.proofs.Common.{◌≡◌, ◌++◌, drop}
use Rattle.std.specs.Prelude.{flat_map}
use Rattle.machine_spec.specs.FrameText.{made_lines}
use Rattle.target_records.specs.Records.{records_in}
use Rattle.stage_frame.proofs.monitors.push_all_made.Given as goal

-- the lines so far, and then those of the monitors that are left
abbrev pub invariant-loop-own : goal.invariant-loop-own
invariant-loop-own l =
    let f = made_lines (records_in l.records) l.variables in
    l.out.items ++ flat_map f (drop l.own-index l.made) ≡ l.fn.out.items ++ flat_map f l.made
