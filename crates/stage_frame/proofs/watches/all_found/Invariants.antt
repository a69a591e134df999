use Rattle.std.proofs.Common.{◌≡◌, ◌++◌, drop, map}
use Rattle.target_records.specs.Records.{monitor_in, records_in}
use Rattle.stage_frame.specs.Found.{watch_of}
use Rattle.stage_frame.proofs.watches.all_found.Given as goal

-- what was found so far, and then what is left to be found
abbrev pub invariant-loop-monitor : goal.invariant-loop-monitor
invariant-loop-monitor l =
    let found = watch_of (records_in l.records) in
    l.watches.items ++ map found (map monitor_in (drop l.monitor-index l.monitors)) ≡ map found (map monitor_in l.monitors)
