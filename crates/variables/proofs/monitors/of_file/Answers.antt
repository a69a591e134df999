use Rattle.std.proofs.Common.{List, sym, ap, ◌∙◌}
use Rattle.std.specs.List.{position}
use Rattle.machine_spec.specs.Program.{Monitor}
use Rattle.machine_spec.specs.Monitors.{is_some_same, what_shows}
use Rattle.target_records.specs.declared.monitors.MonitorRecord.{MonitorRecord}
use Rattle.target_records.specs.Records.{monitor_in, records_in}
use Rattle.variables.proofs.Places.{position-map}
use Rattle.variables.proofs.monitors.of_file.Goals as goal

pub returns : goal.returns
returns c =
    let test = λ (m : Monitor). is_some_same c.args.what.now (what_shows (records_in c.args.records.now) m) in
    c.first.ensures
    ∙ ap (λ (l : List MonitorRecord). position (λ m. test (monitor_in m)) l) c.as_slice.ensures
    ∙ sym (position-map test monitor_in c.monitors.result.now)
    ∙ ap (λ (l : List Monitor). position test l) c.monitors.ensures
