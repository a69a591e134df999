-- The records of a project file, as the machine sees them.
use Rattle.std.specs.Prelude.{map}
use Rattle.project_json.specs.View.{tree}
use Rattle.machine_spec.specs.Program as program
use Rattle.machine_spec.specs.Program.{Monitor}
use Rattle.target_records.specs.declared.monitors.MonitorRecord.{MonitorRecord}
use Rattle.target_records.specs.declared.file_records.FileRecords.{FileRecords}
use Rattle.target_records.specs.declared.records.Records.{Records}

abbrev pub monitor_in : MonitorRecord → Monitor
monitor_in m = record { id = m.id; opcode = m.opcode; sprite = m.sprite; visible = m.visible; params = tree m.params }

-- the records that were read, whose texts may be of any length
abbrev pub file_records_in : FileRecords → program.Records
file_records_in f = record { targets = f.targets; monitors = map monitor_in f.monitors }

abbrev pub records_in : Records → program.Records
records_in r = record { targets = r.targets; monitors = map monitor_in r.monitors }
