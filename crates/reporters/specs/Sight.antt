-- What reporters read, as the view of the reference machine.
use Rattle.std.specs.Prelude.{[], unwrap_or, option_map}
use Rattle.target_records.specs.Records.{records_in}
use Rattle.machine_spec.specs.View.{View}
use Rattle.reporters.specs.declared.sight.Sight.{Sight}

abbrev pub seen : Sight → View
seen s = record {
  records = records_in s.records.now;
  targets = s.targets.now;
  variables = s.variables.now;
  devices = s.devices.now;
  here = s.here;
  params = unwrap_or (option_map (λ p. p.now) s.params) [];
}
