-- How a target of the file looks, as the definitions have it; private functions alone cite it.
use Rattle.target_records.specs.declared.looks.Look.{Look}
use Rattle.project_spec.specs.Targets as told

abbrev pub look_in : Look → told.Look
look_in l = record { visible = l.visible; x = l.x; y = l.y; size = l.size; direction = l.direction }
