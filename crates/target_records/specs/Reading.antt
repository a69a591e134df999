-- The records that a document tells, or the path of the first value that has not its shape: the members of each target,
-- then the monitors. The blocks are read apart from them.
use Rattle.std.specs.Prelude.{ℕ, List, [], ◌∷◌, codes, Result, Ok}
use Rattle.project_json.specs.Tree.{Tree}
use Rattle.json_shapes.specs.Shapes as shape
use Rattle.json_shapes.specs.Shapes.{Reader, ◌>>=◌}
use Rattle.machine_spec.specs.Program.{Monitor, Records}
use Rattle.machine_spec.specs.declared.records.VariableRecord.{VariableRecord}
use Rattle.machine_spec.specs.declared.records.ListRecord.{ListRecord}
use Rattle.project_spec.specs.Targets.{variable_of, list_of, target_of, monitor_of}

-- the variables of a target, and its lists, by its members
abbrev pub variables_of : Reader (List (List ℕ × Tree)) (List VariableRecord)
variables_of at ms = shape.defaulted shape.members [] (codes "variables") at ms >>= shape.each_member variable_of (codes "variables" ∷ at)

abbrev pub lists_of : Reader (List (List ℕ × Tree)) (List ListRecord)
lists_of at ms = shape.defaulted shape.members [] (codes "lists") at ms >>= shape.each_member list_of (codes "lists" ∷ at)

-- the monitors, by the members of the document
abbrev pub monitors_of : Reader (List (List ℕ × Tree)) (List Monitor)
monitors_of at ms = shape.defaulted shape.items [] (codes "monitors") at ms >>= shape.each monitor_of (codes "monitors" ∷ at)

-- the records, by the items of `targets` and the members of the document
abbrev pub records_by : List Tree → Reader (List (List ℕ × Tree)) Records
records_by ts at ms =
    shape.each target_of (codes "targets" ∷ at) ts >>= (λ targets.
    monitors_of at ms >>= (λ monitors.
    Ok (record { targets = targets; monitors = monitors })))

abbrev pub records_of : Tree → Result Records (List ℕ)
records_of t = shape.members [] t >>= (λ ms. shape.required shape.items (codes "targets") [] ms >>= (λ ts. records_by ts [] ms))
