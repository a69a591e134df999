-- What two indexes find of a name.
use Rattle.std.specs.Prelude.{Option, option_map}
use Rattle.std.specs.Option.{option_or}
use Rattle.scratch_values.specs.declared.names.VarName.{VarName}
use Rattle.scratch_values.specs.declared.names.VarRef.{VarRef}
use Rattle.scratch_values.specs.declared.names.VarRef.TheVariants.{Own, Stage}
use Rattle.name_resolving.specs.declared.index.Index.{Index}
use Rattle.name_resolving.specs.Index.{id_place, name_place}

-- by id before by name, the own target before the stage
abbrev pub found_by : Index → Index → VarName → Option VarRef
found_by own stage wanted =
    option_or (option_map Own (id_place own wanted))
    (option_or (option_map Stage (id_place stage wanted))
    (option_or (option_map Own (name_place own wanted))
    (option_map Stage (name_place stage wanted))))
