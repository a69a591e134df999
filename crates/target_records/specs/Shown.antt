-- What a monitor shows, by the record of its target; private functions alone cite it.
use Rattle.std.specs.Prelude.{ℕ, position, codes, bytes_eq, Option, None, option_map, if◌then◌else◌}
use Rattle.machine_spec.specs.declared.records.TargetRecord.{TargetRecord}
use Rattle.machine_spec.specs.declared.variables.Shown.{Shown}
use Rattle.machine_spec.specs.declared.variables.Shown.TheVariants.{Variable, List as Items}
use Rattle.machine_spec.specs.Program.{Monitor}
use Rattle.machine_spec.specs.Monitors.{has_id}

abbrev pub shown_by : Monitor → ℕ → TargetRecord → Option Shown
shown_by m target own =
    if bytes_eq m.opcode (codes "data_variable") then option_map (Variable target) (position (λ v. has_id m.id v.name.id) own.variables)
    else (if bytes_eq m.opcode (codes "data_listcontents") then option_map (Items target) (position (λ l. has_id m.id l.name.id) own.lists)
    else None)
