-- Helpers of private functions: what the monitors of the file show, and their lines by it.
use Rattle.std.specs.Prelude.{ℕ, List, [], map, Bool, Option, None, Some, unwrap_or, option_map, if◌then◌else◌}
use Rattle.std.specs.Option.{option_and_then}
use Rattle.scratch_values.specs.declared.value.Value.{Value}
use Rattle.machine_spec.specs.declared.variables.Shown.{Shown}
use Rattle.machine_spec.specs.declared.variables.Shown.TheVariants as shown
use Rattle.machine_spec.specs.Program.{Monitor, Records}
use Rattle.machine_spec.specs.Stores.{live}
use Rattle.machine_spec.specs.Monitors.{monitored, what_shows}
use Rattle.machine_spec.specs.FrameText.{Stage, shown_lines, value_line, label, common_value, sprite_value}
use Rattle.stage_frame.specs.declared.watches.Watch.{Watch}
use Rattle.stage_frame.specs.declared.watches.Watch.TheVariants.{Variable, List as Items, Target, Nothing}

-- the variable or list that a monitor shows, else its target
abbrev pub watch_of_shown : Shown → Watch
watch_of_shown (shown.Variable t k) = Variable t k
watch_of_shown (shown.List t k) = Items t k

abbrev pub watch_of_target : Option ℕ → Watch
watch_of_target None = Nothing
watch_of_target (Some t) = Target t

abbrev pub watch_by : Option Shown → Option ℕ → Watch
watch_by (Some what) of = watch_of_shown what
watch_by None of = watch_of_target of

abbrev pub watch_of : Records → Monitor → Watch
watch_of records m = watch_by (what_shows records m) (monitored m.sprite records)

-- what each monitor of the file shows, in its order
abbrev pub are_found : Records → List Watch
are_found records = map (watch_of records) records.monitors

-- what is told of a target, under the name of a sprite or none
abbrev pub told_of : Option (List ℕ) → ℕ → Records → Stage → Monitor → Option Value
told_of None t records s m = common_value records s.targets s.devices m
told_of (Some name) t records s m = option_and_then (sprite_value records s.targets s.devices m) (live t s.targets)

-- the line of a monitor of a target, under the name of a sprite or none
abbrev pub target_line : Option (List ℕ) → ℕ → Records → Stage → Monitor → List ℕ
target_line sprite t records s m = unwrap_or (option_map (value_line (label sprite m.opcode)) (told_of sprite t records s m)) []

abbrev pub found_by : Watch → Option (List ℕ) → Records → Stage → Monitor → List ℕ
found_by (Variable t k) sprite records s m = shown_lines sprite records s.variables (shown.Variable t k)
found_by (Items t k) sprite records s m = shown_lines sprite records s.variables (shown.List t k)
found_by (Target t) sprite records s m = target_line sprite t records s m
found_by Nothing sprite records s m = []

-- the lines of a monitor, where it is visible
abbrev pub found_lines : Watch → Records → Stage → Monitor × Bool → List ℕ
found_lines w records s x = if x.1 then found_by w x.0.sprite records s x.0 else []
