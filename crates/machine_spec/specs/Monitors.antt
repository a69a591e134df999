-- What the monitors of the file show, and how blocks show and hide monitors (after scratch-vm, blocks/scratch3_data.js,
-- changeMonitorVisibility).
use Rattle.std.specs.Prelude.{ℕ, position, List, [], ◌∷◌, ◌++◌, codes, bytes_eq, Bool, true, false, ◌==◌, ◌&&◌, slice_set, Option, Some, None, option_map, if◌then◌else◌}
use Rattle.std.specs.Option.{option_and_then}
use Rattle.machine_spec.specs.Lists.{changed_at}
use Rattle.machine_spec.specs.Program.{Monitor, Records, record_at, stage_number, sprite_named}
use Rattle.machine_spec.specs.Stores.{Shown, Made, Variables}
use Rattle.machine_spec.specs.declared.variables.Shown.TheVariants.{Variable, List as Items}

abbrev pub has_id : List ℕ → Option (List ℕ) → Bool
has_id id None = false
has_id id (Some other) = bytes_eq other id

-- the target of a monitor: with no name it is the stage
abbrev pub monitored : Option (List ℕ) → Records → Option ℕ
monitored None records = Some (stage_number records)
monitored (Some name) records = sprite_named name records

-- the variable or list of a target, found by id
abbrev pub shown_in : Monitor → Records → ℕ → Option Shown
shown_in m records t =
    if bytes_eq m.opcode (codes "data_variable") then option_map (Variable t) (position (λ v. has_id m.id v.name.id) (record_at t records).variables)
    else (if bytes_eq m.opcode (codes "data_listcontents") then option_map (Items t) (position (λ l. has_id m.id l.name.id) (record_at t records).lists)
    else None)

-- the variable or list that a monitor of the file shows
abbrev pub what_shows : Records → Monitor → Option Shown
what_shows records m = option_and_then (shown_in m records) (monitored m.sprite records)

abbrev pub is_same : Shown → Shown → Bool
is_same (Variable t k) (Variable u j) = t == u && k == j
is_same (Items t k) (Items u j) = t == u && k == j
is_same (Variable t k) (Items u j) = false
is_same (Items t k) (Variable u j) = false

abbrev pub is_some_same : Shown → Option Shown → Bool
is_some_same what None = false
is_some_same what (Some other) = is_same other what

-- the first added monitor of a variable or list is shown or hidden; where there is none, one is added to show it
abbrev pub made_set : Option ℕ → Shown → Bool → List Made → List Made
made_set (Some k) what visible ms = changed_at (λ m. record m { visible = visible }) k ms
made_set None what true ms = ms ++ record { what = what; visible = true } ∷ []
made_set None what false ms = ms

abbrev pub monitor_set_by : Option ℕ → Shown → Bool → Variables → Variables
monitor_set_by (Some k) what visible vs = record vs { file_monitors = slice_set vs.file_monitors k visible }
monitor_set_by None what visible vs = record vs { made = made_set (position (λ m. is_same m.what what) vs.made) what visible vs.made }

-- the first monitor of a variable or list, those of the file before the added ones, is shown or hidden
abbrev pub monitor_set : Records → Shown → Bool → Variables → Variables
monitor_set records what visible vs = monitor_set_by (position (λ m. is_some_same what (what_shows records m)) records.monitors) what visible vs
