-- What a monitor shows tells its lines.
use Rattle.std.proofs.Common.{◌≡◌, ℕ, zero, suc, ◌<◌, List, [], ◌∷◌, length, get_or, map, Bool, true, false, refl, sym, ap, arith}
use Rattle.std.specs.Prelude.{Option, None, Some, option_map, slice_get, unwrap_or}
use Rattle.std.specs.Option.{option_and_then}
use Rattle.machine_spec.specs.declared.variables.Shown.{Shown}
use Rattle.machine_spec.specs.declared.variables.Shown.TheVariants.{Variable, List as Items}
use Rattle.machine_spec.specs.Program.{Monitor, Records, sprite_named}
use Rattle.machine_spec.specs.Stores.{live}
use Rattle.machine_spec.specs.Monitors.{monitored, what_shows}
use Rattle.machine_spec.specs.FrameText.{Stage, label, value_line, sprite_value, other_value, monitor_by, monitor_lines}
use Rattle.target_records.specs.declared.monitors.MonitorRecord.{MonitorRecord}
use Rattle.stage_frame.specs.declared.watches.Watch.{Watch}
use Rattle.stage_frame.specs.Found.{watch_by, watch_of, found_by, found_lines}

sprite_found : (of : Option ℕ) (name : List ℕ) (records : Records) (s : Stage) (m : Monitor)
    → found_by (watch_by None of) (Some name) records s m
    ≡ unwrap_or (option_map (value_line (label (Some name) m.opcode)) (option_and_then (sprite_value records s.targets s.devices m) (option_and_then (λ n. live n s.targets) of))) []
sprite_found None name records s m = refl
sprite_found (Some t) name records s m = refl

target_found : (sprite : Option (List ℕ)) (records : Records) (s : Stage) (m : Monitor)
    → found_by (watch_by None (monitored sprite records)) sprite records s m
    ≡ unwrap_or (option_map (value_line (label sprite m.opcode)) (other_value sprite records s.targets s.devices m)) []
target_found None records s m = refl
target_found (Some name) records s m = sprite_found (sprite_named name records) name records s m

found_is : (what : Option Shown) (records : Records) (s : Stage) (m : Monitor)
    → found_by (watch_by what (monitored m.sprite records)) m.sprite records s m ≡ monitor_by what records s m
found_is (Some (Variable t k)) records s m = refl
found_is (Some (Items t k)) records s m = refl
found_is None records s m = target_found m.sprite records s m

-- by what a monitor shows
pub lines_found : (records : Records) (s : Stage) (m : Monitor) (b : Bool) → found_lines (watch_of records m) records s (m, b) ≡ monitor_lines records s (m, b)
lines_found records s m true = found_is (what_shows records m) records s m
lines_found records s m false = refl

-- what the monitor at place k shows
pub watch_here : (f : Monitor → Watch) (v : MonitorRecord → Monitor) (ms : List MonitorRecord) (k : ℕ) (m : MonitorRecord) (d : Watch) → k < length ms
    → m ≡ get_or ms k m → unwrap_or (slice_get (map f (map v ms)) k) d ≡ f (v m)
watch_here f v [] k m d h here = absurd (omega arith)
watch_here f v (x ∷ ms) zero m d h here = ap (λ y. f (v y)) (sym here)
watch_here f v (x ∷ ms) (suc k) m d h here = watch_here f v ms k m d (omega arith) here
