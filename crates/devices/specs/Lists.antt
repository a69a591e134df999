-- Timers that are taken out.
use Rattle.std.specs.Prelude.{remove, List, Option, Some, None}
use Rattle.machine_spec.specs.declared.devices.BubbleTimer.{BubbleTimer}
use Rattle.machine_spec.specs.Stores.{Devices}
use Rattle.machine_spec.specs.Frame.{Found}
use Rattle.devices.specs.declared.timers.Place.{Place}

-- a timer that was found, as the reference machine tells it
abbrev pub found : Place → Found
found p = record { at = p.at; timer = p.timer }

-- the timers without one that was found
abbrev pub without_found : Option Found → List BubbleTimer → List BubbleTimer
without_found None ts = ts
without_found (Some x) ts = remove ts x.at

-- the devices without a timer that was found
abbrev pub without_due : Option Found → Devices → Devices
without_due x d = record d { timers = without_found x d.timers }
