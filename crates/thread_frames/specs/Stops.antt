-- What it tells that no level was opened.
use Rattle.std.specs.Prelude.{◌≡◌, Result, Ok, Err}
use Rattle.machine_spec.specs.Outcome.{Outcome, Full}
use Rattle.thread_frames.specs.declared.stops.PushStop.{PushStop}
use Rattle.thread_frames.specs.declared.stops.PushStop.TheVariants as stop

-- `Full` tells that the most levels are open; want of memory tells nothing
abbrev pub PushStopIs : {T A : Type 0} → Result T PushStop → Outcome A → Type 0
PushStopIs (Ok t) o = Unit {0}
PushStopIs (Err stop.Full) o = o ≡ Full
PushStopIs (Err stop.NoMemory) o = Unit {0}
