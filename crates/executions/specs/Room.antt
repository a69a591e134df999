-- Room for one more level; the contracts of private functions alone cite these.
use Rattle.std.specs.Prelude.{◌≡◌, ℕ, Bool, true, false}
use Rattle.machine_spec.specs.Outcome.{Outcome, Goes, with_room}
use Rattle.script_words.specs.declared.stops.Stop.{Stop}
use Rattle.script_words.specs.declared.stops.Stop.TheVariants.{Stack, NoMemory}
use Rattle.thread_frames.specs.declared.stops.PushStop.{PushStop}
use Rattle.thread_frames.specs.declared.stops.PushStop.TheVariants as push

-- whether there is room for one more level, where a control opens one
abbrev pub room_for : (opens : Bool) → ℕ → Outcome (Unit {0})
room_for true n = with_room n tt
room_for false n = Goes tt

-- the stop of a run where a level is not opened
abbrev pub stops_as : PushStop → Stop → Type 0
stops_as push.Full s = s ≡ Stack
stops_as push.NoMemory s = s ≡ NoMemory
