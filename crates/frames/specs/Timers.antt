-- The due timer that ends next; private functions alone cite these.
use Rattle.std.specs.Prelude.{if◌then◌else◌}
use Rattle.machine_spec.specs.declared.devices.BubbleTimer.{BubbleTimer}
use Rattle.machine_spec.specs.Outcome.{Outcome, Goes}
use Rattle.machine_spec.specs.Frame.{still_fits, next_due, end_due}
use Rattle.machine_spec.specs.Parts.{Scene}
use Rattle.machine_spec.specs.Stopping.{bubble_emptied}
use Rattle.machine_spec.specs.Stores.{live}
use Rattle.machine_spec.specs.Tasks.{Task}
use Rattle.machine_spec.specs.World.{World}

-- the bubble is emptied where its usage is still the timer's
abbrev pub emptied_or_not : BubbleTimer → Scene → Outcome Scene
emptied_or_not t s = if still_fits t (live t.of s.targets) then bubble_emptied t.of s else Goes s

-- the due timer with the least time ends before the rest, where one is due
abbrev pub next_end : World Task → (World Task → Outcome (World Task)) → Outcome (World Task)
next_end w rest = end_due (next_due w.devices.clock 0 w.devices.timers) w rest
