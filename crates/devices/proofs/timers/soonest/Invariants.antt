use Rattle.std.proofs.Common.{◌≡◌, ◌<◌, ◌≤◌, drop, length, IfSome}
use Rattle.std.specs.Option.{option_map}
use Rattle.machine_spec.specs.Frame.{next_due}
use Rattle.devices.specs.Lists.{found}
use Rattle.devices.proofs.timers.soonest.Given as goal

abbrev pub invariant-loop-at : goal.invariant-loop-at
invariant-loop-at l = record { within : l.at ≤ length l.timers; all_found : option_map found l.best ≡ next_due l.clock l.at (drop l.at l.timers); inside : IfSome l.best (λ x. x.at < length l.timers) }

abbrev pub decreases-loop-at : goal.decreases-loop-at
decreases-loop-at l = l.at
