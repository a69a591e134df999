-- What the devices and the counters of a run are, between two lines of a script and during a frame.
use Rattle.std.specs.Prelude.{◌≡◌, ℕ, ◌<◌, ◌≤◌, pos, int_le, true, List, [], ◌∷◌, length, unsigned_abs, bytes_eq, false}
use Rattle.scratch_number.specs.declared.number.Num.{Num}
use Rattle.scratch_number.specs.declared.number.Num.TheVariants.{Fixed, Inf, NegInf, Nan}
use Rattle.machine_spec.specs.declared.devices.BubbleTimer.{BubbleTimer}
use Rattle.machine_spec.specs.declared.devices.Key.{Key}
use Rattle.machine_spec.specs.Line.{key_name}
use Rattle.machine_spec.specs.Outcome.{last_number}
use Rattle.machine_spec.specs.Program.{Program}
use Rattle.machine_spec.specs.ScriptText.{last_clock}
use Rattle.machine_spec.specs.Stores.{Devices}
use Rattle.machine_spec.specs.Tasks.{Task}
use Rattle.machine_spec.specs.World.{World}
use Rattle.laws_of_threads.specs.GoodLines.{IsNamedKey}
use Rattle.laws_of_threads.specs.Lists.{Each}

-- a time that may come, or that never comes
abbrev pub IsDue : Num → Type 0
IsDue (Fixed z) = int_le (pos 0) z ≡ true
IsDue Inf = Unit {0}
IsDue NegInf = ⊥
IsDue Nan = ⊥

-- a timer of a bubble that was updated
pub record IsTimer (usage : ℕ) (t : BubbleTimer) : Type 0 where
  pub updated : t.usage < usage
  pub due : IsDue t.due

-- no two keys have one name
abbrev pub KeysDiffer : List Key → Type 0
KeysDiffer [] = Unit {0}
KeysDiffer (k ∷ ks) = Each (λ other. bytes_eq (key_name k) (key_name other) ≡ false) ks × KeysDiffer ks

pub record AreDevices (d : Devices) : Type 0 where
  pub clock : d.clock ≤ last_clock
  pub timer : d.timer ≤ d.clock
  pub mouse_x : unsigned_abs d.mouse_x ≤ 240
  pub mouse_y : unsigned_abs d.mouse_y ≤ 180
  pub keys : Each IsNamedKey d.keys
  pub differ : KeysDiffer d.keys
  pub timers : Each (IsTimer d.usage) d.timers
  pub usage : d.usage ≤ last_number

-- the counters give numbers below 2^62 − 1; an instance has a number of its own, no target's
pub record IsLegalDesk (p : Program) (w : World Task) : Type 0 where
  pub devices : AreDevices w.devices
  pub frames : w.frame ≤ last_number
  pub threads : w.next_thread ≤ last_number
  pub instances : w.next_instance ≤ last_number
  pub targets : length p.records.targets ≤ w.next_instance
