-- The value of an edge hat, as the code evaluates it; the contracts of private functions alone cite this file.
use Rattle.std.specs.Prelude.{◌&&◌, Bool, codes}
use Rattle.scratch_values.specs.Named.{Arguments}
use Rattle.machine_spec.specs.Evaluate.{evaluated}
use Rattle.machine_spec.specs.Outcome.{Outcome, then_do}
use Rattle.machine_spec.specs.Script.{Statement}
use Rattle.machine_spec.specs.Starting.{same_folded}
use Rattle.machine_spec.specs.Stores.{Devices, elapsed, less}
use Rattle.machine_spec.specs.View.{View, field_at, number_at}
use Rattle.machine_spec.specs.Words.{Words, Drawn, made_of}

-- by the arguments of the hat: it is of the timer, which is above VALUE
abbrev pub is_above : Arguments → Devices → Bool
is_above a d = same_folded (field_at (codes "WHENGREATERTHANMENU") a) (codes "timer") && less (number_at (codes "VALUE") a) (elapsed d.timer d)

-- the value of a hat, and the words that are left
abbrev pub valued : View → Statement → Words → Outcome (Drawn Bool)
valued v s w = then_do (evaluated v s w) (made_of (λ a. is_above a v.devices))
