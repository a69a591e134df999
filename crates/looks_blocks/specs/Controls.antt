-- What a block of looks does with threads.
use Rattle.std.specs.Prelude.{Bool, true}
use Rattle.machine_spec.specs.declared.threads.Control.{Control}
use Rattle.machine_spec.specs.declared.threads.Control.TheVariants.{Start}
use Rattle.machine_spec.specs.Laws.{is_own}

-- a control that is of its own thread alone, or starts hats
abbrev pub is_own_or_start : Control → Bool
is_own_or_start (Start hats wait) = true
is_own_or_start control = is_own control
