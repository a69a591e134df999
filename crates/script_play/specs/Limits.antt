-- The limits of a run, and the line of each.
use Rattle.std.specs.Prelude.{◌≡◌, ℕ, List, [], ◌∷◌, codes, Option, None, Some}
use Rattle.std.specs.Fmt.{decimal}
use Rattle.script_words.specs.declared.stops.Stop.{Stop}
use Rattle.script_words.specs.declared.stops.Stop.TheVariants as stop
use Rattle.machine_spec.specs.FrameText.{line}
use Rattle.machine_spec.specs.Output.{limit_line}
use Rattle.run_save.specs.declared.status.Limit.{Limit as LimitMet}
use Rattle.run_save.specs.declared.status.Limit.TheVariants as limit
use Rattle.script_play.specs.declared.stops.PlayStop.{PlayStop}
use Rattle.script_play.specs.declared.stops.PlayStop.TheVariants.{BadScript, Limit, WriteFault, NoMemory}

-- the limit of a stop; want of memory is none
abbrev pub limit_in : Stop → Option LimitMet
limit_in stop.Stack = Some limit.Stack
limit_in (stop.Text n) = Some (limit.Text n)
limit_in (stop.Counter which) = Some (limit.Counter which)
limit_in stop.NoMemory = None

-- `limit save LENGTH`
abbrev pub limit_save_line : ℕ → List ℕ
limit_save_line n = line (codes "limit" ∷ codes "save" ∷ decimal n ∷ [])

-- the line of a limit
abbrev pub line_at : LimitMet → List ℕ
line_at limit.Stack = limit_line stop.Stack
line_at (limit.Text n) = limit_line (stop.Text n)
line_at (limit.Counter which) = limit_line (stop.Counter which)
line_at (limit.Save n) = limit_save_line n

-- what the writing of the line of a limit can end with
abbrev pub IsLimitEnd : LimitMet → PlayStop → Type 0
IsLimitEnd l (Limit m) = m ≡ l
IsLimitEnd l WriteFault = Unit {0}
IsLimitEnd l NoMemory = Unit {0}
IsLimitEnd l (BadScript r) = ⊥
