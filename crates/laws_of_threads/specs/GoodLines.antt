-- What a line of a script says that is read where the clock stands at `last`.
use Rattle.std.specs.Prelude.{◌≡◌, ℕ, ◌≤◌, unsigned_abs, length, Some}
use Rattle.scratch_values.specs.Longest.{longest}
use Rattle.machine_spec.specs.declared.devices.Key.{Key}
use Rattle.machine_spec.specs.declared.lines.Line.{Line}
use Rattle.machine_spec.specs.declared.lines.Line.TheVariants as line
use Rattle.machine_spec.specs.Line.{key_name}
use Rattle.machine_spec.specs.ScriptText.{key_of_rest, last_clock}

-- a key is the one that its name names
abbrev pub IsNamedKey : Key → Type 0
IsNamedKey key = key_of_rest (key_name key) ≡ Some key

abbrev pub IsGoodLine : (last : ℕ) → Line → Type 0
IsGoodLine last (line.Frame b) = (last ≤ b.clock) × (b.clock ≤ last_clock)
IsGoodLine last (line.Mouse x y) = (unsigned_abs x ≤ 240) × (unsigned_abs y ≤ 180)
IsGoodLine last (line.KeyDown key) = IsNamedKey key
IsGoodLine last (line.Answer text) = length text ≤ longest
IsGoodLine last _ = Unit {0}
