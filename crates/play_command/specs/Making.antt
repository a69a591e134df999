-- Helpers of private functions: how the play of the made script ends, and what is told of it.
use Rattle.std.specs.Prelude.{◌≡◌, ◌≢◌, ℕ, List, length, Result, Ok, Err}
use Rattle.std.specs.List.{concat}
use Rattle.sha2.specs.Sha256.{sha256}
use Rattle.machine_spec.specs.declared.lines.LineRefusal.TheVariants as line_refusal
use Rattle.machine_spec.specs.Output.{Output, Whole, BadLine}
use Rattle.machine_spec.specs.Tasks.{Task}
use Rattle.machine_spec.specs.World.{World}
use Rattle.script_play.specs.Scripts.{EndsBy}
use Rattle.script_play.specs.declared.stops.PlayStop.{PlayStop}
use Rattle.script_play.specs.declared.stops.PlayStop.TheVariants.{BadScript, Limit, WriteFault, NoMemory}
use Rattle.play_command.specs.Made.{made_value}
use Rattle.play_command.specs.declared.made.Telling.{Telling}

-- this text of the variable, and of these bytes of the frames their number and their digest
pub record IsTelling (text bytes : List ℕ) (t : Telling) : Type 0 where
  pub value : t.value ≡ text
  pub length : t.length ≡ length bytes
  pub digest : t.digest ≡ sha256 bytes

-- A script with this output was played to its end, and the last world and all its frames are told; or it ends at a refused line
-- or a limit. No write fails.
abbrev pub MadeEnds : Output → Result Telling PlayStop → Type 0
MadeEnds o (Ok t) = (last : World Task) × (o.ending ≡ Whole last) × IsTelling (made_value last) (concat o.writes) t
MadeEnds o (Err (BadScript r)) = (o.ending ≡ BadLine r) × (r ≢ line_refusal.NoMemory)
MadeEnds o (Err (Limit l)) = EndsBy o.ending l
MadeEnds o (Err WriteFault) = ⊥
MadeEnds o (Err NoMemory) = Unit {0}
