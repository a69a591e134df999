-- What the play of a whole script owes.
use Rattle.std.specs.Prelude.{◌≡◌, ◌≢◌, Result, Ok, Err}
use Rattle.script_words.specs.declared.stops.Stop.TheVariants as stop
use Rattle.call_outcomes.specs.Seen.{SinkNow}
use Rattle.call_outcomes.specs.Stages.{Writes}
use Rattle.machine_spec.specs.declared.lines.LineRefusal.{LineRefusal}
use Rattle.machine_spec.specs.declared.lines.LineRefusal.TheVariants as line_refusal
use Rattle.machine_spec.specs.Output.{Output, Ending, Whole, BadLine, Limited}
use Rattle.machine_spec.specs.Tasks.{Task}
use Rattle.machine_spec.specs.World.{World}
use Rattle.run_save.specs.declared.status.Limit.{Limit as LimitMet}
use Rattle.run_save.specs.declared.status.Limit.TheVariants as limit
use Rattle.script_play.specs.Stops.{course}
use Rattle.script_play.specs.declared.stops.PlayStop.{PlayStop}
use Rattle.script_play.specs.declared.stops.PlayStop.TheVariants.{BadScript, Limit, WriteFault, NoMemory}

-- how a refused line ends a play
abbrev pub IsLineEnd : LineRefusal → PlayStop → Type 0
IsLineEnd r (BadScript s) = (s ≡ r) × (r ≢ line_refusal.NoMemory)
IsLineEnd r NoMemory = r ≡ line_refusal.NoMemory
IsLineEnd r other = ⊥

-- the run ends at this limit
abbrev pub EndsBy : Ending → LimitMet → Type 0
EndsBy ending limit.Stack = ending ≡ Limited stop.Stack
EndsBy ending (limit.Text n) = ending ≡ Limited (stop.Text n)
EndsBy ending (limit.Counter which) = ending ≡ Limited (stop.Counter which)
EndsBy ending (limit.Save n) = ⊥

-- at the script's end the run is at the last world; a refused line and a limit are told only where the run ends so
abbrev pub EndsAt : Ending → World Task → Result (Unit {0}) PlayStop → Type 0
EndsAt ending w (Ok u) = ending ≡ Whole w
EndsAt ending w (Err (BadScript r)) = (ending ≡ BadLine r) × (r ≢ line_refusal.NoMemory)
EndsAt ending w (Err (Limit l)) = EndsBy ending l
EndsAt ending w (Err WriteFault) = Unit {0}
EndsAt ending w (Err NoMemory) = Unit {0}

-- the play of a script with this output, after which the run is at a world w
pub record PlaysAs (o : Output) (w : World Task) (k l : SinkNow) (answer : Result (Unit {0}) PlayStop) : Type 0 where
  pub ends : EndsAt o.ending w answer
  pub writes : Writes k l ⊥ o.writes (course answer)
