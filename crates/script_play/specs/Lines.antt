-- What the play of one good line owes.
use Rattle.std.specs.Prelude.{◌≡◌, ℕ, List, [], ◌∷◌, Result, Ok, Err}
use Rattle.script_words.specs.declared.stops.Stop.{Stop}
use Rattle.script_words.specs.declared.stops.Stop.TheVariants as stop
use Rattle.call_outcomes.specs.Seen.{SinkNow}
use Rattle.call_outcomes.specs.Stages.{Writes}
use Rattle.machine_spec.specs.declared.lines.Line.{Line}
use Rattle.machine_spec.specs.Outcome.{Outcome, Goes, Full, TooLong, Spent}
use Rattle.machine_spec.specs.Output.{written, limit_line}
use Rattle.machine_spec.specs.Program.{Program}
use Rattle.machine_spec.specs.Tasks.{Task}
use Rattle.machine_spec.specs.World.{World}
use Rattle.run_save.specs.declared.status.Limit.{Limit as LimitMet}
use Rattle.run_save.specs.declared.status.Limit.TheVariants as limit
use Rattle.script_play.specs.Stops.{course}
use Rattle.script_play.specs.declared.stops.PlayStop.{PlayStop}
use Rattle.script_play.specs.declared.stops.PlayStop.TheVariants.{BadScript, Limit, WriteFault, NoMemory}

-- a stop in place of an answer, of a play and of a run
abbrev pub Told : PlayStop → Result (Unit {0}) PlayStop
Told stop = Err stop

abbrev pub Stopped : Stop → Result (Unit {0}) Stop
Stopped s = Err s

-- what a write can end with
abbrev pub IsWriteEnd : Result (Unit {0}) PlayStop → Type 0
IsWriteEnd (Ok u) = Unit {0}
IsWriteEnd (Err WriteFault) = Unit {0}
IsWriteEnd (Err NoMemory) = Unit {0}
IsWriteEnd (Err (BadScript r)) = ⊥
IsWriteEnd (Err (Limit l)) = ⊥

-- what a line writes, by the world after it: the text of a frame, or the line of the limit that it reaches
abbrev pub line_writes : Program → Line → Outcome (World Task) → List (List ℕ)
line_writes p l (Goes w) = written p l w
line_writes p l Full = limit_line stop.Stack ∷ []
line_writes p l (TooLong n) = limit_line (stop.Text n) ∷ []
line_writes p l (Spent which) = limit_line (stop.Counter which) ∷ []

-- the limit was met by a line
abbrev pub HasMet : {A : Type 0} → Outcome A → LimitMet → Type 0
HasMet o limit.Stack = o ≡ Full
HasMet o (limit.Text n) = o ≡ TooLong n
HasMet o (limit.Counter which) = o ≡ Spent which
HasMet o (limit.Save n) = ⊥

-- what the play of a line answers, by the world after it
abbrev pub LineEnds : {T : Type 0} → Outcome T → Result (Unit {0}) PlayStop → Type 0
LineEnds o (Ok u) = Unit {0}
LineEnds o (Err (Limit l)) = HasMet o l
LineEnds o (Err WriteFault) = Unit {0}
LineEnds o (Err NoMemory) = Unit {0}
LineEnds o (Err (BadScript r)) = ⊥

-- the play of a line of the program p, with the outcome o, answers as this says, and writes its texts
pub record PlaysLine (p : Program) (line : Line) (o : Outcome (World Task)) (k l : SinkNow) (answer : Result (Unit {0}) PlayStop) : Type 0 where
  pub ends : LineEnds o answer
  pub writes : Writes k l ⊥ (line_writes p line o) (course answer)
