-- Helpers of private functions: how the play of a run ends, with its saving.
use Rattle.std.specs.Prelude.{◌≡◌, ◌≢◌, ℕ, List, [], Option, None, Some, Result, Ok, Err, true, ⊤}
use Rattle.call_outcomes.specs.Calls.{Calls, puts_of}
use Rattle.call_outcomes.specs.Course.{Course, write_fault}
use Rattle.call_outcomes.specs.Faults.{PutFailed}
use Rattle.call_outcomes.specs.Seen.{ShelfNow, SinkNow}
use Rattle.call_outcomes.specs.Shelving.{Shelved}
use Rattle.call_outcomes.specs.Stages.{Writes}
use Rattle.sv_channels.specs.Counts.{NoneRose}
use Rattle.sv_channels.specs.declared.errors.PutError.{PutError}
use Rattle.sv_channels.specs.declared.errors.PutError.TheVariants as put
use Rattle.machine_spec.specs.declared.lines.LineRefusal.TheVariants as line_refusal
use Rattle.machine_spec.specs.Output.{Ending as RunEnding, Whole, BadLine}
use Rattle.machine_spec.specs.Tasks.{Task}
use Rattle.machine_spec.specs.World.{World}
use Rattle.saved_spec.specs.Ranges.{IsRun, IsTask}
use Rattle.saved_spec.specs.Saved.{snapshot}
use Rattle.laws_of_worlds.specs.Laws.{FirstIsLegal, LastIsLegal}
use Rattle.laws_of_saving.specs.Good.{IsDigest}
use Rattle.laws_of_saving.specs.Laws.{EachFileIsGood, TextIsAccepted, WorldIsTold}
use Rattle.laws_of_loading.specs.Laws.{AcceptedIsLegal}
use Rattle.script_play.specs.Stops.{course}
use Rattle.script_play.specs.declared.stops.PlayStop.{PlayStop}
use Rattle.script_play.specs.declared.stops.PlayStop.TheVariants.{BadScript, Limit, WriteFault, NoMemory}
use Rattle.play_command.specs.Causes.{is_whole, ending_at}
use Rattle.play_command.specs.Outcome.{Ending, ran, Outcome, text_from}
use Rattle.play_command.specs.declared.playback.Saving.{Saving}

-- the name under which a run is saved, and the text that it is saved as
abbrev pub name_in : Option Saving → Option (List ℕ)
name_in None = None
name_in (Some saving) = Some saving.name.now

abbrev pub text_in : Option Saving → World Task → List ℕ
text_in None w = []
text_in (Some saving) w = text_from saving.digest saving.seed w

-- a run is saved under this name, as one of the file with this digest and of this seed
abbrev pub IsSavedAs : (save : Option (List ℕ)) → (digest : List ℕ) → (seed : ℕ) → Option Saving → Type 0
IsSavedAs None digest seed None = Unit {0}
IsSavedAs (Some name) digest seed (Some saving) = (saving.name.now ≡ name) × (saving.digest ≡ digest) × (saving.seed ≡ seed) × IsDigest digest
IsSavedAs save digest seed saving = ⊥

-- a put that does not end well
abbrev pub put_stop : PutError → PlayStop
put_stop put.Failed = WriteFault
put_stop put.NoMemory = NoMemory

-- how the outcome ends, by the answer
abbrev pub EndsTo : Ending → Result (Unit {0}) PlayStop → Type 0
EndsTo ending (Ok u) = is_whole ending ≡ true
EndsTo ending (Err (BadScript r)) = (ending ≡ ran (BadLine r)) × (r ≢ line_refusal.NoMemory)
EndsTo ending (Err (Limit l)) = ending ≡ ending_at l
EndsTo ending (Err WriteFault) = Unit {0}
EndsTo ending (Err NoMemory) = Unit {0}

-- the name that may be put under: at a refused line and at a limit nothing is put
abbrev pub put_under : Option (List ℕ) → Result (Unit {0}) PlayStop → Option (List ℕ)
put_under save (Ok u) = save
put_under save (Err (BadScript r)) = None
put_under save (Err (Limit l)) = None
put_under save (Err WriteFault) = save
put_under save (Err NoMemory) = save

-- the counts of failed puts rise in no course but this one
abbrev pub PutsSteadily : ShelfNow → ShelfNow → Course → Type 0
PutsSteadily s t write_fault = ⊤
PutsSteadily s t course = NoneRose s.put_faults t.put_faults

-- The play of a run, with its saving under a name if there is one, ends as this outcome says: what it answers, writes, puts
-- and counts. No file is fetched.
pub record EndsAs (save : Option (List ℕ)) (o : Outcome) (s t : ShelfNow) (k l : SinkNow) (answer : Result (Unit {0}) PlayStop) : Type 0 where
  pub ends : EndsTo o.ending answer
  pub writes : Writes k l (PutFailed s t save) o.texts (course answer)
  pub fetches : NoneRose s.fetch_faults t.fetch_faults
  pub puts : PutsSteadily s t (course answer)
  pub calls : Calls s t 0 0 (puts_of (put_under save answer)) (course answer)
  pub shelf : Shelved s t (put_under save answer) o.saved (course answer)

-- after its end a run that was saved is in the ranges of its types
abbrev pub SavesInRange : Option Saving → RunEnding → Result (Unit {0}) PlayStop → Type 0
SavesInRange (Some saving) (Whole last) (Ok u) = IsRun IsTask (snapshot saving.digest saving.seed last)
SavesInRange saving ending answer = Unit {0}

-- the laws of runs that are cited where one is saved
pub record RunLaws : Type 0 where
  pub good : EachFileIsGood
  pub first : FirstIsLegal
  pub last : LastIsLegal
  pub text : TextIsAccepted
  pub world : WorldIsTold
  pub accepted_runs : AcceptedIsLegal
