-- Helpers of private functions: how the stages of a call answer, and how the call ends then.
use Rattle.std.specs.Prelude.{◌≢◌, Option, None, Some, Result, Ok, Err, ℕ, List}
use Rattle.call_outcomes.specs.Seen.{ShelfNow, SinkNow}
use Rattle.sv_channels.specs.declared.errors.FetchError.{FetchError}
use Rattle.sv_channels.specs.declared.errors.FetchError.TheVariants as fetch
use Rattle.project_spec.specs.declared.refusals.Refusal.{Refusal}
use Rattle.saved_spec.specs.declared.refusals.SaveRefusal.{SaveRefusal}
use Rattle.run_save.specs.declared.status.Which.{Which}
use Rattle.run_save.specs.declared.status.Status.{Status}
use Rattle.run_save.specs.declared.status.Status.TheVariants.{Done, Usage, ReadFault, BadProject, BadSave, TooLarge, NoMemory}
use Rattle.script_play.specs.Stops.{status_of}
use Rattle.script_play.specs.declared.stops.PlayStop.{PlayStop}
use Rattle.play_command.specs.Command.{Command}
use Rattle.play_command.specs.Promise.{Owes}
use Rattle.play_command.specs.Resuming.{Resumable}

-- a file is not fetched
abbrev pub unfetched : Which → FetchError → Status
unfetched file fetch.Failed = ReadFault
unfetched file (fetch.TooLarge limit) = TooLarge file limit
unfetched file fetch.NoMemory = NoMemory

-- a project, and a saved run, is refused by a rule that has this text; want of memory has none
abbrev pub refused_by : Refusal → Option (List ℕ) → Status
refused_by r None = NoMemory
refused_by r (Some text) = BadProject r

abbrev pub rejected_by : SaveRefusal → Option (List ℕ) → Status
rejected_by r None = NoMemory
rejected_by r (Some text) = BadSave r

-- a script was played, and the run saved
abbrev pub played_as : {A : Type 0} → Result A PlayStop → Status
played_as (Ok a) = Done
played_as (Err stop) = status_of stop

-- how a call ends that the words ask for
pub record Completes (command : Command) (s t : ShelfNow) (k l : SinkNow) (status : Status) : Type 0 where
  pub owes : Owes command s t k l status
  pub resumable : Resumable s.held command status
  pub no_usage : status ≢ Usage
