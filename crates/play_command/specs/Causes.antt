-- THE CAUSES of each status: how the call ends where nothing fails, and how far it came before something did.
use Rattle.std.specs.Prelude.{◌≡◌, ◌⊎◌, Bool, true, false}
use Rattle.call_outcomes.specs.Faults.{FetchFailed}
use Rattle.call_outcomes.specs.Seen.{ShelfNow}
use Rattle.script_words.specs.declared.stops.Stop.TheVariants as stop
use Rattle.machine_spec.specs.Output.{Whole, BadLine, Limited}
use Rattle.run_save.specs.declared.status.Limit.{Limit as LimitMet}
use Rattle.run_save.specs.declared.status.Limit.TheVariants as limit
use Rattle.run_save.specs.declared.status.Which.TheVariants as which
use Rattle.run_save.specs.declared.status.Status.{Status}
use Rattle.run_save.specs.declared.status.Status.TheVariants.{Done, Usage, ReadFault, WriteFault, BadProject, BadSave, BadScript, Limit, TooLarge, NoMemory}
use Rattle.play_command.specs.Command.{Command, play, resume, check, made}
use Rattle.play_command.specs.Outcome.{Ending, unloaded, told, ran, unsaved, missing, too_large, not_accepted, not_continued}

-- Of which files a fetch has failed

-- a fetch of the project file has failed
abbrev pub ProjectFailed : ShelfNow → ShelfNow → Command → Type 0
ProjectFailed s t (play form) = FetchFailed s t form.project
ProjectFailed s t (resume form) = FetchFailed s t form.project
ProjectFailed s t (check project) = FetchFailed s t project
ProjectFailed s t (made form) = ⊥

-- a fetch of a file that the words name has failed in this call
abbrev pub FileFailed : ShelfNow → ShelfNow → Command → Type 0
FileFailed s t (play form) = FetchFailed s t form.project ⊎ FetchFailed s t form.script
FileFailed s t (resume form) = FetchFailed s t form.project ⊎ (FetchFailed s t form.saved ⊎ FetchFailed s t form.script)
FileFailed s t (check project) = FetchFailed s t project
FileFailed s t (made form) = ⊥

-- a fetch of the saved run has failed
abbrev pub SavedFailed : ShelfNow → ShelfNow → Command → Type 0
SavedFailed s t (play form) = ⊥
SavedFailed s t (resume form) = FetchFailed s t form.saved
SavedFailed s t (check project) = ⊥
SavedFailed s t (made form) = ⊥

-- What a status tells

-- all was done: the counts were told, or the script was played to its end
abbrev pub is_whole : Ending → Bool
is_whole (unloaded e) = false
is_whole told = true
is_whole (ran (Whole last)) = true
is_whole (ran (BadLine r)) = false
is_whole (ran (Limited s)) = false
is_whole (unsaved n) = false

-- how the run ends at a limit
abbrev pub ending_at : LimitMet → Ending
ending_at limit.Stack = ran (Limited stop.Stack)
ending_at (limit.Text n) = ran (Limited (stop.Text n))
ending_at (limit.Counter which) = ran (Limited (stop.Counter which))
ending_at (limit.Save n) = unsaved n

-- the status tells the ending
abbrev pub Tells : Status → Ending → Type 0
Tells Done ending = is_whole ending ≡ true
Tells (BadProject r) ending = ending ≡ unloaded (not_accepted r)
Tells (BadSave r) ending = ending ≡ unloaded (not_continued r)
Tells (BadScript r) ending = ending ≡ ran (BadLine r)
Tells (Limit l) ending = ending ≡ ending_at l
Tells (TooLarge file limit) ending = ending ≡ unloaded (too_large file limit)
Tells Usage ending = ⊥
Tells ReadFault ending = ⊥
Tells WriteFault ending = ⊥
Tells NoMemory ending = ⊥

-- How far the call comes

-- the project file is held and within its limit
abbrev pub IsFetched : Ending → Type 0
IsFetched (unloaded (missing which.Project)) = ⊥
IsFetched (unloaded (too_large which.Project limit)) = ⊥
IsFetched ending = Unit {0}

-- and it is accepted
abbrev pub IsLoaded : Ending → Type 0
IsLoaded (unloaded (missing which.Project)) = ⊥
IsLoaded (unloaded (too_large which.Project limit)) = ⊥
IsLoaded (unloaded (not_accepted r)) = ⊥
IsLoaded ending = Unit {0}

-- and so is the saved run, where there is one
abbrev pub IsReady : Ending → Type 0
IsReady (unloaded (missing which.Project)) = ⊥
IsReady (unloaded (missing which.Saved)) = ⊥
IsReady (unloaded (too_large which.Project limit)) = ⊥
IsReady (unloaded (too_large which.Saved limit)) = ⊥
IsReady (unloaded (not_accepted r)) = ⊥
IsReady (unloaded (not_continued r)) = ⊥
IsReady ending = Unit {0}

-- The cause of each status

-- Every other status of words that have a form tells the ending. A read fault is one of the project file's; or the project
-- was loaded, and it is one of the saved run's; or that was loaded too. Want of memory is the shelf's, or the project file was
-- fetched.
abbrev pub AnswerCause : (project_failed saved_failed wanted : Type 0) → Ending → Status → Type 0
AnswerCause project_failed saved_failed wanted ending ReadFault = project_failed ⊎ ((saved_failed × IsLoaded ending) ⊎ IsReady ending)
AnswerCause project_failed saved_failed wanted ending WriteFault = IsReady ending
AnswerCause project_failed saved_failed wanted ending NoMemory = wanted ⊎ IsFetched ending
AnswerCause project_failed saved_failed wanted ending Usage = ⊥
AnswerCause project_failed saved_failed wanted ending Done = Tells Done ending
AnswerCause project_failed saved_failed wanted ending (BadProject r) = Tells (BadProject r) ending
AnswerCause project_failed saved_failed wanted ending (BadSave r) = Tells (BadSave r) ending
AnswerCause project_failed saved_failed wanted ending (BadScript r) = Tells (BadScript r) ending
AnswerCause project_failed saved_failed wanted ending (Limit l) = Tells (Limit l) ending
AnswerCause project_failed saved_failed wanted ending (TooLarge file limit) = Tells (TooLarge file limit) ending
