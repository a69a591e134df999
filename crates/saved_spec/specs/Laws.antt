-- Laws of the rules, as statements that public functions with empty bodies prove.
use Rattle.std.specs.Prelude.{◌≡◌, ◌≢◌, true, ℕ, List, Result}
use Rattle.machine_spec.specs.Tasks.{Task}
use Rattle.saved_spec.specs.Saved.{Snapshot, saved, saved_text}
use Rattle.saved_spec.specs.Tasks.{task}
use Rattle.project_spec.specs.Basis.{Basis}
use Rattle.saved_spec.specs.Kept.{SavedThread, thread, thread_told}
use Rattle.saved_spec.specs.Legal.{told, IsLegalThread, BlocksAgree}
use Rattle.saved_spec.specs.Levels.{thread_is_well}
use Rattle.saved_spec.specs.RunShapes.{Told}
use Rattle.saved_spec.specs.Refusals.{IsJudged, IsAccepted, IsRefused}
use Rattle.saved_spec.specs.declared.refusals.SaveRefusal.{SaveRefusal}
use Rattle.saved_spec.specs.declared.refusals.SaveRefusal.TheVariants.{NoMemory}

-- bytes have one answer at most: they tell one run, or are refused in one way
abbrev pub OneAnswer : Type 0
OneAnswer = (b : Basis) (digest bytes : List ℕ) (r s : Result Told SaveRefusal) → IsJudged b digest bytes r → IsJudged b digest bytes s → r ≡ s

-- of two refusals of the same bytes, other than want of memory, both are the same
abbrev pub OneRefusal : Type 0
OneRefusal = (b : Basis) (digest bytes : List ℕ) (r s : SaveRefusal) → r ≢ NoMemory → s ≢ NoMemory → IsRefused b digest bytes r → IsRefused b digest bytes s → r ≡ s

-- what the text of a run of the machine tells is written as the run is
abbrev pub TellsWhatIsSaved : Type 0
TellsWhatIsSaved = (s : Snapshot Task) → saved task s ≡ saved thread (told s).run

-- a thread of a text that keeps the rules is what the text of a legal thread of the machine tells
abbrev pub ThreadsAreLegal : Type 0
ThreadsAreLegal =
    (b : Basis) (t : Told) (x : SavedThread) → thread_is_well b t x ≡ true
    → (of_machine : Task) × (thread_told of_machine ≡ x) × IsLegalThread b t.run.targets t.run.devices of_machine

-- what the text of a legal thread of the machine tells keeps the rules, where each block begins one script
abbrev pub LegalThreadsAreTold : Type 0
LegalThreadsAreTold =
    (b : Basis) (t : Told) (x : Task) (legal : IsLegalThread b t.run.targets t.run.devices x) → BlocksAgree b.program legal.hat
    → thread_is_well b t (thread_told x) ≡ true

-- bytes that are accepted are the saved text of what they tell
abbrev pub WrittenAsRead : Type 0
WrittenAsRead = (b : Basis) (digest bytes : List ℕ) (t : Told) → IsAccepted b digest bytes t → bytes ≡ saved_text thread t.run
