-- THE PROMISE OF `report`, in words that the files beside this one define: Naming reads the words, Verdict is what is said of a
-- project file, Text and Advice are its text, line by line. What is owed about faults and writes stands in
-- call_outcomes/specs, over the course of a status.
--
-- The words `p.json`, over a shelf that holds a project of two targets under this name, write one text, by one write:
--     The project loads.
--     Stage and sprites: 2
--     ..
-- The status is Done, the file was fetched once, and the shelf holds what it held.
use Rattle.std.specs.Prelude.{◌≡◌, ◌⊎◌, ℕ, nat_lt, List, [], ◌∷◌, length, Option, None, Some, IfSome, IsSome, if◌then◌else◌}
use Rattle.std.specs.FinMap.{get}
use Rattle.sv_channels.specs.Counts.{next_count}
use Rattle.sv_channels.specs.Files.{Files}
use Rattle.sv_channels.specs.Sink.{Gained}
use Rattle.call_outcomes.specs.Course.{Course, usage, read_fault, write_fault, no_memory, silent, whole}
use Rattle.call_outcomes.specs.Faults.{FaultCause, FetchFailed, WriteFailed, Wanted, HidesNothing}
use Rattle.call_outcomes.specs.Idle.{IsIdle}
use Rattle.call_outcomes.specs.Seen.{ShelfNow, SinkNow}
use Rattle.call_outcomes.specs.Writes.{Wrote, IsSilent}
use Rattle.project_json.specs.Tree.{Tree}
use Rattle.project_spec.specs.Limits.{project_limit}
use Rattle.report_command.specs.declared.counts.Counts.{Counts}
use Rattle.report_command.specs.declared.status.Status.{Status}
use Rattle.report_command.specs.declared.status.Status.TheVariants.{Done, Usage, ReadFault, WriteFault, BadProject, TooLarge, NoMemory}
use Rattle.project_spec.specs.RuleNames.{project_rule}
use Rattle.report_command.specs.Verdict.{Verdict, accepted, refused, IsVerdict, verdict_text}

-- the course of a status: all is written of a project that loads, and of one that is refused
abbrev pub course : Status → Course
course Done = whole
course (BadProject r) = whole
course Usage = usage
course ReadFault = read_fault
course WriteFault = write_fault
course (TooLarge limit) = silent
course NoMemory = no_memory

-- 1. What the call does where nothing fails

-- the file is not held, or longer than its limit; or this is said of it
pub data Ending : Type 0 where
  missing : Ending
  too_large : ℕ → Ending
  said : Verdict → Ending

-- of a file that is held with these bytes
abbrev pub ending_of : Option (List ℕ) → Verdict → Ending
ending_of None v = missing
ending_of (Some bytes) v = if nat_lt project_limit (length bytes) then too_large project_limit else said v

-- the text that is written, by one write
abbrev pub texts_of : Ending → List (List ℕ)
texts_of missing = []
texts_of (too_large limit) = []
texts_of (said v) = verdict_text v ∷ []

-- 2. The causes of each status

-- the status tells the ending
abbrev pub Tells : Status → Ending → Type 0
Tells Done ending = (c : Counts) × (ending ≡ said (accepted c))
Tells (BadProject r) ending = (document : Option Tree) × (names : List (List ℕ)) × (ending ≡ said (refused r document names))
Tells (TooLarge limit) ending = ending ≡ too_large limit
Tells status ending = ⊥

-- the file is held and within its limit
abbrev pub IsFetched : Ending → Type 0
IsFetched missing = ⊥
IsFetched (too_large limit) = ⊥
IsFetched (said v) = Unit {0}

-- want of memory stands in no other status
abbrev pub HoldsNoWant : Status → Type 0
HoldsNoWant (BadProject r) = IsSome (project_rule r)
HoldsNoWant status = Unit {0}

-- every other status of words that have the form tells the ending; a write fault comes of a file that was fetched, and
-- want of memory too, or it is the shelf's
abbrev pub AnswerCause : (fetch_failed wanted : Type 0) → Ending → Status → Type 0
AnswerCause fetch_failed wanted ending ReadFault = fetch_failed
AnswerCause fetch_failed wanted ending WriteFault = IsFetched ending
AnswerCause fetch_failed wanted ending NoMemory = wanted ⊎ IsFetched ending
AnswerCause fetch_failed wanted ending Usage = ⊥
AnswerCause fetch_failed wanted ending Done = Tells Done ending
AnswerCause fetch_failed wanted ending (BadProject r) = Tells (BadProject r) ending
AnswerCause fetch_failed wanted ending (TooLarge limit) = Tells (TooLarge limit) ending

-- 3. Of which calls a clause speaks: what the shelf holds is told, and the verdict is that of the file

abbrev pub OfFile : Option (List ℕ) → Verdict → Type 0
OfFile None v = Unit {0}
OfFile (Some bytes) v = IsVerdict bytes v

abbrev pub Promised : Option Files → List ℕ → (Ending → Type 0) → Type 0
Promised held name fact =
    IfSome held (λ files. (v : Verdict) → OfFile (get files name) v → fact (ending_of (get files name) v))

-- and there is a verdict
abbrev pub Found : Option Files → List ℕ → (Ending → Type 0) → Type 0
Found held name fact =
    IfSome held (λ files. (v : Verdict) × OfFile (get files name) v × fact (ending_of (get files name) v))

-- where the file was judged
abbrev pub IsFound : Option Files → List ℕ → Status → Type 0
IsFound held name Done = Found held name (Tells Done)
IsFound held name (BadProject r) = Found held name (Tells (BadProject r))
IsFound held name status = Unit {0}

-- 4. What is owed

-- one text at most is written, by one write, whatever is told of the files
abbrev pub WroteOne : SinkNow → SinkNow → Course → Type 0
WroteOne k l course = (text : List ℕ) × Wrote k l ⊥ (text ∷ []) course

-- want of memory leaves nothing written
abbrev pub WantWroteNothing : SinkNow → SinkNow → Status → Type 0
WantWroteNothing k l NoMemory = Gained k.written l.written []
WantWroteNothing k l status = Unit {0}

-- What a call owes whose words name a file, by what was seen of the shelf and the sink before it, s and k, and after it, t and l:
-- a fault only where its count rose, and no fault hidden; every other status but want of memory exactly where the file's ending
-- is so; where no count rose the answer tells the ending, or memory ran out; what was written, and by which writes; and the file
-- was fetched once, and the shelf holds what it held.
pub record Owes (name : List ℕ) (s t : ShelfNow) (k l : SinkNow) (status : Status) : Type 0 where
  pub fault : FaultCause (FetchFailed s t name) (WriteFailed k l) (course status)
  pub honest : HidesNothing s t k l (course status)
  pub pure : HoldsNoWant status
  pub exact : Promised s.held name (λ ending. AnswerCause (FetchFailed s t name) (Wanted s t) ending status)
  pub found : IsFound s.held name status
  pub complete : Promised s.held name (λ ending. ¬ FetchFailed s t name → ¬ WriteFailed k l → Tells status ending ⊎ (status ≡ NoMemory))
  pub wrote : Promised s.held name (λ ending. Wrote k l ⊥ (texts_of ending) (course status))
  pub one : WroteOne k l (course status)
  pub silent : IsSilent k l (course status)
  pub want : WantWroteNothing k l status
  pub held : t.held ≡ s.held
  pub fetches : t.calls ≡ next_count s.calls

-- words that name no file call nothing
abbrev pub Reports : Option (List ℕ) → (s t : ShelfNow) → (k l : SinkNow) → Status → Type 0
Reports None s t k l status = IsIdle s t k l
Reports (Some name) s t k l status = Owes name s t k l status
