-- What a call owes, by what it owes whatever the files stand for and by its outcome.
use Rattle.std.proofs.Common.{◌≡◌, ◌⊎◌, ℕ, ◌+◌, ◌≤◌, List, Option, None, Some, Result, Ok, Err, refl, sym, ap, ◌∙◌, subst, inl, inr, ⊎_elim}
use Rattle.std.specs.Prelude.{◌≢◌, IsSome, ⊤}
use Rattle.sv_channels.specs.Files.{Files}
use Rattle.sv_channels.specs.declared.errors.FetchError.{FetchError}
use Rattle.sv_channels.specs.declared.errors.FetchError.TheVariants as fetch
use Rattle.sv_channels.proofs.Gains.{Gained-nil}
use Rattle.call_outcomes.specs.Course.{Course, usage, read_fault, write_fault, no_memory, silent, whole}
use Rattle.call_outcomes.specs.Faults.{FaultCause, FetchFailed, PutFailed, WriteFailed, Wanted}
use Rattle.call_outcomes.specs.Seen.{ShelfNow, SinkNow}
use Rattle.call_outcomes.specs.Shelving.{Shelved}
use Rattle.call_outcomes.specs.Stages.{Fetches, Writes}
use Rattle.call_outcomes.specs.Writes.{Wrote}
use Rattle.call_outcomes.proofs.Writings.{front_none, writes_put}
use Rattle.sv_channels.specs.Shelf.{IsHeldAbove}
use Rattle.project_spec.specs.declared.refusals.Refusal.{Refusal}
use Rattle.saved_spec.specs.declared.refusals.SaveRefusal.{SaveRefusal}
use Rattle.project_spec.specs.RuleNames.{project_rule}
use Rattle.saved_spec.specs.RuleNames.{saved_rule}
use Rattle.run_save.specs.declared.status.Which.{Which}
use Rattle.run_save.specs.declared.status.Status.{Status}
use Rattle.run_save.specs.declared.status.Status.TheVariants.{Done, Usage, ReadFault, WriteFault, BadProject, BadSave, BadScript, Limit, TooLarge, NoMemory}
use Rattle.script_play.specs.declared.stops.PlayStop.{PlayStop}
use Rattle.script_play.specs.declared.stops.PlayStop.TheVariants as stop
use Rattle.play_command.specs.Calls.{files_of, fetched_at, name_of_save, name_put}
use Rattle.play_command.specs.Causes.{FileFailed, ProjectFailed, SavedFailed, Tells, IsReady, IsFetched, AnswerCause}
use Rattle.run_save.specs.Statuses.{HoldsNoWant}
use Rattle.play_command.specs.Command.{Command}
use Rattle.play_command.specs.Outcome.{Ending, unloaded, too_large, not_accepted, not_continued, Outcome}
use Rattle.play_command.specs.Promise.{course, Promised, Found, IsFound, Owes}
use Rattle.play_command.specs.Resuming.{Resumable}
use Rattle.play_command.specs.Saving.{EndsAs}
use Rattle.play_command.specs.Stages.{unfetched, refused_by, rejected_by, played_as, Completes}
use Rattle.play_command.proofs.Costs.{Reached, Costs, costs_unfetched, costs_silent, costs_wanting, costs_played, put_failed_before, shelved_before, failed_before}
use Rattle.play_command.proofs.Reach.{is_loaded, is_fetched}
use Rattle.play_command.proofs.Files.{Both, promised_map, found_map}

-- the cause of a status, by an outcome
abbrev pub Cause : Command → (s t : ShelfNow) → Status → Outcome → Type 0
Cause command s t status o = AnswerCause (ProjectFailed s t command) (SavedFailed s t command) (Wanted s t) o.ending status

-- what is owed by an outcome
pub record Answers (command : Command) (s t : ShelfNow) (k l : SinkNow) (status : Status) (o : Outcome) : Type 0 where
  pub cause : Cause command s t status o
  pub wrote : Wrote k l (PutFailed s t (name_of_save command)) o.texts (course status)
  pub shelved : Shelved s t (name_put (name_of_save command) status) o.saved (course status)

-- an answer that is exact is complete
completes : (f v p pf sf w : Type 0) (ending : Ending) (status : Status) → FaultCause f (v ⊎ p) (course status) → AnswerCause pf sf w ending status → ¬ f → ¬ v → ¬ p → Tells status ending ⊎ (status ≡ NoMemory)
completes f v p pf sf w ending Done a h x y z = inl h
completes f v p pf sf w ending (BadProject r) a h x y z = inl h
completes f v p pf sf w ending (BadSave r) a h x y z = inl h
completes f v p pf sf w ending (BadScript r) a h x y z = inl h
completes f v p pf sf w ending (Limit l) a h x y z = inl h
completes f v p pf sf w ending (TooLarge file l) a h x y z = inl h
completes f v p pf sf w ending ReadFault a h x y z = absurd (x a)
completes f v p pf sf w ending WriteFault a h x y z = absurd (⊎_elim y z a)
completes f v p pf sf w ending NoMemory a h x y z = inr refl
completes f v p pf sf w ending Usage a h x y z = absurd h

owes_of : (command : Command) (s t : ShelfNow) (k l : SinkNow) (status : Status) → Costs command (name_put (name_of_save command) status) (fetched_at command status) s t k l (course status) → HoldsNoWant status
    → Promised s.held command (Answers command s t k l status) → IsFound s.held command status → Owes command s t k l status
owes_of command s t k l status c pure answers found = record {
  fault = c.fault;
  honest = c.honest;
  pure = pure;
  exact = promised_map s.held command (Answers command s t k l status) (Cause command s t status) (λ o a. a.cause) answers;
  found = found;
  complete = promised_map s.held command (Answers command s t k l status)
      (λ o. ¬ FileFailed s t command → ¬ WriteFailed k l → ¬ PutFailed s t (name_of_save command) → Tells status o.ending ⊎ (status ≡ NoMemory))
      (λ o a. completes _ _ _ _ _ _ o.ending status c.fault a.cause) answers;
  wrote = promised_map s.held command (Answers command s t k l status) (λ o. Wrote k l (PutFailed s t (name_of_save command)) o.texts (course status)) (λ o a. a.wrote) answers;
  silent = c.silent;
  shelved = promised_map s.held command (Answers command s t k l status) (λ o. Shelved s t (name_put (name_of_save command) status) o.saved (course status)) (λ o a. a.shelved) answers;
  held = c.held;
  calls = c.calls;
}

is_found : (held : Option Files) (command : Command) (s t : ShelfNow) (status : Status) → Found held command (Cause command s t status) → IsFound held command status
is_found held command s t Done h = h
is_found held command s t (BadProject r) h = h
is_found held command s t (BadSave r) h = h
is_found held command s t (BadScript r) h = h
is_found held command s t (Limit l) h = h
is_found held command s t (TooLarge file l) h = h
is_found held command s t Usage h = tt
is_found held command s t ReadFault h = tt
is_found held command s t WriteFault h = tt
is_found held command s t NoMemory h = tt

-- Nothing was written or put

abbrev IsEarly : Status → Type 0
IsEarly ReadFault = ⊤
IsEarly (BadProject r) = ⊤
IsEarly (BadSave r) = ⊤
IsEarly (TooLarge file l) = ⊤
IsEarly NoMemory = ⊤
IsEarly status = ⊥

abbrev LeavesFiles : Course → Type 0
LeavesFiles whole = ⊥
LeavesFiles write_fault = ⊥
LeavesFiles course = ⊤

shelved_same : (s t : ShelfNow) (name saved : Option (List ℕ)) (c : Course) → LeavesFiles c → t.held ≡ s.held → Shelved s t name saved c
shelved_same s t None saved c h e = e
shelved_same s t (Some name) saved whole h e = absurd h
shelved_same s t (Some name) saved write_fault h e = absurd h
shelved_same s t (Some name) saved usage h e = e
shelved_same s t (Some name) saved read_fault h e = e
shelved_same s t (Some name) saved no_memory h e = e
shelved_same s t (Some name) saved silent h e = e

answers_early : (command : Command) (s t : ShelfNow) (k : SinkNow) (status : Status) → IsEarly status → t.held ≡ s.held → (o : Outcome) → Cause command s t status o → Answers command s t k k status o
answers_early command s t k ReadFault is e o h = record { cause = h; wrote = (Gained-nil k.written, refl); shelved = shelved_same s t (name_of_save command) o.saved read_fault tt e }
answers_early command s t k (BadProject r) is e o h = record { cause = h; wrote = (Gained-nil k.written, refl); shelved = shelved_same s t (name_of_save command) o.saved silent tt e }
answers_early command s t k (BadSave r) is e o h = record { cause = h; wrote = (Gained-nil k.written, refl); shelved = shelved_same s t (name_of_save command) o.saved silent tt e }
answers_early command s t k (TooLarge file l) is e o h = record { cause = h; wrote = (Gained-nil k.written, refl); shelved = shelved_same s t (name_of_save command) o.saved silent tt e }
answers_early command s t k NoMemory is e o h = record { cause = h; wrote = front_none k o.texts; shelved = shelved_same s t (name_of_save command) o.saved no_memory tt e }
answers_early command s t k Done is e o h = absurd is
answers_early command s t k Usage is e o h = absurd is
answers_early command s t k WriteFault is e o h = absurd is
answers_early command s t k (BadScript r) is e o h = absurd is
answers_early command s t k (Limit l) is e o h = absurd is

early_resumable : (held : Option Files) (command : Command) (status : Status) → IsEarly status → Resumable held command status
early_resumable held command ReadFault is = tt
early_resumable held command (BadProject r) is = tt
early_resumable held command (BadSave r) is = tt
early_resumable held command (TooLarge file l) is = tt
early_resumable held command NoMemory is = tt
early_resumable held command Done is = absurd is
early_resumable held command Usage is = absurd is
early_resumable held command WriteFault is = absurd is
early_resumable held command (BadScript r) is = absurd is
early_resumable held command (Limit l) is = absurd is

early_no_usage : (status : Status) → IsEarly status → status ≢ Usage
early_no_usage status is e = subst IsEarly e is

early : (command : Command) (s t : ShelfNow) (k : SinkNow) (status : Status) → IsEarly status → t.held ≡ s.held → Costs command (name_put (name_of_save command) status) (fetched_at command status) s t k k (course status) → HoldsNoWant status
    → Promised s.held command (Cause command s t status) → IsFound s.held command status → Completes command s t k k status
early command s t k status is e c pure cause found = record {
  owes = owes_of command s t k k status c pure (promised_map s.held command (Cause command s t status) (Answers command s t k k status) (answers_early command s t k status is e) cause) found;
  resumable = early_resumable s.held command status is;
  no_usage = early_no_usage status is;
}

-- A file is not fetched

above_before : (n : ℕ) (name : List ℕ) (limit : ℕ) (s m : ShelfNow) → Reached n s m → IsHeldAbove m.held name limit → IsHeldAbove s.held name limit
above_before n name limit s m r h = subst (λ held. IsHeldAbove held name limit) r.held h

pub completes_unfetched : (command : Command) (file : Which) (n : ℕ) (name : List ℕ) (limit : ℕ) (s m t : ShelfNow) (k : SinkNow) (e : FetchError) → Reached n s m → Fetches name limit m t (Err e) → (FetchFailed s t name → FileFailed s t command)
    → n + 1 ≤ files_of command → n + 1 ≡ fetched_at command (TooLarge file limit)
    → (FetchFailed s t name → Promised s.held command (Cause command s t ReadFault)) → (Wanted m t → Promised s.held command (Cause command s t NoMemory))
    → (IsHeldAbove s.held name limit → Both s.held command (λ o. o.ending ≡ unloaded (too_large file limit)))
    → Completes command s t k k (unfetched file e)
completes_unfetched command file n name limit s m t k fetch.Failed r h f few at failed wanted large =
    early command s t k ReadFault tt (h.held ∙ r.held) (read_costs (costs_unfetched command (name_of_save command) file n name limit (n + 1) s m t k fetch.Failed r h f few refl)) tt (failed (failed_before n name s m t r h.told)) tt
  where
    read_costs : Costs command (name_of_save command) (n + 1) s t k k read_fault → Costs command (name_of_save command) (files_of command) s t k k read_fault
    read_costs c = record { fault = c.fault; honest = c.honest; silent = c.silent; held = c.held; calls = c.calls }
completes_unfetched command file n name limit s m t k (fetch.TooLarge l) r h f few at failed wanted large =
    let both = large (above_before n name limit s m r h.told.1) in
    let same : limit ≡ l = sym h.told.0 in
    let ending : (o : Outcome) → o.ending ≡ unloaded (too_large file limit) → o.ending ≡ unloaded (too_large file l) = λ o e. e ∙ ap (λ x. unloaded (too_large file x)) same in
    early command s t k (TooLarge file l) tt (h.held ∙ r.held)
    (costs_unfetched command (name_of_save command) file n name limit (fetched_at command (TooLarge file l)) s m t k (fetch.TooLarge l) r h f few (at ∙ ap (λ x. fetched_at command (TooLarge file x)) same)) tt
    (promised_map s.held command (λ o. o.ending ≡ unloaded (too_large file limit)) (Cause command s t (TooLarge file l)) ending both.all)
    (found_map s.held command (λ o. o.ending ≡ unloaded (too_large file limit)) (Cause command s t (TooLarge file l)) ending both.some)
completes_unfetched command file n name limit s m t k fetch.NoMemory r h f few at failed wanted large =
    early command s t k NoMemory tt (h.held ∙ r.held) (want_costs (costs_unfetched command (name_of_save command) file n name limit (n + 1) s m t k fetch.NoMemory r h f few refl)) tt (wanted h.wanted) tt
  where
    want_costs : Costs command (name_of_save command) (n + 1) s t k k no_memory → Costs command (name_of_save command) (files_of command) s t k k no_memory
    want_costs c = record { fault = c.fault; honest = c.honest; silent = c.silent; held = c.held; calls = c.calls }

-- A file is refused

pub completes_refused : (command : Command) (n : ℕ) (s t : ShelfNow) (k : SinkNow) (r : Refusal) (text : Option (List ℕ)) → Reached n s t → n ≤ files_of command → n ≡ fetched_at command (BadProject r) → text ≡ project_rule r
    → (IsSome (project_rule r) → Both s.held command (λ o. o.ending ≡ unloaded (not_accepted r))) → Promised s.held command (λ o. IsFetched o.ending) → Completes command s t k k (refused_by r text)
completes_refused command n s t k r None reached few at e both fetched =
    early command s t k NoMemory tt reached.held (costs_wanting command (name_of_save command) n (files_of command) s t k reached few) tt
    (promised_map s.held command (λ o. IsFetched o.ending) (Cause command s t NoMemory) (λ o h. inr h) fetched) tt
completes_refused command n s t k r (Some x) reached few at e both fetched =
    let some : IsSome (project_rule r) = subst (λ o. IsSome o) e refl in
    let found = both some in
    early command s t k (BadProject r) tt reached.held (costs_silent command (name_of_save command) n (fetched_at command (BadProject r)) s t k reached at) some found.all found.some

pub completes_rejected : (command : Command) (s t : ShelfNow) (k : SinkNow) (r : SaveRefusal) (text : Option (List ℕ)) → Reached 2 s t → 2 ≤ files_of command → text ≡ saved_rule r
    → (IsSome (saved_rule r) → Both s.held command (λ o. o.ending ≡ unloaded (not_continued r))) → Promised s.held command (λ o. IsFetched o.ending) → Completes command s t k k (rejected_by r text)
completes_rejected command s t k r None reached few e both fetched =
    early command s t k NoMemory tt reached.held (costs_wanting command (name_of_save command) 2 (files_of command) s t k reached few) tt
    (promised_map s.held command (λ o. IsFetched o.ending) (Cause command s t NoMemory) (λ o h. inr h) fetched) tt
completes_rejected command s t k r (Some x) reached few e both fetched =
    let some : IsSome (saved_rule r) = subst (λ o. IsSome o) e refl in
    let found = both some in
    early command s t k (BadSave r) tt reached.held (costs_silent command (name_of_save command) 2 2 s t k reached refl) some found.all found.some

-- All files were fetched

module _ (command : Command) (s m t : ShelfNow) (k l : SinkNow) (o : Outcome) (reached : Reached (files_of command) s m) (ready : IsReady o.ending) where
  -- what is owed of texts and files
  texts_of : (c : Course) → Writes k l (PutFailed m t (name_of_save command)) o.texts c → Wrote k l (PutFailed s t (name_of_save command)) o.texts c
  texts_of c w =
      let behind = writes_put (PutFailed m t (name_of_save command)) (PutFailed s t (name_of_save command)) k l o.texts c (put_failed_before s m t (name_of_save command) reached.puts) w in
      behind.wrote

  answers_played : (answer : Result (Unit {0}) PlayStop) → EndsAs (name_of_save command) o m t k l answer → Answers command s t k l (played_as answer) o
  answers_played (Ok u) h = record { cause = h.ends; wrote = texts_of whole h.writes; shelved = shelved_before s m t (name_of_save command) o.saved whole reached.held reached.puts h.shelf }
  answers_played (Err (stop.BadScript r)) h = record { cause = h.ends.0; wrote = texts_of whole h.writes; shelved = shelved_before s m t None o.saved whole reached.held reached.puts h.shelf }
  answers_played (Err (stop.Limit x)) h = record { cause = h.ends; wrote = texts_of whole h.writes; shelved = shelved_before s m t None o.saved whole reached.held reached.puts h.shelf }
  answers_played (Err stop.WriteFault) h = record { cause = ready; wrote = texts_of write_fault h.writes; shelved = shelved_before s m t (name_of_save command) o.saved write_fault reached.held reached.puts h.shelf }
  answers_played (Err stop.NoMemory) h = record {
    cause = inr (is_fetched o.ending (is_loaded o.ending ready));
    wrote = texts_of no_memory h.writes;
    shelved = shelved_before s m t (name_of_save command) o.saved no_memory reached.held reached.puts h.shelf;
  }

  costs_of : (answer : Result (Unit {0}) PlayStop) → EndsAs (name_of_save command) o m t k l answer → Costs command (name_put (name_of_save command) (played_as answer)) (fetched_at command (played_as answer)) s t k l (course (played_as answer))
  costs_of (Ok u) h = costs_played command (name_of_save command) o.saved (files_of command) s m t k l o.texts whole reached h.writes h.fetches h.puts h.calls h.shelf
  costs_of (Err (stop.BadScript r)) h = costs_played command None o.saved (files_of command) s m t k l o.texts whole reached h.writes h.fetches h.puts h.calls h.shelf
  costs_of (Err (stop.Limit x)) h = costs_played command None o.saved (files_of command) s m t k l o.texts whole reached h.writes h.fetches h.puts h.calls h.shelf
  costs_of (Err stop.WriteFault) h = costs_played command (name_of_save command) o.saved (files_of command) s m t k l o.texts write_fault reached h.writes h.fetches h.puts h.calls h.shelf
  costs_of (Err stop.NoMemory) h = costs_played command (name_of_save command) o.saved (files_of command) s m t k l o.texts no_memory reached h.writes h.fetches h.puts h.calls h.shelf

  pure_of : (answer : Result (Unit {0}) PlayStop) → EndsAs (name_of_save command) o m t k l answer → HoldsNoWant (played_as answer)
  pure_of (Ok u) h = tt
  pure_of (Err (stop.BadScript r)) h = h.ends.1
  pure_of (Err (stop.Limit x)) h = tt
  pure_of (Err stop.WriteFault) h = tt
  pure_of (Err stop.NoMemory) h = tt

  no_usage_of : (answer : Result (Unit {0}) PlayStop) → played_as answer ≢ Usage
  no_usage_of (Ok u) e = cc e
  no_usage_of (Err (stop.BadScript r)) e = cc e
  no_usage_of (Err (stop.Limit x)) e = cc e
  no_usage_of (Err stop.WriteFault) e = cc e
  no_usage_of (Err stop.NoMemory) e = cc e

  pub completes_played : (answer : Result (Unit {0}) PlayStop) → EndsAs (name_of_save command) o m t k l answer → Resumable s.held command (played_as answer)
      → ((P : Outcome → Type 0) → P o → Both s.held command P) → Completes command s t k l (played_as answer)
  completes_played answer h again all =
      let status = played_as answer in
      let both = all (Answers command s t k l status) (answers_played answer h) in
      record {
        owes = owes_of command s t k l status (costs_of answer h) (pure_of answer h) both.all
            (is_found s.held command s t status (found_map s.held command (Answers command s t k l status) (Cause command s t status) (λ x a. a.cause) both.some));
        resumable = again;
        no_usage = no_usage_of answer;
      }
