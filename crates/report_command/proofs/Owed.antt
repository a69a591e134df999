-- What a call owes, by how it ends: the file is not fetched, memory runs out behind the fetch, or a text is written.
use Rattle.std.proofs.Common.{◌≡◌, ◌⊎◌, ℕ, List, [], ◌∷◌, ◌≤◌, length, Option, None, Some, Ok, Err, refl, sym, ap, ◌∙◌, subst, inl, inr, Vec}
use Rattle.std.specs.Prelude.{IfSome, IsSome}
use Rattle.std.specs.declared.alloc.Global.{Global}
use Rattle.std.specs.FinMap.{get}
use Rattle.std.proofs.lemmas.Option.{same_Some}
use Rattle.sv_channels.specs.Counts.{NoneRose}
use Rattle.sv_channels.specs.Files.{Files}
use Rattle.sv_channels.specs.declared.errors.FetchError.{FetchError}
use Rattle.sv_channels.specs.declared.errors.FetchError.TheVariants as fetch
use Rattle.sv_channels.proofs.Gains.{Gained-nil}
use Rattle.call_outcomes.specs.Course.{Course, usage, read_fault, write_fault, no_memory, silent, whole}
use Rattle.call_outcomes.specs.Faults.{FaultCause, FetchFailed, WriteFailed, Wanted, HidesNothing}
use Rattle.call_outcomes.specs.Seen.{ShelfNow, SinkNow}
use Rattle.call_outcomes.specs.Stages.{Fetches, Writes}
use Rattle.call_outcomes.specs.Writes.{Wrote, IsSilent}
use Rattle.call_outcomes.proofs.Writings.{front_none, writes_silent}
use Rattle.project_spec.specs.declared.refusals.Refusal.{Refusal}
use Rattle.project_spec.specs.RuleNames.{project_rule}
use Rattle.report_command.specs.Promise.{course, Ending, missing, too_large, said, Tells, IsFetched, HoldsNoWant, AnswerCause, Promised, IsFound, texts_of, WantWroteNothing, Owes}
use Rattle.project_spec.specs.Limits.{project_limit}
use Rattle.report_command.specs.Stages.{unfetched, IsJudged, ToldOf}
use Rattle.report_command.specs.Verdict.{Verdict, accepted, refused, refusal_in, verdict_text}
use Rattle.report_command.specs.declared.judgement.Judged.{Judged}
use Rattle.report_command.specs.declared.status.Status.{Status}
use Rattle.report_command.specs.declared.status.Status.TheVariants.{Done, Usage, ReadFault, WriteFault, BadProject, TooLarge, NoMemory}
use Rattle.report_command.proofs.OneVerdict.{at_verdict, at_fetched, at_large, always, found_verdict}

-- an answer that is exact is complete
completes : (f w : Type 0) (v : Type 0) (ending : Ending) (status : Status) → FaultCause f v (course status) → AnswerCause f w ending status → ¬ f → ¬ v → Tells status ending ⊎ (status ≡ NoMemory)
completes f w v ending Done a h x y = inl h
completes f w v ending (BadProject r) a h x y = inl h
completes f w v ending (TooLarge l) a h x y = inl h
completes f w v ending ReadFault a h x y = absurd (x a)
completes f w v ending WriteFault a h x y = absurd (y a)
completes f w v ending NoMemory a h x y = inr refl
completes f w v ending Usage a h x y = absurd h

complete_all : (held : Option Files) (name : List ℕ) (f w v : Type 0) (status : Status) → FaultCause f v (course status) → Promised held name (λ e. AnswerCause f w e status)
    → Promised held name (λ e. ¬ f → ¬ v → Tells status e ⊎ (status ≡ NoMemory))
complete_all None name f w v status a h = tt
complete_all (Some files) name f w v status a h = λ x of_file. completes f w v _ status a (h x of_file)

-- the file is not fetched

pub owes_unfetched : (name : List ℕ) (s t : ShelfNow) (k : SinkNow) (e : FetchError) → Fetches name project_limit s t (Err e) → Owes name s t k k (unfetched e)
owes_unfetched name s t k fetch.Failed h = record {
  fault = h.told;
  honest = (h.put_faults, refl);
  pure = tt;
  exact = always (λ e. AnswerCause (FetchFailed s t name) (Wanted s t) e ReadFault) s.held name (λ e. h.told);
  found = tt;
  complete = complete_all s.held name (FetchFailed s t name) (Wanted s t) (WriteFailed k k) ReadFault h.told (always (λ e. AnswerCause (FetchFailed s t name) (Wanted s t) e ReadFault) s.held name (λ e. h.told));
  wrote = always (λ e. Wrote k k ⊥ (texts_of e) read_fault) s.held name (λ e. (Gained-nil k.written, refl));
  one = ([], (Gained-nil k.written, refl));
  silent = (Gained-nil k.written, refl);
  want = tt;
  held = h.held;
  fetches = h.calls;
}
owes_unfetched name s t k (fetch.TooLarge l) h =
    let P : Ending → Type 0 = λ e. AnswerCause (FetchFailed s t name) (Wanted s t) e (TooLarge l) in
    let exact = at_large P s.held name h.told.1 (ap too_large (sym h.told.0)) in
    record {
      fault = tt;
      honest = record { fetches = h.steady; puts = h.put_faults; writes = refl };
      pure = tt;
      exact = exact;
      found = tt;
      complete = complete_all s.held name (FetchFailed s t name) (Wanted s t) (WriteFailed k k) (TooLarge l) tt exact;
      wrote = always (λ e. Wrote k k ⊥ (texts_of e) silent) s.held name (λ e. (Gained-nil k.written, refl));
      one = ([], (Gained-nil k.written, refl));
      silent = (Gained-nil k.written, refl);
      want = tt;
      held = h.held;
      fetches = h.calls;
    }
owes_unfetched name s t k fetch.NoMemory h =
    let exact = always (λ e. AnswerCause (FetchFailed s t name) (Wanted s t) e NoMemory) s.held name (λ e. inl h.wanted) in
    record {
      fault = tt;
      honest = record { fetches = h.steady; puts = h.put_faults; writes = refl };
      pure = tt;
      exact = exact;
      found = tt;
      complete = complete_all s.held name (FetchFailed s t name) (Wanted s t) (WriteFailed k k) NoMemory tt exact;
      wrote = always (λ e. Wrote k k ⊥ (texts_of e) no_memory) s.held name (λ e. front_none k (texts_of e));
      one = ([], front_none k ([] ∷ []));
      silent = tt;
      want = Gained-nil k.written;
      held = h.held;
      fetches = h.calls;
    }

-- memory runs out behind the fetch

pub owes_wanting : (name : List ℕ) (s t : ShelfNow) (k : SinkNow) (bytes : Vec ℕ Global) → Fetches name project_limit s t (Ok bytes) → Owes name s t k k NoMemory
owes_wanting name s t k bytes h =
    let exact = at_fetched (λ e. AnswerCause (FetchFailed s t name) (Wanted s t) e NoMemory) s.held name bytes.items h.told.0 h.told.1 (λ v. inr tt) in
    record {
      fault = tt;
      honest = record { fetches = h.steady; puts = h.put_faults; writes = refl };
      pure = tt;
      exact = exact;
      found = tt;
      complete = complete_all s.held name (FetchFailed s t name) (Wanted s t) (WriteFailed k k) NoMemory tt exact;
      wrote = always (λ e. Wrote k k ⊥ (texts_of e) no_memory) s.held name (λ e. front_none k (texts_of e));
      one = ([], front_none k ([] ∷ []));
      silent = tt;
      want = Gained-nil k.written;
      held = h.held;
      fetches = h.calls;
    }

-- a text is written

-- what was told of a verdict tells its ending
told_cause : (f w : Type 0) (v : Verdict) (r : Option Refusal) (status : Status) → r ≡ refusal_in v → ToldOf r status → AnswerCause f w (said v) status
told_cause f w (accepted c) r Done e h = (c, refl)
told_cause f w (refused s d names) r Done e h = absurd (let same : Some s ≡ None = sym e ∙ h in cc)
told_cause f w (accepted c) r (BadProject t) e h = absurd (let same : None ≡ Some t = sym e ∙ h in cc)
told_cause f w (refused s d names) r (BadProject t) e h = (d, names, ap (λ x. said (refused x d names)) (same_Some s t (sym e ∙ h)))
told_cause f w v r WriteFault e h = tt
told_cause f w v r NoMemory e h = inr tt
told_cause f w v r Usage e h = absurd h
told_cause f w v r ReadFault e h = absurd h
told_cause f w v r (TooLarge l) e h = absurd h

told_pure : (r : Option Refusal) (status : Status) → IfSome r (λ x. IsSome (project_rule x)) → ToldOf r status → HoldsNoWant status
told_pure r Done k h = tt
told_pure r (BadProject x) k h = subst (λ o. IfSome o (λ y. IsSome (project_rule y))) h k
told_pure r WriteFault k h = tt
told_pure r NoMemory k h = tt
told_pure r Usage k h = absurd h
told_pure r ReadFault k h = absurd h
told_pure r (TooLarge l) k h = absurd h

told_fault : (f : Type 0) (k l : SinkNow) (texts : List (List ℕ)) (r : Option Refusal) (status : Status) → ToldOf r status → Writes k l ⊥ texts (course status) → FaultCause f (WriteFailed k l) (course status)
told_fault f k l texts r Done h w = tt
told_fault f k l texts r (BadProject x) h w = tt
told_fault f k l texts r WriteFault h w = failed w.wrote where
  failed : Wrote k l ⊥ texts write_fault → WriteFailed k l
  failed (inl a) = a.0
  failed (inr a) = absurd a.0
told_fault f k l texts r NoMemory h w = tt
told_fault f k l texts r Usage h w = absurd h
told_fault f k l texts r ReadFault h w = absurd h
told_fault f k l texts r (TooLarge x) h w = absurd h

told_honest : (s t : ShelfNow) (k l : SinkNow) (texts : List (List ℕ)) (r : Option Refusal) (status : Status) → ToldOf r status → NoneRose s.fetch_faults t.fetch_faults → NoneRose s.put_faults t.put_faults
    → Writes k l ⊥ texts (course status) → HidesNothing s t k l (course status)
told_honest s t k l texts r Done h f p w = record { fetches = f; puts = p; writes = w.steady }
told_honest s t k l texts r (BadProject x) h f p w = record { fetches = f; puts = p; writes = w.steady }
told_honest s t k l texts r WriteFault h f p w = f
told_honest s t k l texts r NoMemory h f p w = record { fetches = f; puts = p; writes = w.steady }
told_honest s t k l texts r Usage h f p w = absurd h
told_honest s t k l texts r ReadFault h f p w = absurd h
told_honest s t k l texts r (TooLarge x) h f p w = absurd h

is_found : (held : Option Files) (name : List ℕ) (bytes : Vec ℕ Global) (j : Judged) (status : Status) → length bytes.items ≤ project_limit → IfSome held (λ files. get files name ≡ Some bytes.items) → IsJudged bytes.items j → ToldOf j.refusal status → IsFound held name status
is_found held name bytes j Done small is judged h = found_verdict (Tells Done) held name bytes.items judged.verdict small is judged.is (told_cause ⊥ ⊥ judged.verdict j.refusal Done judged.refusal h)
is_found held name bytes j (BadProject r) small is judged h = found_verdict (Tells (BadProject r)) held name bytes.items judged.verdict small is judged.is (told_cause ⊥ ⊥ judged.verdict j.refusal (BadProject r) judged.refusal h)
is_found held name bytes j Usage small is judged h = tt
is_found held name bytes j ReadFault small is judged h = tt
is_found held name bytes j WriteFault small is judged h = tt
is_found held name bytes j (TooLarge l) small is judged h = tt
is_found held name bytes j NoMemory small is judged h = tt

pub owes_told : (name : List ℕ) (s t : ShelfNow) (k l : SinkNow) (bytes : Vec ℕ Global) (j : Judged) (status : Status) → Fetches name project_limit s t (Ok bytes) → IsJudged bytes.items j → ToldOf j.refusal status
    → Writes k l ⊥ (j.text.items ∷ []) (course status) → WantWroteNothing k l status → Owes name s t k l status
owes_told name s t k l bytes j status h judged told writes want =
    let P : Ending → Type 0 = λ e. AnswerCause (FetchFailed s t name) (Wanted s t) e status in
    let Q : Ending → Type 0 = λ e. Wrote k l ⊥ (texts_of e) (course status) in
    let fault = told_fault (FetchFailed s t name) k l (j.text.items ∷ []) j.refusal status told writes in
    let exact = at_verdict P s.held name bytes.items judged.verdict h.told.0 h.told.1 judged.is (told_cause (FetchFailed s t name) (Wanted s t) judged.verdict j.refusal status judged.refusal told) in
    record {
      fault = fault;
      honest = told_honest s t k l (j.text.items ∷ []) j.refusal status told h.steady h.put_faults writes;
      pure = told_pure j.refusal status judged.rule told;
      exact = exact;
      found = is_found s.held name bytes j status h.told.0 h.told.1 judged told;
      complete = complete_all s.held name (FetchFailed s t name) (Wanted s t) (WriteFailed k l) status fault exact;
      wrote = at_verdict Q s.held name bytes.items judged.verdict h.told.0 h.told.1 judged.is (subst (λ text. Wrote k l ⊥ (text ∷ []) (course status)) judged.text writes.wrote);
      one = (j.text.items, writes.wrote);
      silent = writes_silent ⊥ k l (j.text.items ∷ []) (course status) writes;
      want = want;
      held = h.held;
      fetches = h.calls;
    }
