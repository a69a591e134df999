-- The ends of the three calls.
use Rattle.std.proofs.Common.{◌≡◌, ℕ, List, [], ◌∷◌, Option, None, Some, Result, Ok, Err, refl, sym, ap, ◌∙◌, subst, inl, inr, arith}
use Rattle.std.specs.Prelude.{IfSome}
use Rattle.std.specs.FinMap.{get}
use Rattle.sha2.specs.Sha256.{sha256}
use Rattle.sv_channels.specs.Files.{Files}
use Rattle.sv_channels.specs.Shelf.{IsHeldAbove}
use Rattle.sv_channels.specs.declared.errors.FetchError.{FetchError}
use Rattle.call_outcomes.specs.Seen.{ShelfNow, SinkNow}
use Rattle.call_outcomes.specs.Stages.{Fetches, Writes}
use Rattle.project_check.specs.Loaded.{Loads as LoadsProject}
use Rattle.project_spec.specs.declared.refusals.Refusal.{Refusal}
use Rattle.machine_spec.specs.Program.{Program}
use Rattle.project_spec.specs.Basis.{Basis}
use Rattle.saved_spec.specs.Laws.{OneAnswer, OneRefusal}
use Rattle.saved_spec.specs.Refusals.{IsRefused, IsAccepted as IsSavedRun}
use Rattle.saved_spec.specs.RunShapes.{Told}
use Rattle.saved_spec.specs.declared.refusals.SaveRefusal.{SaveRefusal}
use Rattle.project_spec.specs.RuleNames.{project_rule}
use Rattle.saved_spec.specs.RuleNames.{saved_rule}
use Rattle.run_save.specs.declared.status.Which.TheVariants as which
use Rattle.run_save.specs.declared.status.Status.TheVariants.{ReadFault, NoMemory}
use Rattle.script_play.specs.Lines.{IsWriteEnd}
use Rattle.script_play.specs.Stops.{course as course_of_answer}
use Rattle.script_play.specs.declared.stops.PlayStop.{PlayStop}
use Rattle.script_play.specs.declared.stops.PlayStop.TheVariants as stop
use Rattle.play_command.specs.Causes.{IsFetched}
use Rattle.play_command.specs.Command.{Form, ResumeForm, play, resume, check}
use Rattle.machine_spec.specs.ScriptText.{script_limit}
use Rattle.saved_spec.specs.Saved.{saved_limit}
use Rattle.project_spec.specs.Limits.{project_limit}
use Rattle.play_command.specs.Outcome.{refused, accepted, Bases, Loads, Checks, rejected, continued, too_large, not_accepted, not_continued, unloaded, Outcome, all_of, fetched, words_of, output_of, output_from, text_of_run, accepted_line, told_counts}
use Rattle.play_command.specs.Resuming.{Resumable}
use Rattle.play_command.specs.Saving.{EndsAs}
use Rattle.play_command.specs.Stages.{unfetched, refused_by, rejected_by, played_as, Completes}
use Rattle.play_command.specs.declared.counts.Counts.{Counts}
use Rattle.play_command.proofs.Costs.{Reached, reached_none}
use Rattle.play_command.proofs.Reach.{after_load, after_basis, all_ending, load_ready, saved_ready, is_loaded, is_fetched, loading_fetched, continuing_loaded, basis_loaded}
use Rattle.play_command.proofs.Files.{Both, always, large_all, large_one, loading_all, read_all, read_one, everywhere}
use Rattle.play_command.proofs.Owed.{Cause, completes_unfetched, completes_refused, completes_rejected, completes_played}
use Rattle.play_command.proofs.Readings.{IsFetchedFile, check_reading, project_reading, fetched_ok, fetched_large, load_cause, is_no_memory}
use Rattle.play_command.proofs.Resumed.{resume_large, resume_loading, resume_refused, resume_accepted, saved_large, saved_continuing, saved_read}
use Rattle.play_command.proofs.Saved.{ends_told}

-- a script that is too long ends the call so
script_large : (o : Option (List ℕ)) (next : List ℕ → Outcome) (held : Option Files) (files : Files) (name : List ℕ) → o ≡ get files name → held ≡ Some files → IsHeldAbove held name script_limit
    → (fetched which.Script script_limit o next).ending ≡ unloaded (too_large which.Script script_limit)
script_large o next held files name e same h =
    ap (λ (x : Outcome). x.ending) (ap (λ x. fetched which.Script script_limit x next) e ∙ fetched_large which.Script script_limit (get files name) next (subst (λ x. IsHeldAbove x name script_limit) same h))

-- Of the words `check`

pub check_unfetched : (project : List ℕ) (s t : ShelfNow) (k : SinkNow) (e : FetchError) → Fetches project project_limit s t (Err e) → Completes (check project) s t k k (unfetched which.Project e)
check_unfetched project s t k e h =
    completes_unfetched (check project) which.Project 0 project project_limit s s t k e (reached_none s) h (λ f. f) (omega arith) refl
    (λ f. always s.held (check project) (Cause (check project) s t ReadFault) (λ o. inl f))
    (λ w. always s.held (check project) (Cause (check project) s t NoMemory) (λ o. inl w))
    (λ above. record {
      all = large_all Checks (λ files bytes. told_counts) (λ o. o.ending ≡ unloaded (too_large which.Project project_limit)) s.held project above refl;
      some = large_one Checks (λ files bytes. told_counts) (λ o. o.ending ≡ unloaded (too_large which.Project project_limit)) s.held project above refl;
    })

pub check_refused : (project bytes : List ℕ) (s t : ShelfNow) (k : SinkNow) (r : Refusal) → Reached 1 s t → IsFetchedFile s.held project project_limit bytes → LoadsProject bytes (Err r) → Completes (check project) s t k k (refused_by r (project_rule r))
check_refused project bytes s t k r reached file h =
    completes_refused (check project) 1 s t k r (project_rule r) reached (omega arith) refl refl
    (λ some. record {
      all = read_all Checks (λ files b. told_counts) (λ o. o.ending ≡ unloaded (not_accepted r)) s.held project bytes (refused r) (check_reading bytes) file (load_cause bytes r h some) (everywhere s.held refl);
      some = read_one Checks (λ files b. told_counts) (λ o. o.ending ≡ unloaded (not_accepted r)) s.held project bytes (refused r) file (load_cause bytes r h some) (everywhere s.held refl);
    })
    (loading_all Checks (λ files b. told_counts) (λ o. IsFetched o.ending) s.held project bytes file (λ files loading. loading_fetched loading told_counts (λ c. tt)))

check_resumable : (held : Option Files) (project : List ℕ) (answer : Result (Unit {0}) PlayStop) → Resumable held (check project) (played_as answer)
check_resumable held project (Ok u) = tt
check_resumable held project (Err (stop.BadScript r)) = tt
check_resumable held project (Err (stop.Limit l)) = tt
check_resumable held project (Err stop.WriteFault) = tt
check_resumable held project (Err stop.NoMemory) = tt

pub check_told : (project bytes : List ℕ) (c : Counts) (s t : ShelfNow) (k l : SinkNow) (answer : Result (Unit {0}) PlayStop) → Reached 1 s t → IsFetchedFile s.held project project_limit bytes → Checks bytes (accepted c) → IsWriteEnd answer
    → Writes k l ⊥ (accepted_line c ∷ []) (course_of_answer answer) → Completes (check project) s t k l (played_as answer)
check_told project bytes c s t k l answer reached file is end w =
    completes_played (check project) s t t k l (told_counts c) reached tt answer (ends_told c t k l answer end w) (check_resumable s.held project answer)
    (λ P p. record {
      all = read_all Checks (λ files b. told_counts) P s.held project bytes (accepted c) (check_reading bytes) file is (everywhere s.held p);
      some = read_one Checks (λ files b. told_counts) P s.held project bytes (accepted c) file is (everywhere s.held p);
    })

-- Of the words `play`

pub play_unfetched : (form : Form) (s t : ShelfNow) (k : SinkNow) (e : FetchError) → Fetches form.project project_limit s t (Err e) → Completes (play form) s t k k (unfetched which.Project e)
play_unfetched form s t k e h =
    completes_unfetched (play form) which.Project 0 form.project project_limit s s t k e (reached_none s) h (λ f. inl f) (omega arith) refl
    (λ f. always s.held (play form) (Cause (play form) s t ReadFault) (λ o. inl f))
    (λ w. always s.held (play form) (Cause (play form) s t NoMemory) (λ o. inl w))
    (λ above. record {
      all = large_all Loads (after_load form) (λ o. o.ending ≡ unloaded (too_large which.Project project_limit)) s.held form.project above refl;
      some = large_one Loads (after_load form) (λ o. o.ending ≡ unloaded (too_large which.Project project_limit)) s.held form.project above refl;
    })

pub play_refused : (form : Form) (bytes : List ℕ) (s t : ShelfNow) (k : SinkNow) (r : Refusal) → Reached 1 s t → IsFetchedFile s.held form.project project_limit bytes → LoadsProject bytes (Err r) → Completes (play form) s t k k (refused_by r (project_rule r))
play_refused form bytes s t k r reached file h =
    completes_refused (play form) 1 s t k r (project_rule r) reached (omega arith) refl refl
    (λ some. record {
      all = read_all Loads (after_load form) (λ o. o.ending ≡ unloaded (not_accepted r)) s.held form.project bytes (refused r) (project_reading bytes) file (load_cause bytes r h some) (everywhere s.held refl);
      some = read_one Loads (after_load form) (λ o. o.ending ≡ unloaded (not_accepted r)) s.held form.project bytes (refused r) file (load_cause bytes r h some) (everywhere s.held refl);
    })
    (loading_all Loads (after_load form) (λ o. IsFetched o.ending) s.held form.project bytes file
    (λ files loading. loading_fetched loading (after_load form files bytes) (λ p. is_fetched _ (is_loaded _ (load_ready form files bytes p)))))

-- the project is accepted
play_both : (form : Form) (bytes : List ℕ) (p : Program) (held : Option Files) (P : Outcome → Type 0) → IsFetchedFile held form.project project_limit bytes → Loads bytes (accepted p) → ((files : Files) → held ≡ Some files → P (after_load form files bytes p))
    → Both held (play form) P
play_both form bytes p held P file is k = record {
  all = read_all Loads (after_load form) P held form.project bytes (accepted p) (project_reading bytes) file is (each held k);
  some = read_one Loads (after_load form) P held form.project bytes (accepted p) file is (each held k);
} where
  each : (h : Option Files) → ((files : Files) → h ≡ Some files → P (after_load form files bytes p)) → IfSome h (λ files. P (after_load form files bytes p))
  each None j = tt
  each (Some files) j = j files refl

pub play_unscripted : (form : Form) (bytes : List ℕ) (p : Program) (s m t : ShelfNow) (k : SinkNow) (e : FetchError) → Reached 1 s m → Fetches form.script script_limit m t (Err e) → IsFetchedFile s.held form.project project_limit bytes
    → Loads bytes (accepted p) → Completes (play form) s t k k (unfetched which.Script e)
play_unscripted form bytes p s m t k e reached h file is =
    completes_unfetched (play form) which.Script 1 form.script script_limit s m t k e reached h (λ f. inr f) (omega arith) refl
    (λ f. (play_both form bytes p s.held (Cause (play form) s t ReadFault) file is (λ files same. inr (inr (load_ready form files bytes p)))).all)
    (λ w. (play_both form bytes p s.held (Cause (play form) s t NoMemory) file is (λ files same. inr (is_fetched _ (is_loaded _ (load_ready form files bytes p))))).all)
    (λ above. play_both form bytes p s.held (λ o. o.ending ≡ unloaded (too_large which.Script script_limit)) file is
    (λ files same. script_large (get files form.script) (λ script. all_of form.save (text_of_run bytes form.seed) (output_of p (words_of form.seed) script)) s.held files form.script refl same above))

is_in : (held : Option Files) (files : Files) (name : List ℕ) (limit : ℕ) (bytes : List ℕ) → held ≡ Some files → IsFetchedFile held name limit bytes → get files name ≡ Some bytes
is_in held files name limit bytes e h = subst (λ o. IfSome o (λ fs. get fs name ≡ Some bytes)) e h.is

pub play_completes : (form : Form) (bytes script : List ℕ) (p : Program) (s m t : ShelfNow) (k l : SinkNow) (answer : Result (Unit {0}) PlayStop) → Reached 2 s m → IsFetchedFile s.held form.project project_limit bytes → Loads bytes (accepted p)
    → IsFetchedFile s.held form.script script_limit script → EndsAs form.save (all_of form.save (text_of_run bytes form.seed) (output_of p (words_of form.seed) script)) m t k l answer → Resumable s.held (play form) (played_as answer)
    → Completes (play form) s t k l (played_as answer)
play_completes form bytes script p s m t k l answer reached file is scripted h again =
    completes_played (play form) s m t k l (all_of form.save (text_of_run bytes form.seed) (output_of p (words_of form.seed) script)) reached (all_ending form.save (text_of_run bytes form.seed) (output_of p (words_of form.seed) script)) answer h again
    (λ P q. play_both form bytes p s.held P file is (λ files same.
    subst P (sym (fetched_ok which.Script script_limit (get files form.script) script (λ x. all_of form.save (text_of_run bytes form.seed) (output_of p (words_of form.seed) x)) (is_in s.held files form.script script_limit script same scripted) scripted.small)) q))

-- Of the words `resume`

pub resume_unfetched : (form : ResumeForm) (s t : ShelfNow) (k : SinkNow) (e : FetchError) → Fetches form.project project_limit s t (Err e) → Completes (resume form) s t k k (unfetched which.Project e)
resume_unfetched form s t k e h =
    completes_unfetched (resume form) which.Project 0 form.project project_limit s s t k e (reached_none s) h (λ f. inl f) (omega arith) refl
    (λ f. always s.held (resume form) (Cause (resume form) s t ReadFault) (λ o. inl f))
    (λ w. always s.held (resume form) (Cause (resume form) s t NoMemory) (λ o. inl w))
    (λ above. resume_large (λ o. o.ending ≡ unloaded (too_large which.Project project_limit)) s.held form above refl)

pub resume_unloaded : (form : ResumeForm) (bytes : List ℕ) (s t : ShelfNow) (k : SinkNow) (r : Refusal) → Reached 1 s t → IsFetchedFile s.held form.project project_limit bytes → LoadsProject bytes (Err r) → Completes (resume form) s t k k (refused_by r (project_rule r))
resume_unloaded form bytes s t k r reached file h =
    completes_refused (resume form) 1 s t k r (project_rule r) reached (omega arith) refl refl
    (λ some. resume_refused (λ o. o.ending ≡ unloaded (not_accepted r)) s.held form bytes r file (load_cause bytes r h some) refl)
    (resume_loading (λ o. IsFetched o.ending) s.held form bytes file
    (λ files loading continuing. loading_fetched loading (after_basis form files bytes continuing) (λ b. is_fetched _ (basis_loaded form files bytes continuing b))))

pub resume_unsaved : (form : ResumeForm) (bytes : List ℕ) (b : Basis) (s m t : ShelfNow) (k : SinkNow) (e : FetchError) → Reached 1 s m → Fetches form.saved saved_limit m t (Err e) → IsFetchedFile s.held form.project project_limit bytes
    → Bases bytes (accepted b) → Completes (resume form) s t k k (unfetched which.Saved e)
resume_unsaved form bytes b s m t k e reached h file is =
    completes_unfetched (resume form) which.Saved 1 form.saved saved_limit s m t k e reached h (λ f. inr (inl f)) (omega arith) refl
    (λ f. resume_accepted (Cause (resume form) s t ReadFault) s.held form bytes b file is (λ files continuing same c. inr (inl (f, basis_loaded form files bytes continuing b))))
    (λ w. resume_accepted (Cause (resume form) s t NoMemory) s.held form bytes b file is (λ files continuing same c. inr (is_fetched _ (basis_loaded form files bytes continuing b))))
    (λ above. saved_large (λ o. o.ending ≡ unloaded (too_large which.Saved saved_limit)) s.held form bytes b file is above refl)

pub resume_rejected : (one : OneAnswer) (law : OneRefusal) (form : ResumeForm) (bytes saved : List ℕ) (b : Basis) (s t : ShelfNow) (k : SinkNow) (r : SaveRefusal) → Reached 2 s t → IsFetchedFile s.held form.project project_limit bytes
    → Bases bytes (accepted b) → IsFetchedFile s.held form.saved saved_limit saved → IsRefused b (sha256 bytes) saved r → Completes (resume form) s t k k (rejected_by r (saved_rule r))
resume_rejected one law form bytes saved b s t k r reached file is kept h =
    completes_rejected (resume form) s t k r (saved_rule r) reached (omega arith) refl
    (λ some. saved_read one law (λ o. o.ending ≡ unloaded (not_continued r)) s.held form bytes b saved (rejected r) file is kept (is_no_memory r some, h) (λ files same. refl))
    (saved_continuing (λ o. IsFetched o.ending) s.held form bytes b saved file is kept (λ files continuing same c. is_fetched _ (continuing_loaded form files bytes continuing b)))

pub resume_unscripted : (one : OneAnswer) (law : OneRefusal) (form : ResumeForm) (bytes saved : List ℕ) (b : Basis) (told : Told) (s m t : ShelfNow) (k : SinkNow) (e : FetchError) → Reached 2 s m → Fetches form.script script_limit m t (Err e)
    → IsFetchedFile s.held form.project project_limit bytes → Bases bytes (accepted b) → IsFetchedFile s.held form.saved saved_limit saved → IsSavedRun b (sha256 bytes) saved told → Completes (resume form) s t k k (unfetched which.Script e)
resume_unscripted one law form bytes saved b told s m t k e reached h file is kept run =
    completes_unfetched (resume form) which.Script 2 form.script script_limit s m t k e reached h (λ f. inr (inr f)) (omega arith) refl
    (λ f. (saved_read one law (Cause (resume form) s t ReadFault) s.held form bytes b saved (continued told) file is kept run (λ files same. inr (inr (saved_ready form files bytes b told)))).all)
    (λ w. (saved_read one law (Cause (resume form) s t NoMemory) s.held form bytes b saved (continued told) file is kept run (λ files same. inr (is_fetched _ (is_loaded _ (saved_ready form files bytes b told))))).all)
    (λ above. saved_read one law (λ o. o.ending ≡ unloaded (too_large which.Script script_limit)) s.held form bytes b saved (continued told) file is kept run
    (λ files same. script_large (get files form.script) (λ script. all_of form.save (text_of_run bytes told.run.seed) (output_from b told script)) s.held files form.script refl same above))

pub resume_completes : (one : OneAnswer) (law : OneRefusal) (form : ResumeForm) (bytes saved script : List ℕ) (b : Basis) (told : Told) (s m t : ShelfNow) (k l : SinkNow) (answer : Result (Unit {0}) PlayStop) → Reached 3 s m
    → IsFetchedFile s.held form.project project_limit bytes → Bases bytes (accepted b) → IsFetchedFile s.held form.saved saved_limit saved → IsSavedRun b (sha256 bytes) saved told → IsFetchedFile s.held form.script script_limit script
    → EndsAs form.save (all_of form.save (text_of_run bytes told.run.seed) (output_from b told script)) m t k l answer → Resumable s.held (resume form) (played_as answer) → Completes (resume form) s t k l (played_as answer)
resume_completes one law form bytes saved script b told s m t k l answer reached file is kept run scripted h again =
    completes_played (resume form) s m t k l (all_of form.save (text_of_run bytes told.run.seed) (output_from b told script)) reached (all_ending form.save (text_of_run bytes told.run.seed) (output_from b told script)) answer h again
    (λ P q. saved_read one law P s.held form bytes b saved (continued told) file is kept run (λ files same.
    subst P (sym (fetched_ok which.Script script_limit (get files form.script) script (λ x. all_of form.save (text_of_run bytes told.run.seed) (output_from b told x)) (is_in s.held files form.script script_limit script same scripted) scripted.small)) q))
