-- What is saved is accepted again.
use Rattle.std.proofs.Common.{◌≡◌, ℕ, Bool, true, false, cond, ltb, List, [], ◌∷◌, ◌++◌, length, Option, None, Some, Result, Ok, Err, refl, sym, ◌∙◌, subst, arith}
use Rattle.std.specs.FinMap.{get}
use Rattle.sv_channels.specs.Files.{Files}
use Rattle.sha2.specs.Sha256.{sha256}
use Rattle.rand_core.specs.Stream.{Stream}
use Rattle.script_words.specs.Words.{answers, seeded, without}
use Rattle.machine_spec.specs.First.{first_world}
use Rattle.machine_spec.specs.Output.{Output, Ending as RunEnding, Whole, BadLine, Limited}
use Rattle.machine_spec.specs.ScriptText.{lines_of, script_limit}
use Rattle.machine_spec.specs.Tasks.{Task}
use Rattle.machine_spec.specs.World.{World}
use Rattle.saved_spec.specs.Ranges.{IsRun, IsTask}
use Rattle.saved_spec.specs.Saved.{snapshot, saved_limit}
use Rattle.project_spec.specs.Basis.{Basis}
use Rattle.saved_spec.specs.Laws.{OneAnswer}
use Rattle.saved_spec.specs.Legal.{told}
use Rattle.saved_spec.specs.Refusals.{IsAccepted as IsSavedRun}
use Rattle.saved_spec.specs.RunShapes.{Told}
use Rattle.machine_spec.specs.Words.{words_after}
use Rattle.laws_of_worlds.specs.Runs.{IsLegalRun}
use Rattle.laws_of_saving.specs.Good.{IsDigest, IsGood}
use Rattle.saved_spec.specs.Worlds.{world_told}
use Rattle.run_save.specs.declared.status.Which.TheVariants as which
use Rattle.script_play.specs.Limits.{limit_save_line}
use Rattle.script_play.specs.declared.stops.PlayStop.{PlayStop}
use Rattle.script_play.specs.declared.stops.PlayStop.TheVariants.{BadScript, Limit, WriteFault, NoMemory}
use Rattle.play_command.specs.Command.{Form, ResumeForm, play, resume}
use Rattle.project_spec.specs.Limits.{project_limit}
use Rattle.play_command.specs.Outcome.{accepted, Bases, continued, ran, unsaved, all_of, at_ending, fetched, outcome_of, output_from, output_of, resume_outcome, text_of_run, words_of}
use Rattle.play_command.specs.Resuming.{Resumable, SavesAgain, TellsAgain}
use Rattle.play_command.specs.Saving.{IsSavedAs, RunLaws, SavesInRange}
use Rattle.play_command.specs.Stages.{played_as}
use Rattle.play_command.specs.declared.playback.Saving.{Saving}
use Rattle.play_command.proofs.Readings.{IsFetchedFile, fetched_ok, one_basis, one_told}

-- The words of a seed.
pub seeded_words : (seed drawn : ℕ) (stream : Stream) → drawn ≡ 0 → stream ≡ without 0 (answers (seeded seed)) → record { stream = stream; drawn = drawn } ≡ words_of seed
unfolding without
seeded_words seed drawn stream e f = cc (e, f)

module _ (laws : RunLaws) (b : Basis) (good : IsGood b) (project : List ℕ) (seed : ℕ) where
  -- the text of a legal world
  text_again : (w : World Task) → IsDigest (sha256 project) → IsLegalRun b.program seed w → IsRun IsTask (snapshot (sha256 project) seed w) → TellsAgain b project seed w (text_of_run project seed w)
  text_again w digest legal ranges = record {
    told_run = told (snapshot (sha256 project) seed w);
    accepted_again = laws.text b seed (sha256 project) w good digest legal ranges;
    same_seed = refl;
    same_world = laws.world b seed (sha256 project) w good legal;
  }

  -- the text that is put, if one is
  put_again : (c : Bool) (w : World Task) (writes : List (List ℕ)) → IsDigest (sha256 project) → IsLegalRun b.program seed w → IsRun IsTask (snapshot (sha256 project) seed w)
      → SavesAgain b project seed (cond c (record { texts = writes ++ limit_save_line (length (text_of_run project seed w)) ∷ []; ending = unsaved (length (text_of_run project seed w)); saved = None }) (record { texts = writes; ending = ran (Whole w); saved = Some (text_of_run project seed w) }))
  put_again true w writes digest legal ranges last text e f = absurd (cc f)
  put_again false w writes digest legal ranges last text e f =
      let same_world : w ≡ last = cc e in
      let same_text : text_of_run project seed w ≡ text = cc f in
      subst (λ x. TellsAgain b project seed last x) same_text (subst (λ x. TellsAgain b project seed x (text_of_run project seed w)) same_world (text_again w digest legal ranges))

  ending_again : (name : List ℕ) (saving : Saving) (writes : List (List ℕ)) (ending : RunEnding) → IsSavedAs (Some name) (sha256 project) seed (Some saving) → ((last : World Task) → ending ≡ Whole last → IsLegalRun b.program seed last)
      → SavesInRange (Some saving) ending (Ok tt) → SavesAgain b project seed (at_ending (text_of_run project seed) writes ending)
  ending_again name saving writes (Whole w) is legal ranges =
      put_again (ltb saved_limit (length (text_of_run project seed w))) w writes is.3 (legal w refl)
      (subst (λ n. IsRun IsTask (snapshot (sha256 project) n w)) is.2 (subst (λ d. IsRun IsTask (snapshot d saving.seed w)) is.1 ranges))
  ending_again name saving writes (BadLine r) is legal ranges = λ last text e f. absurd (cc f)
  ending_again name saving writes (Limited s) is legal ranges = λ last text e f. absurd (cc f)

  -- what is saved at the end of the lines of a script
  all_again : (save : Option (List ℕ)) (saving : Option Saving) (o : Output) → IsSavedAs save (sha256 project) seed saving → ((last : World Task) → o.ending ≡ Whole last → IsLegalRun b.program seed last) → SavesInRange saving o.ending (Ok tt)
      → SavesAgain b project seed (all_of save (text_of_run project seed) o)
  all_again None saving o is legal ranges = λ last text e f. absurd (cc f)
  all_again (Some name) None o is legal ranges = absurd is
  all_again (Some name) (Some saving) o is legal ranges = ending_again name saving o.writes o.ending is legal ranges

same_bytes : (o : Option (List ℕ)) (a b : List ℕ) → o ≡ Some a → o ≡ Some b → a ≡ b
same_bytes o a b e f = cc (sym e ∙ f)

first_words : (seed : ℕ) → words_after seed 0 ≡ words_of seed
first_words seed = seeded_words seed 0 (without 0 (answers (seeded seed))) refl refl

-- Of the words `play`

module _ (laws : RunLaws) (form : Form) (file script : List ℕ) (b : Basis) (basis : Bases file (accepted b)) (saving : Option Saving) (is : IsSavedAs form.save (sha256 file) form.seed saving) where
  played_again : (files : Files) → IsFetchedFile (Some files) form.project project_limit file → IsFetchedFile (Some files) form.script script_limit script → SavesInRange saving (output_of b.program (words_of form.seed) script).ending (Ok tt)
      → SavesAgain b file form.seed (outcome_of files form (accepted b.program))
  played_again files found scripted ranges =
      let good : IsGood b = laws.good file basis.0 b (let s = found.small in omega (arith, s)) basis.1 basis.2 basis.3 in
      let next = λ (s : List ℕ). all_of form.save (text_of_run file form.seed) (output_of b.program (words_of form.seed) s) in
      let same = fetched_ok which.Project project_limit (get files form.project) file (λ x. fetched which.Script script_limit (get files form.script) (λ s. all_of form.save (text_of_run x form.seed) (output_of b.program (words_of form.seed) s))) found.is found.small
      ∙ fetched_ok which.Script script_limit (get files form.script) script next scripted.is scripted.small in
      subst (SavesAgain b file form.seed) (sym same)
      (all_again laws b good file form.seed form.save saving (output_of b.program (words_of form.seed) script) is
      (λ last e. laws.last b.program form.seed 1 (first_world b.program (words_of form.seed)) last (lines_of script) good.program
      (laws.first b.program (words_of form.seed) form.seed good.program (sym (first_words form.seed))) e)
      ranges)

  pub play_resumable : (held : Option Files) (answer : Result (Unit {0}) PlayStop) → IsFetchedFile held form.project project_limit file → IsFetchedFile held form.script script_limit script
      → SavesInRange saving (output_of b.program (words_of form.seed) script).ending answer → Resumable held (play form) (played_as answer)
  play_resumable None (Ok u) found scripted ranges = tt
  play_resumable (Some files) (Ok u) found scripted ranges = λ project c there other.
      let same : file ≡ project = same_bytes (get files form.project) file project found.is there in
      let one : b ≡ c = one_basis project c b other (subst (λ x. Bases x (accepted b)) same basis) in
      subst (λ x. SavesAgain x project form.seed (outcome_of files form (accepted x.program))) one
      (subst (λ x. SavesAgain b x form.seed (outcome_of files form (accepted b.program))) same (played_again files found scripted ranges))
  play_resumable held (Err (BadScript r)) found scripted ranges = tt
  play_resumable held (Err (Limit l)) found scripted ranges = tt
  play_resumable held (Err WriteFault) found scripted ranges = tt
  play_resumable held (Err NoMemory) found scripted ranges = tt

-- Of the words `resume`

module _ (laws : RunLaws) (one : OneAnswer) (form : ResumeForm) (file saved script : List ℕ) (b : Basis) (t : Told) (basis : Bases file (accepted b)) (is_saved : IsSavedRun b (sha256 file) saved t) (saving : Option Saving)
    (is : IsSavedAs form.save (sha256 file) t.run.seed saving) where
  resumed_again : (files : Files) → IsFetchedFile (Some files) form.project project_limit file → IsFetchedFile (Some files) form.saved saved_limit saved → IsFetchedFile (Some files) form.script script_limit script
      → SavesInRange saving (output_from b t script).ending (Ok tt) → SavesAgain b file t.run.seed (resume_outcome files form (accepted b) (continued t))
  resumed_again files found kept scripted ranges =
      let good : IsGood b = laws.good file basis.0 b (let s = found.small in omega (arith, s)) basis.1 basis.2 basis.3 in
      let next = λ (s : List ℕ). all_of form.save (text_of_run file t.run.seed) (output_from b t s) in
      let same = fetched_ok which.Project project_limit (get files form.project) file (λ x. fetched which.Saved saved_limit (get files form.saved) (λ y. fetched which.Script script_limit (get files form.script) (λ s. all_of form.save (text_of_run x t.run.seed) (output_from b t s)))) found.is found.small
      ∙ fetched_ok which.Saved saved_limit (get files form.saved) saved (λ y. fetched which.Script script_limit (get files form.script) next) kept.is kept.small
      ∙ fetched_ok which.Script script_limit (get files form.script) script next scripted.is scripted.small in
      subst (SavesAgain b file t.run.seed) (sym same)
      (all_again laws b good file t.run.seed form.save saving (output_from b t script) is
      (λ last e. laws.last b.program t.run.seed 1 (world_told b t) last (lines_of script) good.program (laws.accepted_runs b (sha256 file) saved t is_saved) e)
      ranges)

  pub resume_resumable : (held : Option Files) (answer : Result (Unit {0}) PlayStop) → IsFetchedFile held form.project project_limit file → IsFetchedFile held form.saved saved_limit saved → IsFetchedFile held form.script script_limit script
      → SavesInRange saving (output_from b t script).ending answer → Resumable held (resume form) (played_as answer)
  resume_resumable None (Ok u) found kept scripted ranges = tt
  resume_resumable (Some files) (Ok u) found kept scripted ranges = λ project bytes c v there other kept_there tells.
      let same : file ≡ project = same_bytes (get files form.project) file project found.is there in
      let same_saved : saved ≡ bytes = same_bytes (get files form.saved) saved bytes kept.is kept_there in
      let same_basis : b ≡ c = one_basis project c b other (subst (λ x. Bases x (accepted b)) same basis) in
      let again : IsSavedRun c (sha256 project) bytes t = subst (λ x. IsSavedRun x (sha256 project) bytes t) same_basis (subst (λ x. IsSavedRun b (sha256 project) x t) same_saved (subst (λ x. IsSavedRun b (sha256 x) saved t) same is_saved)) in
      let same_told : t ≡ v = one_told one c (sha256 project) bytes t v again tells in
      subst (λ x. SavesAgain c project x.run.seed (resume_outcome files form (accepted c) (continued x))) same_told
      (subst (λ x. SavesAgain x project t.run.seed (resume_outcome files form (accepted x) (continued t))) same_basis
      (subst (λ x. SavesAgain b x t.run.seed (resume_outcome files form (accepted b) (continued t))) same (resumed_again files found kept scripted ranges)))
  resume_resumable held (Err (BadScript r)) found kept scripted ranges = tt
  resume_resumable held (Err (Limit l)) found kept scripted ranges = tt
  resume_resumable held (Err WriteFault) found kept scripted ranges = tt
  resume_resumable held (Err NoMemory) found kept scripted ranges = tt
