-- The ends of the words `made`.
use Rattle.std.proofs.Common.{◌≡◌, ℕ, ◌+◌, ◌<◌, ◌^◌, ◌-◌, false, List, [], ◌∷◌, ◌++◌, fold, map, length, Option, None, Some, Result, Ok, Err, refl, sym, ap, ◌∙◌, subst, ⊎_elim, arith}
use Rattle.std.specs.Prelude.{sum}
use Rattle.std.specs.List.{concat}
use Rattle.sv_channels.specs.Files.{Files}
use Rattle.digest_sink.specs.Digests.{DigestState}
use Rattle.call_outcomes.specs.Calls.{counted}
use Rattle.call_outcomes.specs.Seen.{ShelfNow, SinkNow}
use Rattle.call_outcomes.specs.Stages.{Writes}
use Rattle.call_outcomes.proofs.Writings.{writes_none}
use Rattle.machine_spec.specs.Output.{Output, Ending as RunEnding, Whole, BadLine, Limited, played}
use Rattle.machine_spec.specs.Program.{Program}
use Rattle.machine_spec.specs.ScriptText.{lines_of}
use Rattle.machine_spec.specs.Tasks.{Task}
use Rattle.machine_spec.specs.World.{World}
use Rattle.made_texts.specs.MadeProject.{made_project}
use Rattle.made_texts.specs.MadeScript.{made_script}
use Rattle.project_spec.specs.Basis.{Basis}
use Rattle.project_spec.specs.RuleNames.{project_rule}
use Rattle.project_spec.specs.declared.blocks.Block.{Block}
use Rattle.project_spec.specs.declared.refusals.Refusal.{Refusal}
use Rattle.project_spec.specs.declared.refusals.Refusal.TheVariants as refusal
use Rattle.project_check.specs.Counts.{block_count}
use Rattle.project_check.specs.Loaded.{Loads as LoadsProject}
use Rattle.run_save.specs.declared.status.Status.TheVariants as status
use Rattle.script_play.specs.Lines.{IsWriteEnd}
use Rattle.script_play.specs.Scripts.{PlaysAs}
use Rattle.script_play.specs.Stops.{course}
use Rattle.script_play.specs.declared.stops.PlayStop.{PlayStop}
use Rattle.script_play.specs.declared.stops.PlayStop.TheVariants.{BadScript, Limit, WriteFault, NoMemory}
use Rattle.play_command.specs.Causes.{is_whole, IsFetched, IsReady}
use Rattle.play_command.specs.Command.{MadeForm, made}
use Rattle.play_command.specs.Made.{frames_line, made_ending, made_line, made_outcome, made_seed, made_text, made_value, told_at}
use Rattle.play_command.specs.Making.{MadeEnds, IsTelling}
use Rattle.play_command.specs.Outcome.{Loading, refused, accepted, Bases, not_accepted, ran, unloaded, Outcome, only_written, output_of, words_of}
use Rattle.play_command.specs.Promise.{Promised}
use Rattle.play_command.specs.Resuming.{Resumable}
use Rattle.play_command.specs.Saving.{EndsAs}
use Rattle.play_command.specs.Stages.{Completes, played_as, refused_by}
use Rattle.play_command.specs.declared.made.Telling.{Telling}
use Rattle.play_command.proofs.Costs.{reached_none}
use Rattle.play_command.proofs.Files.{Both}
use Rattle.play_command.proofs.Frames.{few_calls}
use Rattle.play_command.proofs.Owed.{completes_played, completes_refused}
use Rattle.play_command.proofs.Reach.{is_fetched, is_loaded, loading_fetched}
use Rattle.play_command.proofs.Readings.{basis_reading, load_cause, one_loading}
use Rattle.play_command.proofs.Saved.{ends_by, ends_wanting, limit_not_whole}

-- Frames that are digested

-- a sink that never fails
abbrev pub seen_frames : DigestState → SinkNow
seen_frames d = record { written = Some d.written; faults = 0; calls = d.calls }

abbrev pub no_frames : DigestState
no_frames = record { written = []; calls = 0 }

-- its bytes are those of all frames
all_frames : (o : Output) (w : World Task) (d e : DigestState) → d ≡ no_frames → PlaysAs o w (seen_frames d) (seen_frames e) (Ok tt) → e.written ≡ concat o.writes
all_frames o w d e start h =
    let none : d.written ≡ [] = ap (λ (x : DigestState). x.written) start in
    let all : Some e.written ≡ Some (d.written ++ concat o.writes) = h.writes.wrote.0 in
    let is : e.written ≡ d.written ++ concat o.writes = cc all in
    is ∙ ap (λ bs. bs ++ concat o.writes) none

pub made_whole : (o : Output) (w : World Task) (d e : DigestState) (t : Telling) → d ≡ no_frames → PlaysAs o w (seen_frames d) (seen_frames e) (Ok tt) → IsTelling (made_value w) e.written t → MadeEnds o (Ok t)
made_whole o w d e t start h told = (w, h.ends, subst (λ bs. IsTelling (made_value w) bs t) (all_frames o w d e start h) told)

pub made_stopped : (o : Output) (w : World Task) (d e : DigestState) (stop : PlayStop) → PlaysAs o w (seen_frames d) (seen_frames e) (Err stop) → MadeEnds o (Err stop)
made_stopped o w d e (BadScript r) h = h.ends
made_stopped o w d e (Limit l) h = h.ends
made_stopped o w d e NoMemory h = tt
made_stopped o w d e WriteFault h = ⊎_elim (λ x. let rose = x.0 in absurd (omega (arith, rose))) (λ x. absurd x.0) h.writes.wrote

-- its writes are counted
pub made_counted : (p : Program) (last : ℕ) (v w : World Task) (script : List ℕ) (d e : DigestState) → length script < 2 ^ 63 → d ≡ no_frames
    → PlaysAs (played p 1 last v (lines_of script)) w (seen_frames d) (seen_frames e) (Ok tt) → e.calls < 2 ^ 64 - 1
made_counted p last v w script d e short start h =
    let none : d.calls ≡ 0 = ap (λ (x : DigestState). x.calls) start in
    few_calls p last v script e.calls short (h.writes.wrote.1 ∙ ap (counted (length (played p 1 last v (lines_of script)).writes)) none)

-- What came of them is told

none_rose : (count : List ℕ → ℕ) (name : List ℕ) → count name ≡ count name
none_rose count name = refl

written_ends : (text : List ℕ) (last : World Task) (s : ShelfNow) (k l : SinkNow) (answer : Result (Unit {0}) PlayStop) → IsWriteEnd answer → Writes k l ⊥ (text ∷ []) (course answer)
    → EndsAs None (only_written (text ∷ []) (Whole last)) s s k l answer
written_ends text last s k l (Ok u) h w = record { ends = refl; writes = w; fetches = none_rose s.fetch_faults; puts = none_rose s.put_faults; calls = (0, refl, refl); shelf = refl }
written_ends text last s k l (Err WriteFault) h w = record { ends = tt; writes = w; fetches = none_rose s.fetch_faults; puts = tt; calls = (0, (omega arith, omega arith), refl); shelf = refl }
written_ends text last s k l (Err NoMemory) h w = record { ends = tt; writes = w; fetches = none_rose s.fetch_faults; puts = none_rose s.put_faults; calls = (0, omega arith, refl); shelf = refl }
written_ends text last s k l (Err (BadScript r)) h w = absurd h
written_ends text last s k l (Err (Limit m)) h w = absurd h

module _ (form : MadeForm) (blocks : ℕ) (o : Output) (s : ShelfNow) where
  same_text : (last : World Task) (t : Telling) → IsTelling (made_value last) (concat o.writes) t → made_line form blocks t.value ++ frames_line t.length t.digest ≡ made_text form blocks last (concat o.writes)
  same_text last t h =
      ap (λ v. made_line form blocks v ++ frames_line t.length t.digest) h.value
      ∙ ap (λ n. made_line form blocks (made_value last) ++ frames_line n t.digest) h.length
      ∙ ap (λ d. made_line form blocks (made_value last) ++ frames_line (length (concat o.writes)) d) h.digest

  pub told_ends : (k l : SinkNow) (t : Telling) (answer : Result (Unit {0}) PlayStop) → MadeEnds o (Ok t) → IsWriteEnd answer → Writes k l ⊥ ((made_line form blocks t.value ++ frames_line t.length t.digest) ∷ []) (course answer)
      → EndsAs None (made_ending form blocks o) s s k l answer
  told_ends k l t answer h end w =
      subst (λ e. EndsAs None (told_at form blocks (concat o.writes) e) s s k l answer) (sym h.1)
      (written_ends (made_text form blocks h.0 (concat o.writes)) h.0 s k l answer end (subst (λ x. Writes k l ⊥ (x ∷ []) (course answer)) (same_text h.0 t h.2) w))

  untold : (ending : RunEnding) → is_whole (ran ending) ≡ false → told_at form blocks (concat o.writes) ending ≡ only_written [] ending
  untold (Whole last) h = absurd (cc h)
  untold (BadLine r) h = refl
  untold (Limited stop) h = refl

  pub untold_ends : (k : SinkNow) (stop : PlayStop) → MadeEnds o (Err stop) → EndsAs None (made_ending form blocks o) s s k k (Err stop)
  untold_ends k (BadScript r) h =
      subst (λ x. EndsAs None x s s k k (Err (BadScript r))) (sym (untold o.ending (ap (λ e. is_whole (ran e)) h.0)))
      (record { ends = (ap ran h.0, h.1); writes = writes_none ⊥ k; fetches = none_rose s.fetch_faults; puts = none_rose s.put_faults; calls = (0, refl, refl); shelf = refl })
  untold_ends k (Limit l) h =
      let is = ends_by o.ending l h in
      subst (λ x. EndsAs None x s s k k (Err (Limit l))) (sym (untold o.ending (limit_not_whole o.ending l is)))
      (record { ends = is; writes = writes_none ⊥ k; fetches = none_rose s.fetch_faults; puts = none_rose s.put_faults; calls = (0, refl, refl); shelf = refl })
  untold_ends k WriteFault h = absurd h
  untold_ends k NoMemory h = ends_wanting None (made_ending form blocks o) s k

-- The blocks of all targets

blocks_from : (tables : List (List Block)) (n : ℕ) → fold (λ a x. a + x) n (map length tables) ≡ fold (λ a x. a + length x) n tables
blocks_from [] n = refl
blocks_from (bs ∷ more) n = blocks_from more (n + length bs)

pub blocks_summed : (tables : List (List Block)) → block_count tables ≡ sum (map length tables)
blocks_summed tables = sym (blocks_from tables 0)

-- The call

ready_at : (form : MadeForm) (blocks : ℕ) (frames : List ℕ) (ending : RunEnding) → IsReady (told_at form blocks frames ending).ending
ready_at form blocks frames (Whole last) = tt
ready_at form blocks frames (BadLine r) = tt
ready_at form blocks frames (Limited stop) = tt

abbrev pub made_next : MadeForm → Basis → Outcome
made_next form b = made_ending form (sum b.blocks) (output_of b.program (words_of made_seed) (made_script form.frames))

next_ready : (form : MadeForm) (b : Basis) → IsReady (made_next form b).ending
next_ready form b =
    let run = output_of b.program (words_of made_seed) (made_script form.frames) in
    ready_at form (sum b.blocks) (concat run.writes) run.ending

made_fetched : (held : Option Files) (form : MadeForm) → Promised held (made form) (λ o. IsFetched o.ending)
made_fetched held form = λ loading is. loading_fetched loading (made_next form) (λ b. is_fetched _ (is_loaded _ (next_ready form b)))

made_both : (held : Option Files) (form : MadeForm) (loading : Loading Basis) (P : Outcome → Type 0) → Bases (made_project form.copies) loading → P (made_outcome form loading) → Both held (made form) P
made_both held form loading P is p = record {
  all = λ x l. subst (λ y. P (made_outcome form y)) (one_loading (Bases (made_project form.copies)) (basis_reading (made_project form.copies)) loading x is l) p;
  some = (loading, is, p);
}

-- no memory to make the texts
pub made_wanting : (form : MadeForm) (s : ShelfNow) (k : SinkNow) → Completes (made form) s s k k status.NoMemory
made_wanting form s k = completes_refused (made form) 0 s s k refusal.NoMemory None (reached_none s) (omega arith) refl refl (λ some. absurd (cc some)) (made_fetched s.held form)

pub made_refused : (form : MadeForm) (s : ShelfNow) (k : SinkNow) (r : Refusal) → LoadsProject (made_project form.copies) (Err r) → Completes (made form) s s k k (refused_by r (project_rule r))
made_refused form s k r h =
    completes_refused (made form) 0 s s k r (project_rule r) (reached_none s) (omega arith) refl refl
    (λ some. made_both s.held form (refused r) (λ o. o.ending ≡ unloaded (not_accepted r)) (load_cause (made_project form.copies) r h some) refl)
    (made_fetched s.held form)

made_resumable : (held : Option Files) (form : MadeForm) (answer : Result (Unit {0}) PlayStop) → Resumable held (made form) (played_as answer)
made_resumable held form (Ok u) = tt
made_resumable held form (Err (BadScript r)) = tt
made_resumable held form (Err (Limit l)) = tt
made_resumable held form (Err WriteFault) = tt
made_resumable held form (Err NoMemory) = tt

pub made_completes : (form : MadeForm) (b : Basis) (s : ShelfNow) (k l : SinkNow) (answer : Result (Unit {0}) PlayStop) → Bases (made_project form.copies) (accepted b) → EndsAs None (made_next form b) s s k l answer
    → Completes (made form) s s k l (played_as answer)
made_completes form b s k l answer is h =
    completes_played (made form) s s s k l (made_next form b) (reached_none s) (next_ready form b) answer h (made_resumable s.held form answer)
    (λ P p. made_both s.held form (accepted b) P is p)
