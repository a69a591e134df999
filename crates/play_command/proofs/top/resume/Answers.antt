use Rattle.std.proofs.Common.{refl, sym, ap, ◌∙◌, subst}
use Rattle.std.specs.Option.{option_map}
use Rattle.sha2.specs.Sha256.{sha256}
use Rattle.call_outcomes.specs.Seen.{shelf_now, sink_now}
use Rattle.script_words.specs.Words.{answers}
use Rattle.machine_spec.specs.Output.{played}
use Rattle.machine_spec.specs.ScriptText.{lines_of, script_limit}
use Rattle.project_check.specs.Loaded.{basis_of}
use Rattle.saved_spec.specs.Refusals.{IsAccepted, IsRefused}
use Rattle.sequencer.specs.Runs.{world_of}
use Rattle.play_command.specs.Command.{ResumeForm, resume}
use Rattle.project_spec.specs.Limits.{project_limit}
use Rattle.saved_spec.specs.Saved.{saved_limit}
use Rattle.play_command.specs.Outcome.{all_of, text_from}
use Rattle.play_command.specs.Saving.{EndsAs, IsSavedAs, SavesInRange}
use Rattle.play_command.specs.Stages.{Completes}
use Rattle.play_command.proofs.Again.{resume_resumable}
use Rattle.play_command.proofs.Calls.{resume_unfetched, resume_unloaded, resume_unsaved, resume_rejected, resume_unscripted, resume_completes}
use Rattle.play_command.proofs.Costs.{reached_none, reached_more}
use Rattle.play_command.proofs.Readings.{fetched_file, loaded_basis}
use Rattle.play_command.proofs.Saved.{ends_as}
use Rattle.play_command.proofs.top.resume.Goals as goal

-- the project is not fetched
pub returns-in-Err : goal.returns-in-Err
returns-in-Err g c =
    let form : ResumeForm = record { project = c.args.project.now; saved = c.args.saved.now; script = c.args.script.now; save = option_map (λ name. name.now) c.args.save } in
    let s = shelf_now g.H.Shelf.held g.H.Shelf.fetch_faults g.H.Shelf.put_faults g.H.Shelf.calls g.H.Shelf.wants c.args.shelf.now in
    let t = shelf_now g.H.Shelf.held g.H.Shelf.fetch_faults g.H.Shelf.put_faults g.H.Shelf.calls g.H.Shelf.wants c.fetch.new.shelf in
    let k = sink_now g.K.Sink.written g.K.Sink.faults g.K.Sink.calls c.args.out.now in
    subst (λ status. Completes (resume form) s t k k status) (sym c.unfetched.ensures) (resume_unfetched form s t k c.in-Err.error c.in-Err.ensures)

-- the project is refused
pub returns-in-Err-load : goal.returns-in-Err-load
returns-in-Err-load g c =
    let form : ResumeForm = record { project = c.args.project.now; saved = c.args.saved.now; script = c.args.script.now; save = option_map (λ name. name.now) c.args.save } in
    let s = shelf_now g.H.Shelf.held g.H.Shelf.fetch_faults g.H.Shelf.put_faults g.H.Shelf.calls g.H.Shelf.wants c.args.shelf.now in
    let t = shelf_now g.H.Shelf.held g.H.Shelf.fetch_faults g.H.Shelf.put_faults g.H.Shelf.calls g.H.Shelf.wants c.fetch.new.shelf in
    let k = sink_now g.K.Sink.written g.K.Sink.faults g.K.Sink.calls c.args.out.now in
    let file = fetched_file s s t form.project project_limit c.in-Ok.bytes c.deref.result.now refl c.deref.ensures.value c.in-Ok.ensures in
    let reached = reached_more 0 form.project project_limit s s t c.in-Ok.bytes (reached_none s) c.in-Ok.ensures in
    subst (λ status. Completes (resume form) s t k k status) (sym c.refused.ensures) (resume_unloaded form c.deref.result.now s t k c.in-Err-load.refusal reached file c.in-Err-load.ensures)

-- the saved run is not fetched
pub returns-in-Err-fetch : goal.returns-in-Err-fetch
returns-in-Err-fetch g c =
    let form : ResumeForm = record { project = c.args.project.now; saved = c.args.saved.now; script = c.args.script.now; save = option_map (λ name. name.now) c.args.save } in
    let bytes = c.deref.result.now in
    let s = shelf_now g.H.Shelf.held g.H.Shelf.fetch_faults g.H.Shelf.put_faults g.H.Shelf.calls g.H.Shelf.wants c.args.shelf.now in
    let m = shelf_now g.H.Shelf.held g.H.Shelf.fetch_faults g.H.Shelf.put_faults g.H.Shelf.calls g.H.Shelf.wants c.fetch.new.shelf in
    let t = shelf_now g.H.Shelf.held g.H.Shelf.fetch_faults g.H.Shelf.put_faults g.H.Shelf.calls g.H.Shelf.wants c.fetch-2.new.shelf in
    let k = sink_now g.K.Sink.written g.K.Sink.faults g.K.Sink.calls c.args.out.now in
    let file = fetched_file s s m form.project project_limit c.in-Ok.bytes bytes refl c.deref.ensures.value c.in-Ok.ensures in
    let reached = reached_more 0 form.project project_limit s s m c.in-Ok.bytes (reached_none s) c.in-Ok.ensures in
    subst (λ status. Completes (resume form) s t k k status) (sym c.unfetched-in-Err-fetch.ensures)
    (resume_unsaved form bytes (basis_of c.in-Ok-load.project) s m t k c.in-Err-fetch.error reached c.in-Err-fetch.ensures file (loaded_basis bytes c.in-Ok-load.project c.in-Ok-load.ensures))

-- the saved run is refused
pub returns-in-Err-load_run : goal.returns-in-Err-load_run
returns-in-Err-load_run g c =
    let form : ResumeForm = record { project = c.args.project.now; saved = c.args.saved.now; script = c.args.script.now; save = option_map (λ name. name.now) c.args.save } in
    let bytes = c.deref.result.now in
    let saved = c.deref-2.result.now in
    let b = basis_of c.in-Ok-load.project in
    let s = shelf_now g.H.Shelf.held g.H.Shelf.fetch_faults g.H.Shelf.put_faults g.H.Shelf.calls g.H.Shelf.wants c.args.shelf.now in
    let m = shelf_now g.H.Shelf.held g.H.Shelf.fetch_faults g.H.Shelf.put_faults g.H.Shelf.calls g.H.Shelf.wants c.fetch.new.shelf in
    let t = shelf_now g.H.Shelf.held g.H.Shelf.fetch_faults g.H.Shelf.put_faults g.H.Shelf.calls g.H.Shelf.wants c.fetch-2.new.shelf in
    let k = sink_now g.K.Sink.written g.K.Sink.faults g.K.Sink.calls c.args.out.now in
    let file = fetched_file s s m form.project project_limit c.in-Ok.bytes bytes refl c.deref.ensures.value c.in-Ok.ensures in
    let one = reached_more 0 form.project project_limit s s m c.in-Ok.bytes (reached_none s) c.in-Ok.ensures in
    let two = reached_more 1 form.saved saved_limit s m t c.in-Ok-fetch.bytes one c.in-Ok-fetch.ensures in
    let kept = fetched_file s m t form.saved saved_limit c.in-Ok-fetch.bytes saved one.held c.deref-2.ensures.value c.in-Ok-fetch.ensures in
    let digest = c.digest-digest.ensures ∙ ap sha256 (sym c.deref.ensures.value) in
    subst (λ status. Completes (resume form) s t k k status) (sym c.rejected.ensures)
    (resume_rejected c.one_answer_at_most.ensures.accepted c.one_answer_at_most.ensures.refused form bytes saved b s t k c.in-Err-load_run.refusal two file (loaded_basis bytes c.in-Ok-load.project c.in-Ok-load.ensures) kept
    (subst (λ d. IsRefused b d saved c.in-Err-load_run.refusal) digest c.in-Err-load_run.ensures.answer))

-- the script is not fetched
pub returns-in-Err-fetch-2 : goal.returns-in-Err-fetch-2
returns-in-Err-fetch-2 g c =
    let form : ResumeForm = record { project = c.args.project.now; saved = c.args.saved.now; script = c.args.script.now; save = option_map (λ name. name.now) c.args.save } in
    let bytes = c.deref.result.now in
    let saved = c.deref-2.result.now in
    let b = basis_of c.in-Ok-load.project in
    let s = shelf_now g.H.Shelf.held g.H.Shelf.fetch_faults g.H.Shelf.put_faults g.H.Shelf.calls g.H.Shelf.wants c.args.shelf.now in
    let n = shelf_now g.H.Shelf.held g.H.Shelf.fetch_faults g.H.Shelf.put_faults g.H.Shelf.calls g.H.Shelf.wants c.fetch.new.shelf in
    let m = shelf_now g.H.Shelf.held g.H.Shelf.fetch_faults g.H.Shelf.put_faults g.H.Shelf.calls g.H.Shelf.wants c.fetch-2.new.shelf in
    let t = shelf_now g.H.Shelf.held g.H.Shelf.fetch_faults g.H.Shelf.put_faults g.H.Shelf.calls g.H.Shelf.wants c.fetch-3.new.shelf in
    let k = sink_now g.K.Sink.written g.K.Sink.faults g.K.Sink.calls c.args.out.now in
    let file = fetched_file s s n form.project project_limit c.in-Ok.bytes bytes refl c.deref.ensures.value c.in-Ok.ensures in
    let one = reached_more 0 form.project project_limit s s n c.in-Ok.bytes (reached_none s) c.in-Ok.ensures in
    let two = reached_more 1 form.saved saved_limit s n m c.in-Ok-fetch.bytes one c.in-Ok-fetch.ensures in
    let kept = fetched_file s n m form.saved saved_limit c.in-Ok-fetch.bytes saved one.held c.deref-2.ensures.value c.in-Ok-fetch.ensures in
    let digest = c.digest-digest.ensures ∙ ap sha256 (sym c.deref.ensures.value) in
    let told = c.in-Ok-load_run.ensures.answer in
    subst (λ status. Completes (resume form) s t k k status) (sym c.unfetched-in-Err-fetch-2.ensures)
    (resume_unscripted c.one_answer_at_most.ensures.accepted c.one_answer_at_most.ensures.refused form bytes saved b told.0 s m t k c.in-Err-fetch-2.error two c.in-Err-fetch-2.ensures file
    (loaded_basis bytes c.in-Ok-load.project c.in-Ok-load.ensures) kept (subst (λ d. IsAccepted b d saved told.0) digest told.1))

-- the script is played, and the run saved
pub returns : goal.returns
returns g c =
    let form : ResumeForm = record { project = c.args.project.now; saved = c.args.saved.now; script = c.args.script.now; save = option_map (λ name. name.now) c.args.save } in
    let bytes = c.deref.result.now in
    let saved = c.deref-2.result.now in
    let script = c.deref-3.result.now in
    let b = basis_of c.in-Ok-load.project in
    let s = shelf_now g.H.Shelf.held g.H.Shelf.fetch_faults g.H.Shelf.put_faults g.H.Shelf.calls g.H.Shelf.wants c.args.shelf.now in
    let x = shelf_now g.H.Shelf.held g.H.Shelf.fetch_faults g.H.Shelf.put_faults g.H.Shelf.calls g.H.Shelf.wants c.fetch.new.shelf in
    let n = shelf_now g.H.Shelf.held g.H.Shelf.fetch_faults g.H.Shelf.put_faults g.H.Shelf.calls g.H.Shelf.wants c.fetch-2.new.shelf in
    let m = shelf_now g.H.Shelf.held g.H.Shelf.fetch_faults g.H.Shelf.put_faults g.H.Shelf.calls g.H.Shelf.wants c.fetch-3.new.shelf in
    let t = shelf_now g.H.Shelf.held g.H.Shelf.fetch_faults g.H.Shelf.put_faults g.H.Shelf.calls g.H.Shelf.wants c.play_on.new.shelf in
    let k = sink_now g.K.Sink.written g.K.Sink.faults g.K.Sink.calls c.args.out.now in
    let l = sink_now g.K.Sink.written g.K.Sink.faults g.K.Sink.calls c.play_on.new.out in
    let file = fetched_file s s x form.project project_limit c.in-Ok.bytes bytes refl c.deref.ensures.value c.in-Ok.ensures in
    let one = reached_more 0 form.project project_limit s s x c.in-Ok.bytes (reached_none s) c.in-Ok.ensures in
    let two = reached_more 1 form.saved saved_limit s x n c.in-Ok-fetch.bytes one c.in-Ok-fetch.ensures in
    let three = reached_more 2 form.script script_limit s n m c.in-Ok-fetch-2.bytes two c.in-Ok-fetch-2.ensures in
    let kept = fetched_file s x n form.saved saved_limit c.in-Ok-fetch.bytes saved one.held c.deref-2.ensures.value c.in-Ok-fetch.ensures in
    let scripted = fetched_file s n m form.script script_limit c.in-Ok-fetch-2.bytes script two.held c.deref-3.ensures.value c.in-Ok-fetch-2.ensures in
    let digest = c.digest-digest.ensures ∙ ap sha256 (sym c.deref.ensures.value) in
    let told = c.in-Ok-load_run.ensures.answer in
    let u = told.0 in
    let accepted = subst (λ d. IsAccepted b d saved u) digest told.1 in
    let basis = loaded_basis bytes c.in-Ok-load.project c.in-Ok-load.ensures in
    let saving = c.saving_of-saving.result in
    let answer = c.play_on.result in
    let seed = c.in-Ok-load_run.told.1 in
    let v = world_of answers c.in-Ok-load.project c.in-Ok-load_run.told.0 in
    let is = subst (λ d. IsSavedAs form.save d u.run.seed saving) digest (subst (λ i. IsSavedAs form.save c.digest-digest.result i saving) told.3 c.saving_of-saving.ensures) in
    let ended = subst (λ w. EndsAs form.save (all_of form.save (text_from (sha256 bytes) u.run.seed) (played b.program 1 w.devices.clock w (lines_of script))) m t k l answer) told.2.world
    (ends_as form.save (sha256 bytes) u.run.seed saving (played b.program 1 v.devices.clock v (lines_of script)) m t k l answer is c.play_on.ensures.ends) in
    let ranges = subst (λ w. SavesInRange saving (played b.program 1 w.devices.clock w (lines_of script)).ending answer) told.2.world c.play_on.ensures.ranges in
    let again = resume_resumable c.runs_are_told_again.ensures c.one_answer_at_most.ensures.accepted form bytes saved script b u basis accepted saving is s.held answer file kept scripted ranges in
    subst (λ status. Completes (resume form) s t k l status) (sym c.played.ensures)
    (resume_completes c.one_answer_at_most.ensures.accepted c.one_answer_at_most.ensures.refused form bytes saved script b u s m t k l answer three file basis kept accepted scripted ended again)
