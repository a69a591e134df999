use Rattle.std.proofs.Common.{refl, sym, ◌∙◌, subst}
use Rattle.std.specs.Option.{option_map}
use Rattle.sha2.specs.Sha256.{sha256}
use Rattle.call_outcomes.specs.Seen.{shelf_now, sink_now}
use Rattle.project_check.specs.Loaded.{program_of, basis_of}
use Rattle.play_command.specs.Command.{Form, play}
use Rattle.machine_spec.specs.ScriptText.{script_limit}
use Rattle.project_spec.specs.Limits.{project_limit}
use Rattle.play_command.specs.Outcome.{output_of, words_of}
use Rattle.play_command.specs.Saving.{IsSavedAs}
use Rattle.play_command.specs.Stages.{Completes}
use Rattle.play_command.proofs.Again.{play_resumable}
use Rattle.play_command.proofs.Calls.{play_unfetched, play_refused, play_unscripted, play_completes}
use Rattle.play_command.proofs.Costs.{reached_none, reached_more}
use Rattle.play_command.proofs.Readings.{fetched_file, loaded_program, loaded_basis}
use Rattle.play_command.proofs.Saved.{ends_as}
use Rattle.play_command.proofs.top.run.Goals as goal

-- the project is not fetched
pub returns-in-Err : goal.returns-in-Err
returns-in-Err g c =
    let form : Form = record { project = c.args.project.now; script = c.args.script.now; seed = c.args.seed; save = option_map (λ name. name.now) c.args.save } in
    let s = shelf_now g.H.Shelf.held g.H.Shelf.fetch_faults g.H.Shelf.put_faults g.H.Shelf.calls g.H.Shelf.wants c.args.shelf.now in
    let t = shelf_now g.H.Shelf.held g.H.Shelf.fetch_faults g.H.Shelf.put_faults g.H.Shelf.calls g.H.Shelf.wants c.fetch.new.shelf in
    let k = sink_now g.K.Sink.written g.K.Sink.faults g.K.Sink.calls c.args.out.now in
    subst (λ status. Completes (play form) s t k k status) (sym c.unfetched.ensures) (play_unfetched form s t k c.in-Err.error c.in-Err.ensures)

-- the project is refused
pub returns-in-Err-load : goal.returns-in-Err-load
returns-in-Err-load g c =
    let form : Form = record { project = c.args.project.now; script = c.args.script.now; seed = c.args.seed; save = option_map (λ name. name.now) c.args.save } in
    let s = shelf_now g.H.Shelf.held g.H.Shelf.fetch_faults g.H.Shelf.put_faults g.H.Shelf.calls g.H.Shelf.wants c.args.shelf.now in
    let t = shelf_now g.H.Shelf.held g.H.Shelf.fetch_faults g.H.Shelf.put_faults g.H.Shelf.calls g.H.Shelf.wants c.fetch.new.shelf in
    let k = sink_now g.K.Sink.written g.K.Sink.faults g.K.Sink.calls c.args.out.now in
    let file = fetched_file s s t form.project project_limit c.in-Ok.bytes c.deref.result.now refl c.deref.ensures.value c.in-Ok.ensures in
    let reached = reached_more 0 form.project project_limit s s t c.in-Ok.bytes (reached_none s) c.in-Ok.ensures in
    subst (λ status. Completes (play form) s t k k status) (sym c.refused.ensures) (play_refused form c.deref.result.now s t k c.in-Err-load.refusal reached file c.in-Err-load.ensures)

-- the script is not fetched
pub returns-in-Err-fetch : goal.returns-in-Err-fetch
returns-in-Err-fetch g c =
    let form : Form = record { project = c.args.project.now; script = c.args.script.now; seed = c.args.seed; save = option_map (λ name. name.now) c.args.save } in
    let bytes = c.deref.result.now in
    let s = shelf_now g.H.Shelf.held g.H.Shelf.fetch_faults g.H.Shelf.put_faults g.H.Shelf.calls g.H.Shelf.wants c.args.shelf.now in
    let m = shelf_now g.H.Shelf.held g.H.Shelf.fetch_faults g.H.Shelf.put_faults g.H.Shelf.calls g.H.Shelf.wants c.fetch.new.shelf in
    let t = shelf_now g.H.Shelf.held g.H.Shelf.fetch_faults g.H.Shelf.put_faults g.H.Shelf.calls g.H.Shelf.wants c.fetch-2.new.shelf in
    let k = sink_now g.K.Sink.written g.K.Sink.faults g.K.Sink.calls c.args.out.now in
    let file = fetched_file s s m form.project project_limit c.in-Ok.bytes bytes refl c.deref.ensures.value c.in-Ok.ensures in
    let reached = reached_more 0 form.project project_limit s s m c.in-Ok.bytes (reached_none s) c.in-Ok.ensures in
    subst (λ status. Completes (play form) s t k k status) (sym c.unfetched-in-Err-fetch.ensures)
    (play_unscripted form bytes (program_of c.in-Ok-load.project) s m t k c.in-Err-fetch.error reached c.in-Err-fetch.ensures file (loaded_program bytes c.in-Ok-load.project c.in-Ok-load.ensures))

-- the script is played, and the run saved
pub returns : goal.returns
returns g c =
    let form : Form = record { project = c.args.project.now; script = c.args.script.now; seed = c.args.seed; save = option_map (λ name. name.now) c.args.save } in
    let bytes = c.deref.result.now in
    let script = c.deref-3.result.now in
    let p = program_of c.in-Ok-load.project in
    let s = shelf_now g.H.Shelf.held g.H.Shelf.fetch_faults g.H.Shelf.put_faults g.H.Shelf.calls g.H.Shelf.wants c.args.shelf.now in
    let n = shelf_now g.H.Shelf.held g.H.Shelf.fetch_faults g.H.Shelf.put_faults g.H.Shelf.calls g.H.Shelf.wants c.fetch.new.shelf in
    let m = shelf_now g.H.Shelf.held g.H.Shelf.fetch_faults g.H.Shelf.put_faults g.H.Shelf.calls g.H.Shelf.wants c.fetch-2.new.shelf in
    let t = shelf_now g.H.Shelf.held g.H.Shelf.fetch_faults g.H.Shelf.put_faults g.H.Shelf.calls g.H.Shelf.wants c.play_first.new.shelf in
    let k = sink_now g.K.Sink.written g.K.Sink.faults g.K.Sink.calls c.args.out.now in
    let l = sink_now g.K.Sink.written g.K.Sink.faults g.K.Sink.calls c.play_first.new.out in
    let file = fetched_file s s n form.project project_limit c.in-Ok.bytes bytes refl c.deref.ensures.value c.in-Ok.ensures in
    let one = reached_more 0 form.project project_limit s s n c.in-Ok.bytes (reached_none s) c.in-Ok.ensures in
    let two = reached_more 1 form.script script_limit s n m c.in-Ok-fetch.bytes one c.in-Ok-fetch.ensures in
    let scripted = fetched_file s n m form.script script_limit c.in-Ok-fetch.bytes script one.held c.deref-3.ensures.value c.in-Ok-fetch.ensures in
    let is = subst (λ bs. IsSavedAs form.save (sha256 bs) form.seed c.first_saving-saving.result) (c.deref-2.ensures.value ∙ sym c.deref.ensures.value) c.first_saving-saving.ensures in
    let ends = ends_as form.save (sha256 bytes) form.seed c.first_saving-saving.result (output_of p (words_of form.seed) script) m t k l c.play_first.result is c.play_first.ensures.ends in
    let again = play_resumable c.runs_are_told_again.ensures form bytes script (basis_of c.in-Ok-load.project) (loaded_basis bytes c.in-Ok-load.project c.in-Ok-load.ensures) c.first_saving-saving.result is
    s.held c.play_first.result file scripted c.play_first.ensures.ranges in
    subst (λ status. Completes (play form) s t k l status) (sym c.played.ensures)
    (play_completes form bytes script p s m t k l c.play_first.result two file (loaded_program bytes c.in-Ok-load.project c.in-Ok-load.ensures) scripted ends again)
