use Rattle.std.proofs.Common.{Some, Err, sym, subst, ◌∙◌, Ok}
use Rattle.call_outcomes.specs.Seen.{shelf_now, sink_now}
use Rattle.call_outcomes.specs.Stages.{PutsOnce}
use Rattle.machine_spec.specs.Output.{Whole}
use Rattle.saved_spec.specs.Saved.{saved_limit}
use Rattle.saved_text.specs.Saving.{IsSaved}
use Rattle.sequencer.specs.Runs.{world_of}
use Rattle.play_command.specs.Outcome.{text_from}
use Rattle.play_command.specs.Saving.{EndsAs}
use Rattle.play_command.proofs.Saved.{is_put, put_outcome, ends_put, ends_unput, is_long, long_outcome, ends_long}
use Rattle.play_command.proofs.playback.save_run.Goals as goal

-- the text is put
pub returns-in-Ok-put_text-clause-ends : goal.returns-in-Ok-put_text-clause-ends
returns-in-Ok-put_text-clause-ends g c =
    let w = world_of g.R.Rng.stream c.args.project.now c.args.run.now in
    let text = text_from c.args.saving.digest c.args.saving.seed w in
    let name = c.args.saving.name.now in
    let s = shelf_now g.H.Shelf.held g.H.Shelf.fetch_faults g.H.Shelf.put_faults g.H.Shelf.calls g.H.Shelf.wants c.args.shelf.now in
    let t = shelf_now g.H.Shelf.held g.H.Shelf.fetch_faults g.H.Shelf.put_faults g.H.Shelf.calls g.H.Shelf.wants c.put_text.new.shelf in
    let k = sink_now g.K.Sink.written g.K.Sink.faults g.K.Sink.calls c.args.out.now in
    let answer = subst (λ x. PutsOnce name x s t (Ok tt)) (c.deref.ensures.value ∙ c.in-Ok.ensures.text.0) c.in-Ok-put_text.ensures in
    subst (λ o. EndsAs (Some name) o s t k k (Ok tt)) (sym (is_put text (Whole w) c.in-Ok.ensures.text.1)) (ends_put name text w s t k answer)

-- it is not put
pub returns-in-Ok-clause-ends : goal.returns-in-Ok-clause-ends
returns-in-Ok-clause-ends g c =
    let w = world_of g.R.Rng.stream c.args.project.now c.args.run.now in
    let text = text_from c.args.saving.digest c.args.saving.seed w in
    let name = c.args.saving.name.now in
    let s = shelf_now g.H.Shelf.held g.H.Shelf.fetch_faults g.H.Shelf.put_faults g.H.Shelf.calls g.H.Shelf.wants c.args.shelf.now in
    let t = shelf_now g.H.Shelf.held g.H.Shelf.fetch_faults g.H.Shelf.put_faults g.H.Shelf.calls g.H.Shelf.wants c.put_text.new.shelf in
    let k = sink_now g.K.Sink.written g.K.Sink.faults g.K.Sink.calls c.args.out.now in
    let answer = subst (λ x. PutsOnce name x s t (Err c.in-Err.error)) (c.deref.ensures.value ∙ c.in-Ok.ensures.text.0) c.in-Err.ensures in
    subst (λ o. EndsAs (Some name) o s t k k (Err c.put_stop.result)) (sym (is_put text (Whole w) c.in-Ok.ensures.text.1))
    (subst (λ x. EndsAs (Some name) (put_outcome text (Whole w)) s t k k (Err x)) (sym c.put_stop.ensures) (ends_unput name text w s t k c.in-Err.error answer))

-- the text is too long
pub returns-in-Err-TooLarge-clause-ends : goal.returns-in-Err-TooLarge-clause-ends
returns-in-Err-TooLarge-clause-ends g c =
    let w = world_of g.R.Rng.stream c.args.project.now c.args.run.now in
    let text = text_from c.args.saving.digest c.args.saving.seed w in
    let name = c.args.saving.name.now in
    let s = shelf_now g.H.Shelf.held g.H.Shelf.fetch_faults g.H.Shelf.put_faults g.H.Shelf.calls g.H.Shelf.wants c.args.shelf.now in
    let k = sink_now g.K.Sink.written g.K.Sink.faults g.K.Sink.calls c.args.out.now in
    let l = sink_now g.K.Sink.written g.K.Sink.faults g.K.Sink.calls c.tell_limit.new.out in
    let long = subst (λ e. IsSaved saved_limit text (Err e)) c.in-Err-TooLarge.field-0-is c.in-Err-TooLarge.ensures.text in
    subst (λ o. EndsAs (Some name) o s s k l (Err c.tell_limit.result)) (sym (is_long text (Whole w) long.1))
    (subst (λ n. EndsAs (Some name) (long_outcome n) s s k l (Err c.tell_limit.result)) long.0
    (ends_long name c.in-Err-TooLarge.length s k l c.tell_limit.result c.tell_limit.ensures.ends c.tell_limit.ensures.writes))
