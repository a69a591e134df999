use Rattle.std.proofs.Common.{refl, sym, subst}
use Rattle.call_outcomes.specs.Seen.{shelf_now, sink_now}
use Rattle.play_command.specs.Command.{check}
use Rattle.project_spec.specs.Limits.{project_limit}
use Rattle.play_command.specs.Outcome.{accepted, Checks}
use Rattle.play_command.specs.Stages.{Completes}
use Rattle.play_command.proofs.Calls.{check_unfetched, check_refused, check_told}
use Rattle.play_command.proofs.Costs.{reached_none, reached_more}
use Rattle.play_command.proofs.Readings.{fetched_file, loaded_counts}
use Rattle.play_command.proofs.top.check.Goals as goal

pub returns-in-Err : goal.returns-in-Err
returns-in-Err g c =
    let s = shelf_now g.H.Shelf.held g.H.Shelf.fetch_faults g.H.Shelf.put_faults g.H.Shelf.calls g.H.Shelf.wants c.args.shelf.now in
    let t = shelf_now g.H.Shelf.held g.H.Shelf.fetch_faults g.H.Shelf.put_faults g.H.Shelf.calls g.H.Shelf.wants c.fetch.new.shelf in
    let k = sink_now g.K.Sink.written g.K.Sink.faults g.K.Sink.calls c.args.out.now in
    subst (λ status. Completes (check c.args.project.now) s t k k status) (sym c.unfetched.ensures) (check_unfetched c.args.project.now s t k c.in-Err.error c.in-Err.ensures)

pub returns-in-Err-load : goal.returns-in-Err-load
returns-in-Err-load g c =
    let name = c.args.project.now in
    let s = shelf_now g.H.Shelf.held g.H.Shelf.fetch_faults g.H.Shelf.put_faults g.H.Shelf.calls g.H.Shelf.wants c.args.shelf.now in
    let t = shelf_now g.H.Shelf.held g.H.Shelf.fetch_faults g.H.Shelf.put_faults g.H.Shelf.calls g.H.Shelf.wants c.fetch.new.shelf in
    let k = sink_now g.K.Sink.written g.K.Sink.faults g.K.Sink.calls c.args.out.now in
    let file = fetched_file s s t name project_limit c.in-Ok.bytes c.deref.result.now refl c.deref.ensures.value c.in-Ok.ensures in
    let reached = reached_more 0 name project_limit s s t c.in-Ok.bytes (reached_none s) c.in-Ok.ensures in
    subst (λ status. Completes (check name) s t k k status) (sym c.refused.ensures) (check_refused name c.deref.result.now s t k c.in-Err-load.refusal reached file c.in-Err-load.ensures)

pub returns : goal.returns
returns g c =
    let name = c.args.project.now in
    let bytes = c.deref.result.now in
    let s = shelf_now g.H.Shelf.held g.H.Shelf.fetch_faults g.H.Shelf.put_faults g.H.Shelf.calls g.H.Shelf.wants c.args.shelf.now in
    let t = shelf_now g.H.Shelf.held g.H.Shelf.fetch_faults g.H.Shelf.put_faults g.H.Shelf.calls g.H.Shelf.wants c.fetch.new.shelf in
    let k = sink_now g.K.Sink.written g.K.Sink.faults g.K.Sink.calls c.args.out.now in
    let l = sink_now g.K.Sink.written g.K.Sink.faults g.K.Sink.calls c.tell_counts.new.out in
    let file = fetched_file s s t name project_limit c.in-Ok.bytes bytes refl c.deref.ensures.value c.in-Ok.ensures in
    let reached = reached_more 0 name project_limit s s t c.in-Ok.bytes (reached_none s) c.in-Ok.ensures in
    let is = subst (λ x. Checks bytes (accepted x)) (sym c.counts_of.ensures) (loaded_counts bytes c.in-Ok-load.project c.in-Ok-load.ensures) in
    subst (λ status. Completes (check name) s t k l status) (sym c.played.ensures)
    (check_told name bytes c.counts_of.result s t k l c.tell_counts.result reached file is c.tell_counts.ensures.ends c.tell_counts.ensures.writes)
