use Rattle.std.proofs.Common.{Err, sym, subst}
use Rattle.call_outcomes.specs.Seen.{shelf_now, sink_now}
use Rattle.report_command.specs.Promise.{Owes}
use Rattle.report_command.specs.Stages.{IsJudged}
use Rattle.report_command.proofs.Owed.{owes_unfetched, owes_wanting, owes_told}
use Rattle.report_command.proofs.top.run.Goals as goal

pub returns-in-Err-clause-owes : goal.returns-in-Err-clause-owes
returns-in-Err-clause-owes g c =
    let s = shelf_now g.H.Shelf.held g.H.Shelf.fetch_faults g.H.Shelf.put_faults g.H.Shelf.calls g.H.Shelf.wants c.args.shelf.now in
    let t = shelf_now g.H.Shelf.held g.H.Shelf.fetch_faults g.H.Shelf.put_faults g.H.Shelf.calls g.H.Shelf.wants c.fetch.new.shelf in
    let k = sink_now g.K.Sink.written g.K.Sink.faults g.K.Sink.calls c.args.out.now in
    subst (λ status. Owes c.args.name.now s t k k status) (sym c.from.ensures) (owes_unfetched c.args.name.now s t k c.in-Err.error c.in-Err.ensures)

pub returns-in-Ok-judge-clause-owes : goal.returns-in-Ok-judge-clause-owes
returns-in-Ok-judge-clause-owes g c =
    let s = shelf_now g.H.Shelf.held g.H.Shelf.fetch_faults g.H.Shelf.put_faults g.H.Shelf.calls g.H.Shelf.wants c.args.shelf.now in
    let t = shelf_now g.H.Shelf.held g.H.Shelf.fetch_faults g.H.Shelf.put_faults g.H.Shelf.calls g.H.Shelf.wants c.fetch.new.shelf in
    let k = sink_now g.K.Sink.written g.K.Sink.faults g.K.Sink.calls c.args.out.now in
    let l = sink_now g.K.Sink.written g.K.Sink.faults g.K.Sink.calls c.tell.new.out in
    let judged = subst (λ bs. IsJudged bs c.in-Ok-judge.judged) c.deref.ensures.value c.in-Ok-judge.ensures in
    owes_told c.args.name.now s t k l c.in-Ok.bytes c.in-Ok-judge.judged c.tell.result c.in-Ok.ensures judged c.tell.ensures.told c.tell.ensures.writes c.tell.ensures.want
