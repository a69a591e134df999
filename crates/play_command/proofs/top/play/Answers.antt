use Rattle.std.proofs.Common.{◌≡◌, ◌∙◌, subst, Option, None, Some}
use Rattle.std.specs.Prelude.{◌↔◌, ◌≢◌, IfSome}
use Rattle.call_outcomes.specs.Seen.{shelf_now, sink_now}
use Rattle.run_save.specs.declared.status.Status.{Status}
use Rattle.run_save.specs.declared.status.Status.TheVariants.{Usage}
use Rattle.play_command.specs.Command.{Command}
use Rattle.play_command.specs.Promise.{Plays}
use Rattle.play_command.specs.Resuming.{Resumable}
use Rattle.play_command.proofs.top.play.Goals as goal

pub returns-in-Some-Play-clause-owes : goal.returns-in-Some-Play-clause-owes
returns-in-Some-Play-clause-owes g c =
    let asked = rw c.in-Some-Play.field-0-is at c.in-Some-Play.ensures in
    let s = shelf_now g.H.Shelf.held g.H.Shelf.fetch_faults g.H.Shelf.put_faults g.H.Shelf.calls g.H.Shelf.wants c.args.shelf.now in
    let t = shelf_now g.H.Shelf.held g.H.Shelf.fetch_faults g.H.Shelf.put_faults g.H.Shelf.calls g.H.Shelf.wants c.run.new.shelf in
    let k = sink_now g.K.Sink.written g.K.Sink.faults g.K.Sink.calls c.args.out.now in
    let l = sink_now g.K.Sink.written g.K.Sink.faults g.K.Sink.calls c.run.new.out in
    subst (λ command. Plays command s t k l c.run.result) asked c.run.ensures.owes

pub returns-in-Some-Play-clause-resumable : goal.returns-in-Some-Play-clause-resumable
returns-in-Some-Play-clause-resumable g c =
    let asked = rw c.in-Some-Play.field-0-is at c.in-Some-Play.ensures in
    subst (λ command. IfSome command (λ command. Resumable (g.H.Shelf.held c.args.shelf.now) command c.run.result)) asked c.run.ensures.resumable

pub returns-in-Some-Resume-clause-owes : goal.returns-in-Some-Resume-clause-owes
returns-in-Some-Resume-clause-owes g c =
    let asked = rw c.in-Some-Resume.field-0-is at c.in-Some-Resume.ensures in
    let s = shelf_now g.H.Shelf.held g.H.Shelf.fetch_faults g.H.Shelf.put_faults g.H.Shelf.calls g.H.Shelf.wants c.args.shelf.now in
    let t = shelf_now g.H.Shelf.held g.H.Shelf.fetch_faults g.H.Shelf.put_faults g.H.Shelf.calls g.H.Shelf.wants c.resume.new.shelf in
    let k = sink_now g.K.Sink.written g.K.Sink.faults g.K.Sink.calls c.args.out.now in
    let l = sink_now g.K.Sink.written g.K.Sink.faults g.K.Sink.calls c.resume.new.out in
    subst (λ command. Plays command s t k l c.resume.result) asked c.resume.ensures.owes

pub returns-in-Some-Resume-clause-resumable : goal.returns-in-Some-Resume-clause-resumable
returns-in-Some-Resume-clause-resumable g c =
    let asked = rw c.in-Some-Resume.field-0-is at c.in-Some-Resume.ensures in
    subst (λ command. IfSome command (λ command. Resumable (g.H.Shelf.held c.args.shelf.now) command c.resume.result)) asked c.resume.ensures.resumable

-- words that ask for something are no wrong ones
not_wrong : (o : Option Command) (command : Command) (status : Status) → Some command ≡ o → status ≢ Usage → (status ≡ Usage) ↔ (o ≡ None)
not_wrong o command status asked right = ((λ h. absurd (right h)), (λ h. let differ : Some command ≡ None = asked ∙ h in cc differ))

pub returns-in-Some-Made-clause-usage : goal.returns-in-Some-Made-clause-usage
returns-in-Some-Made-clause-usage g c =
    let asked = rw c.in-Some-Made.field-0-is at c.in-Some-Made.ensures in
    let s = shelf_now g.H.Shelf.held g.H.Shelf.fetch_faults g.H.Shelf.put_faults g.H.Shelf.calls g.H.Shelf.wants c.args.shelf.now in
    not_wrong _ _ _ asked (c.make.ensures s).no_usage

pub returns-in-Some-Made-clause-owes : goal.returns-in-Some-Made-clause-owes
returns-in-Some-Made-clause-owes g c =
    let asked = rw c.in-Some-Made.field-0-is at c.in-Some-Made.ensures in
    let s = shelf_now g.H.Shelf.held g.H.Shelf.fetch_faults g.H.Shelf.put_faults g.H.Shelf.calls g.H.Shelf.wants c.args.shelf.now in
    let k = sink_now g.K.Sink.written g.K.Sink.faults g.K.Sink.calls c.args.out.now in
    let l = sink_now g.K.Sink.written g.K.Sink.faults g.K.Sink.calls c.make.new.out in
    subst (λ command. Plays command s s k l c.make.result) asked (c.make.ensures s).owes
