use Rattle.std.proofs.Common.{subst, ap, ◌∙◌}
use Rattle.call_outcomes.specs.Seen.{shelf_now, sink_now}
use Rattle.script_words.specs.Words.{answers}
use Rattle.machine_spec.specs.First.{first_world}
use Rattle.machine_spec.specs.Output.{played}
use Rattle.machine_spec.specs.ScriptText.{lines_of}
use Rattle.project_check.specs.Loaded.{program_of}
use Rattle.play_command.specs.Outcome.{all_of}
use Rattle.play_command.specs.Saving.{EndsAs, SavesInRange, name_in, text_in}
use Rattle.play_command.proofs.Again.{seeded_words}
use Rattle.play_command.proofs.playback.play_first.Goals as goal

pub returns-clause-ends : goal.returns-clause-ends
returns-clause-ends g c =
    let p = program_of c.args.project.now in
    let save = name_in c.args.saving in
    let s = shelf_now g.H.Shelf.held g.H.Shelf.fetch_faults g.H.Shelf.put_faults g.H.Shelf.calls g.H.Shelf.wants c.args.shelf.now in
    let t = shelf_now g.H.Shelf.held g.H.Shelf.fetch_faults g.H.Shelf.put_faults g.H.Shelf.calls g.H.Shelf.wants c.play_on.new.shelf in
    let k = sink_now g.K.Sink.written g.K.Sink.faults g.K.Sink.calls c.args.out.now in
    let l = sink_now g.K.Sink.written g.K.Sink.faults g.K.Sink.calls c.play_on.new.out in
    let words = seeded_words c.args.seed c.pcg.result.drawn (answers c.pcg.result.source) c.pcg.ensures.drawn c.pcg.ensures.stream in
    subst (λ v. EndsAs save (all_of save (text_in c.args.saving) (played p 1 v.devices.clock v (lines_of c.args.script.now))) s t k l c.play_on.result)
    (c.in-Ok.ensures.world ∙ ap (first_world p) words) c.play_on.ensures.ends

pub returns-clause-ranges : goal.returns-clause-ranges
returns-clause-ranges g c =
    let p = program_of c.args.project.now in
    let words = seeded_words c.args.seed c.pcg.result.drawn (answers c.pcg.result.source) c.pcg.ensures.drawn c.pcg.ensures.stream in
    subst (λ v. SavesInRange c.args.saving (played p 1 v.devices.clock v (lines_of c.args.script.now)).ending c.play_on.result)
    (c.in-Ok.ensures.world ∙ ap (first_world p) words) c.play_on.ensures.ranges
