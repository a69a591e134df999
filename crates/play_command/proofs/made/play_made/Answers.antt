use Rattle.std.proofs.Common.{rules, ◌<◌, ◌^◌, length, subst, ap, ◌∙◌, Ok, Err}
use Rattle.scratch_values.specs.Value.{text_of}
use Rattle.script_words.specs.Words.{answers}
use Rattle.machine_spec.specs.First.{first_world}
use Rattle.machine_spec.specs.Output.{played}
use Rattle.machine_spec.specs.ScriptText.{lines_of}
use Rattle.machine_spec.specs.Stores.{value_in}
use Rattle.project_check.specs.Loaded.{program_of}
use Rattle.script_play.specs.Scripts.{PlaysAs}
use Rattle.sequencer.specs.Runs.{world_of}
use Rattle.play_command.specs.Made.{made_seed}
use Rattle.play_command.specs.Making.{IsTelling}
use Rattle.play_command.specs.Outcome.{output_of, words_of}
use Rattle.play_command.proofs.Again.{seeded_words}
use Rattle.play_command.proofs.MadeCalls.{seen_frames, made_whole, made_stopped, made_counted}
use Rattle.play_command.proofs.made.play_made.Goals as goal

pub returns-in-Err : goal.returns-in-Err
returns-in-Err c =
    let p = program_of c.args.project.now in
    let last = world_of answers c.args.project.now c.play_lines.new.run in
    let d = c.new-frames.result in
    let e = c.play_lines.new.out in
    let words = seeded_words made_seed c.pcg.result.drawn (answers c.pcg.result.source) c.pcg.ensures.drawn c.pcg.ensures.stream in
    let plays = subst (λ v. PlaysAs (played p 1 v.devices.clock v (lines_of c.args.script.now)) last (seen_frames d) (seen_frames e) (Err c.in-Err.stop))
    (c.in-Ok.ensures.world ∙ ap (first_world p) words) c.in-Err.ensures.plays in
    made_stopped (output_of p (words_of made_seed) c.args.script.now) last d e c.in-Err.stop plays

pub telling_of-requires : goal.telling_of-requires
telling_of-requires c =
    let p = program_of c.args.project.now in
    let last = world_of answers c.args.project.now c.play_lines.new.run in
    let d = c.new-frames.result in
    let e = c.play_lines.new.out in
    let words = seeded_words made_seed c.pcg.result.drawn (answers c.pcg.result.source) c.pcg.ensures.drawn c.pcg.ensures.stream in
    let plays = subst (λ v. PlaysAs (played p 1 v.devices.clock v (lines_of c.args.script.now)) last (seen_frames d) (seen_frames e) (Ok tt))
    (c.in-Ok.ensures.world ∙ ap (first_world p) words) c.in-Ok-play_lines.ensures.plays in
    let short : length c.args.script.now < 2 ^ 63 = search rules in
    made_counted p 0 (first_world p (words_of made_seed)) last c.args.script.now d e short c.new-frames.ensures plays

pub returns-in-Ok-telling_of : goal.returns-in-Ok-telling_of
returns-in-Ok-telling_of c =
    let p = program_of c.args.project.now in
    let last = world_of answers c.args.project.now c.play_lines.new.run in
    let d = c.new-frames.result in
    let e = c.play_lines.new.out in
    let t = c.in-Ok-telling_of.telling in
    let words = seeded_words made_seed c.pcg.result.drawn (answers c.pcg.result.source) c.pcg.ensures.drawn c.pcg.ensures.stream in
    let plays = subst (λ v. PlaysAs (played p 1 v.devices.clock v (lines_of c.args.script.now)) last (seen_frames d) (seen_frames e) (Ok tt))
    (c.in-Ok.ensures.world ∙ ap (first_world p) words) c.in-Ok-play_lines.ensures.plays in
    let told = subst (λ vs. IsTelling (text_of (value_in 0 0 vs)) e.written t) c.variables.ensures c.in-Ok-telling_of.ensures in
    made_whole (output_of p (words_of made_seed) c.args.script.now) last d e t c.new-frames.ensures plays told
