use Rattle.std.proofs.Common.{subst, sym, ap, ◌∙◌, ◌^◌, ◌<◌, Err, length, map, None, arith}
use Rattle.std.specs.Prelude.{sum}
use Rattle.call_outcomes.specs.Seen.{sink_now}
use Rattle.made_texts.specs.MadeProject.{made_project}
use Rattle.made_texts.specs.MadeScript.{made_script}
use Rattle.project_check.specs.Loaded.{Loads as LoadsProject, basis_of, program_of, tables_of}
use Rattle.play_command.specs.Command.{MadeForm, made}
use Rattle.play_command.specs.Made.{made_ending, made_seed}
use Rattle.play_command.specs.Outcome.{accepted, Bases, output_of, words_of}
use Rattle.play_command.specs.Saving.{EndsAs}
use Rattle.play_command.specs.Stages.{Completes}
use Rattle.play_command.proofs.MadeCalls.{blocks_summed, made_completes, made_refused, made_wanting}
use Rattle.play_command.proofs.MadeLength.{few_bytes}
use Rattle.play_command.proofs.Readings.{loaded_basis}
use Rattle.play_command.proofs.made.make.Goals as goal

pub returns-in_default : goal.returns-in_default
returns-in_default g c =
    let form : MadeForm = record { copies = c.args.copies; frames = c.args.frames } in
    λ s. made_wanting form s (sink_now g.K.Sink.written g.K.Sink.faults g.K.Sink.calls c.args.out.now)

pub returns-in-Err : goal.returns-in-Err
returns-in-Err g c =
    let form : MadeForm = record { copies = c.args.copies; frames = c.args.frames } in
    let k = sink_now g.K.Sink.written g.K.Sink.faults g.K.Sink.calls c.args.out.now in
    let loads = subst (λ bytes. LoadsProject bytes (Err c.in-Err.refusal)) (c.deref.ensures.value ∙ c.in-Ok.ensures ∙ ap made_project c.from.ensures) c.in-Err.ensures in
    λ s. subst (λ status. Completes (made form) s s k k status) (sym c.refused.ensures) (made_refused form s k c.in-Err.refusal loads)

pub returns-in_default-script_text : goal.returns-in_default-script_text
returns-in_default-script_text g c =
    let form : MadeForm = record { copies = c.args.copies; frames = c.args.frames } in
    λ s. made_wanting form s (sink_now g.K.Sink.written g.K.Sink.faults g.K.Sink.calls c.args.out.now)

pub returns : goal.returns
returns g c =
    let form : MadeForm = record { copies = c.args.copies; frames = c.args.frames } in
    let k = sink_now g.K.Sink.written g.K.Sink.faults g.K.Sink.calls c.args.out.now in
    let l = sink_now g.K.Sink.written g.K.Sink.faults g.K.Sink.calls c.play_and_tell.new.out in
    let project = c.in-Ok-load.project in
    let answer = c.play_and_tell.result in
    let is = subst (λ bytes. Bases bytes (accepted (basis_of project))) (c.deref.ensures.value ∙ c.in-Ok.ensures ∙ ap made_project c.from.ensures) (loaded_basis c.deref.result.now project c.in-Ok-load.ensures) in
    λ s.
    let counted = subst (λ n. EndsAs None (made_ending form n (output_of (program_of project) (words_of made_seed) c.deref-2.result.now)) s s k l answer) (blocks_summed (tables_of project)) (c.play_and_tell.ensures s) in
    let ends = subst (λ script. EndsAs None (made_ending form (sum (map length (tables_of project))) (output_of (program_of project) (words_of made_seed) script)) s s k l answer) (c.deref-2.ensures.value ∙ c.in-Ok-script_text.ensures ∙ ap made_script c.from-2.ensures) counted in
    subst (λ status. Completes (made form) s s k l status) (sym c.played.ensures) (made_completes form (basis_of project) s k l answer is ends)

pub load-requires : goal.load-requires
load-requires g c =
    let is = c.deref.ensures.value ∙ c.in-Ok.ensures ∙ ap made_project c.from.ensures in
    subst (λ bytes. length bytes < 2 ^ 32) (sym is) (few_bytes c.args.copies (omega arith))
