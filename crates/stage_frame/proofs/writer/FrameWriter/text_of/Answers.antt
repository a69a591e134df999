use Rattle.std.proofs.Common.{sym, ◌∙◌, ap}
use Rattle.std.proofs.lemmas.Result.{IfOk-weaker}
use Rattle.script_words.specs.Counting.{drawn_of}
use Rattle.project_check.specs.Loaded.{program_of}
use Rattle.sequencer.specs.Runs.{world_of}
use Rattle.stage_frame.proofs.writer.FrameWriter.text_of.Goals as goal

pub returns : goal.returns
returns g c =
    IfOk-weaker c.text.result _ _
    (λ text h. h (program_of c.args.project.now) (world_of g.R.Rng.stream c.args.project.now c.args.run.now) (sym c.requires) (record {
      frame = sym c.frame_number.ensures;
      words = sym (c.drawn.ensures.value ∙ ap drawn_of c.words.ensures);
      targets = sym c.targets.ensures;
      variables = sym c.variables.ensures;
      devices = sym c.devices.ensures;
    }))
    c.text.ensures
