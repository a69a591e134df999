use Rattle.std.proofs.Common.{◌++◌, ap, ◌∙◌}
use Rattle.target_records.specs.Records.{records_in}
use Rattle.stage_frame.specs.Lines.{frame_lines}
use Rattle.stage_frame.proofs.Whole.{lines_are}
use Rattle.stage_frame.proofs.writer.FrameWriter.text.Goals as goal

pub returns : goal.returns
returns c = λ p w e s.
    let records = records_in c.args.self.now.records.now in
    c.in_ok-push_lines.ensures
    ∙ ap (λ o. o ++ frame_lines records c.args.view.now) c.new-out.ensures.items
    ∙ lines_are records c.args.view.now p w e s
