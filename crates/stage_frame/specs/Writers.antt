-- What contracts see of a writer of frames.
use Rattle.machine_spec.specs.Program.{Records}
use Rattle.target_records.specs.Records.{records_in}
use Rattle.stage_frame.specs.declared.writer.FrameWriter.{FrameWriter}

-- the records of the project whose frames are written
abbrev pub records_of : FrameWriter → Records
records_of w = records_in w.records.now
