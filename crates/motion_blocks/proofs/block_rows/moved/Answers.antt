-- A glide to a place of numbers leaves the words, whatever they are.
use Rattle.target_records.specs.Records.{records_in}
use Rattle.motion_blocks.proofs.block_rows.moved.Goals as goal

pub returns-in_ok-glide_to_xy-in-MotionGlideSecsToXY-clause-ok :
    goal.returns-in_ok-glide_to_xy-in-MotionGlideSecsToXY-clause-ok
returns-in_ok-glide_to_xy-in-MotionGlideSecsToXY-clause-ok g c =
    rw c.in-MotionGlideSecsToXY.is (c.in_ok-glide_to_xy-in-MotionGlideSecsToXY.ensures.ok (records_in c.args.records.now) _)
