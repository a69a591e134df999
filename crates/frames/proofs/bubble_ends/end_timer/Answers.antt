use Rattle.std.proofs.Common.{refl}
use Rattle.executions.proofs.Keeping.{idle_cast}
use Rattle.frames.proofs.bubble_ends.end_timer.Goals as goal

pub resume-requires : goal.resume-requires
resume-requires g c =
    idle_cast c.args.project.now c.args.state.now (record c.args.state.now { targets = c.end_bubble.new.targets; devices = c.end_bubble.new.devices }) refl refl refl refl c.requires c.in-Ok.ensures.cast
