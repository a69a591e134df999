-- The level is opened over those that the thread has, and there is room for it.
use Rattle.std.proofs.Common.{false, None}
use Rattle.machine_spec.specs.Starting.{open_levels}
use Rattle.thread_frames.specs.Levels.{new_level}
use Rattle.thread_frames.specs.Threads.{frames}
use Rattle.thread_moves.proofs.InPlace.{never_full, opened_levels, opened_only}
use Rattle.thread_moves.proofs.resumption.open_empty.Goals as goal

pub returns-in-Ok-clause-levels : goal.returns-in-Ok-clause-levels
returns-in-Ok-clause-levels c = opened_levels c.args.which (open_levels frames c.args.threads.now) (new_level None false) c.args.threads.now c.push.new.self c.in-Ok.ensures.ok c.requires.there

pub returns-in-Ok-clause-only : goal.returns-in-Ok-clause-only
returns-in-Ok-clause-only c = opened_only c.args.which (open_levels frames c.args.threads.now) (new_level None false) c.args.threads.now c.push.new.self c.in-Ok.ensures.ok

pub unreachable-requires : goal.unreachable-requires
unreachable-requires c = never_full (open_levels frames c.args.threads.now) c.args.threads.now c.requires.room (rw c.in-Err-Full.field-0-is at c.in-Err-Full.ensures.stop)
