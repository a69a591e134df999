use Rattle.std.proofs.Common.{ap, ◌∙◌}
use Rattle.machine_spec.specs.declared.threads.Which.TheVariants.{Slot}
use Rattle.machine_spec.specs.Places.{on_place}
use Rattle.thread_frames.specs.Threads.{Bare, on_levels}
use Rattle.thread_frames.specs.Rebuilding.{on_all}
use Rattle.thread_frames.proofs.Rebuilds.{part_put}
use Rattle.thread_frames.proofs.threads.Threads.add_part.Goals as goal

pub returns : goal.returns
returns c =
    part_put c.args.part c.with_status.result c.args.self.now c.add.new.self c.put_all.new.self (c.with_status.ensures ∙ ap (λ (b : Bare). record b { status = c.args.part.status }) c.new-thread.ensures)
    c.in_ok-add.ensures.ok
    (c.put_all.ensures ∙ ap (λ n. on_place (on_levels (on_all c.args.part.levels.items)) (Slot n) c.add.new.self) c.len-slot.ensures)
