use Rattle.std.proofs.Common.{sym, ap, ◌∙◌, refl, arith}
use Rattle.std.specs.Prelude.{option_map}
use Rattle.machine_spec.specs.Outcome.{Goes}
use Rattle.thread_frames.specs.Levels.{with_branch}
use Rattle.thread_frames.specs.Threads.{on_levels}
use Rattle.thread_frames.proofs.Kept.{is_in, depth_few, kept_moved}
use Rattle.thread_frames.proofs.Views.{open_is, view_none}
use Rattle.thread_frames.proofs.Restarts.{is_full, has_room}
use Rattle.thread_frames.proofs.Tops.{view_levels}
use Rattle.thread_frames.proofs.threads.Threads.open_branch.Goals as goal

pub returns-then-used-ge-MOST_LEVELS-clause-stop : goal.returns-then-used-ge-MOST_LEVELS-clause-stop
returns-then-used-ge-MOST_LEVELS-clause-stop c = is_full _ _ (omega (arith, open_is c.self.inside.pool c.self.inside.table _ c.self.view_is c.self.invariant.stand))

pub returns-in_default-clause-ok : goal.returns-in_default-clause-ok
returns-in_default-clause-ok c =
    has_room _ _ (omega (arith, open_is c.self.inside.pool c.self.inside.table _ c.self.view_is c.self.invariant.stand))
    ∙ ap Goes (sym (view_none c.self.inside.pool (on_levels (with_branch c.args.first c.args.is_loop c.args.context)) c.args.which c.self.inside.table _ c.self.view_is (sym c.at_mut.ensures.entry ∙ ap (option_map (λ e. e.now)) c.in_default.is)) ∙ sym c.self.view_is)

pub open_branch-requires-clause-there : goal.open_branch-requires-clause-there
open_branch-requires-clause-there c = is_in c.self.inside.pool c.args.which _ c.self.inside.table c.self.invariant.stand (sym c.in-Some.ensures.entry)

pub open_branch-requires-clause-room : goal.open_branch-requires-clause-room
open_branch-requires-clause-room c = omega (arith, c.self.invariant.stand.room, c.if-used-ge-MOST_LEVELS.false)

pub open_branch-requires-clause-countable : goal.open_branch-requires-clause-countable
open_branch-requires-clause-countable c = omega (arith, depth_few c.self.inside.pool c.args.which _ c.self.inside.table c.self.invariant.stand (sym c.in-Some.ensures.entry), c.self.invariant.stand.few)

pub invariant_of-self-2 : goal.invariant_of-self-2
invariant_of-self-2 c =
    kept_moved c.self.inside.pool _ _ c.args.which _ _ c.self.inside.table c.self.invariant (sym c.in-Some.ensures.entry) c.open_branch.ensures.moved
    (omega (arith, c.open_branch.ensures.moved.count, c.open_branch.ensures.depth, c.if-used-ge-MOST_LEVELS.false)) refl

pub returns-clause-ok : goal.returns-clause-ok
returns-clause-ok c =
    has_room _ _ (omega (arith, open_is c.self.inside.pool c.self.inside.table _ c.self.view_is c.self.invariant.stand))
    ∙ ap Goes (sym (view_levels c.self.inside.pool _ (with_branch c.args.first c.args.is_loop c.args.context) c.args.which _ _ c.self.inside.table _ c.self.view_is c.self.invariant.stand (sym c.in-Some.ensures.entry) c.open_branch.ensures.moved c.open_branch.ensures.values))
