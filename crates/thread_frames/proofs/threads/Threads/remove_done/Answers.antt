use Rattle.std.proofs.Common.{List, None, sym, subst, ap, ◌∙◌}
use Rattle.std.specs.List.{list_any}
use Rattle.machine_spec.specs.Places.{Places}
use Rattle.machine_spec.specs.Threads.{is_done}
use Rattle.thread_frames.specs.Threads.{Thread, without_done}
use Rattle.thread_frames.specs.Stopping.{DoneAreEmpty, emptied_all}
use Rattle.thread_frames.proofs.Clean.{none_out}
use Rattle.thread_frames.proofs.Removing.{emptied_are, emptied_leave, any_done}
use Rattle.thread_frames.proofs.threads.Threads.remove_done.Goals as goal

pub forget_done-requires : goal.forget_done-requires
forget_done-requires c = subst (λ (ts : Places Thread). DoneAreEmpty ts.list) (sym c.empty_all_done.ensures) (emptied_are _)

pub returns-then-is_any_done : goal.returns-then-is_any_done
returns-then-is_any_done c =
    c.forget_done.ensures
    ∙ ap (λ (ts : Places Thread). record { list = (without_done ts).list; detached = ts.detached }) (c.empty_all_done.ensures ∙ ap emptied_all c.drop_detached.ensures)
    ∙ ap (λ (xs : List Thread). record { list = xs; detached = None }) (emptied_leave c.args.self.now.list)

pub returns-else-is_any_done : goal.returns-else-is_any_done
returns-else-is_any_done c =
    let none = sym (ap (λ (ts : Places Thread). list_any (λ (t : Thread). is_done t.status) ts.list) c.drop_detached.ensures)
    ∙ sym (any_done c.self.inside.pool c.self.inside.table _ c.self.view_is) ∙ sym c.is_any_done.ensures ∙ c.if-is_any_done.false in
    c.drop_detached.ensures ∙ ap (λ (xs : List Thread). record { list = xs; detached = None }) (sym (none_out (λ (t : Thread). is_done t.status) c.args.self.now.list none))
