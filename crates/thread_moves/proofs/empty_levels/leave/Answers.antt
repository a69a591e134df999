-- Levels are left one by one.
use Rattle.std.proofs.Common.{◌≡◌, None, sym, ap, ◌∙◌, refl, arith}
use Rattle.cached_blocks.proofs.Told.{held}
use Rattle.machine_spec.specs.declared.threads.Report.TheVariants.{Go, Uncovered, Ended}
use Rattle.project_check.specs.Loaded.{sheet_at}
use Rattle.thread_frames.specs.Levels.{on_top, at_next, without_top}
use Rattle.thread_frames.proofs.Opening.{length-on_top}
use Rattle.thread_moves.specs.Moves.{levels_at}
use Rattle.thread_moves.proofs.InPlace.{levels_are, only_on, only_self, only_then}
use Rattle.thread_moves.proofs.Settles.{IsAt-move, left_id, left_some, leave_loop, leave_on, uncovers, uncovers_none, one_fewer, gone_on, covered, none_of}
use Rattle.thread_moves.proofs.empty_levels.leave.Goals as goal

pub loop-is_loop-init : goal.loop-is_loop-init
loop-is_loop-init c = record { covered = c.requires; same = refl; fewer = omega arith; only = only_self c.args.which c.args.threads.now }

pub returns-then-is_loop-clause-at : goal.returns-then-is_loop-clause-at
returns-then-is_loop-clause-at c =
    let u = uncovers _ _ _ c.loop-is_loop.invariant.covered (levels_are c.args.which without_top _ _ c.uncover.ensures.popped refl) _ _ (sym c.in-Some.is ∙ c.uncover.ensures.next) in
    IsAt-move _ _ _ _ _ Uncovered (sym c.loop-is_loop.invariant.same) refl (leave_loop _ _ _ u.top c.loop-is_loop.invariant.covered u.left (u.loop ∙ c.if-is_loop.true))

pub returns-then-is_loop-clause-fewer : goal.returns-then-is_loop-clause-fewer
returns-then-is_loop-clause-fewer c = omega (arith, one_fewer _ _ _ c.loop-is_loop.invariant.covered (levels_are c.args.which without_top _ _ c.uncover.ensures.popped refl), c.loop-is_loop.invariant.fewer)

pub returns-then-is_loop-clause-only : goal.returns-then-is_loop-clause-only
returns-then-is_loop-clause-only c = only_then c.args.which _ _ _ c.loop-is_loop.invariant.only (only_on c.args.which without_top _ _ c.uncover.ensures.popped)

pub unreachable-requires : goal.unreachable-requires
unreachable-requires c =
    let u = uncovers _ _ _ c.loop-is_loop.invariant.covered (levels_are c.args.which without_top _ _ c.uncover.ensures.popped refl) _ _ (sym c.in-Some.is ∙ c.uncover.ensures.next) in
    left_some _ _ _ u.top u.left (u.block ∙ c.in-None.is)

pub linked-block-requires : goal.linked-block-requires
linked-block-requires c =
    let u = uncovers _ _ _ c.loop-is_loop.invariant.covered (levels_are c.args.which without_top _ _ c.uncover.ensures.popped refl) _ _ (sym c.in-Some.is ∙ c.uncover.ensures.next) in
    left_id (sheet_at c.args.target c.args.project.now) _ _ u.top _ u.left (u.block ∙ c.in-Some-block.is)

pub returns-then-is_some-clause-at : goal.returns-then-is_some-clause-at
returns-then-is_some-clause-at c =
    let u = uncovers _ _ _ c.loop-is_loop.invariant.covered (levels_are c.args.which without_top _ _ c.uncover.ensures.popped refl) _ _ (sym c.in-Some.is ∙ c.uncover.ensures.next) in
    let b = held (sheet_at c.args.target c.args.project.now) _ _ c.linked-block.ensures.block in
    let is = levels_are c.args.which (on_top (at_next c.linked-block.result.now.next)) _ _ c.go_next.ensures refl in
    IsAt-move _ _ _ _ _ Go (sym c.loop-is_loop.invariant.same) refl
    (gone_on _ _ _ _ u.top c.linked-block.result.now.next u.left
    (leave_on _ _ _ u.top c.loop-is_loop.invariant.covered u.left _ _ b.0 c.linked-block.ensures.ranked (u.loop ∙ c.if-is_loop.false) (u.block ∙ c.in-Some-block.is) b.1
    (is ∙ ap (λ n. on_top (at_next n) (levels_at c.args.which c.uncover.new.self)) (ap (λ x. x.next) b.2)))
    is (sym c.is_some.ensures ∙ c.if-is_some.true))

pub returns-then-is_some-clause-fewer : goal.returns-then-is_some-clause-fewer
returns-then-is_some-clause-fewer c = omega (
  arith,
  one_fewer _ _ _ c.loop-is_loop.invariant.covered (levels_are c.args.which without_top _ _ c.uncover.ensures.popped refl),
  c.loop-is_loop.invariant.fewer,
  ap Rattle.std.proofs.Common.length (levels_are c.args.which (on_top (at_next c.linked-block.result.now.next)) _ _ c.go_next.ensures refl),
  length-on_top (at_next c.linked-block.result.now.next) (levels_at c.args.which c.uncover.new.self),
)

pub returns-then-is_some-clause-only : goal.returns-then-is_some-clause-only
returns-then-is_some-clause-only c =
    only_then c.args.which _ _ _ (only_then c.args.which _ _ _ c.loop-is_loop.invariant.only (only_on c.args.which without_top _ _ c.uncover.ensures.popped))
    (only_on c.args.which (on_top (at_next c.linked-block.result.now.next)) _ _ c.go_next.ensures)

pub loop-is_loop-smaller : goal.loop-is_loop-smaller
loop-is_loop-smaller c = one_fewer _ _ _ c.loop-is_loop.invariant.covered (levels_are c.args.which without_top _ _ c.uncover.ensures.popped refl)

pub loop-is_loop-preserved : goal.loop-is_loop-preserved
loop-is_loop-preserved c =
    let u = uncovers _ _ _ c.loop-is_loop.invariant.covered (levels_are c.args.which without_top _ _ c.uncover.ensures.popped refl) _ _ (sym c.in-Some.is ∙ c.uncover.ensures.next) in
    let b = held (sheet_at c.args.target c.args.project.now) _ _ c.linked-block.ensures.block in
    let none = none_of _ (sym c.is_some.ensures ∙ c.if-is_some.false) in
    let alike = leave_on _ _ _ u.top c.loop-is_loop.invariant.covered u.left _ _ b.0 c.linked-block.ensures.ranked (u.loop ∙ c.if-is_loop.false) (u.block ∙ c.in-Some-block.is) b.1
    (ap (λ n. on_top (at_next n) (levels_at c.args.which c.uncover.new.self)) (sym none ∙ ap (λ x. x.next) b.2)) in
    record {
      covered = covered _ _ _ u.top u.left alike;
      same = alike.same ∙ c.loop-is_loop.invariant.same;
      fewer = omega (arith, one_fewer _ _ _ c.loop-is_loop.invariant.covered (levels_are c.args.which without_top _ _ c.uncover.ensures.popped refl), c.loop-is_loop.invariant.fewer);
      only = only_then c.args.which _ _ _ c.loop-is_loop.invariant.only (only_on c.args.which without_top _ _ c.uncover.ensures.popped);
    }

pub returns-clause-at : goal.returns-clause-at
returns-clause-at c =
    IsAt-move _ _ _ _ _ Ended (sym c.loop-is_loop.invariant.same) refl
    (uncovers_none _ _ _ c.loop-is_loop.invariant.covered (levels_are c.args.which without_top _ _ c.uncover.ensures.popped refl) (sym c.in_default.is ∙ c.uncover.ensures.next))

pub returns-clause-fewer : goal.returns-clause-fewer
returns-clause-fewer c = omega (arith, one_fewer _ _ _ c.loop-is_loop.invariant.covered (levels_are c.args.which without_top _ _ c.uncover.ensures.popped refl), c.loop-is_loop.invariant.fewer)

pub returns-clause-only : goal.returns-clause-only
returns-clause-only c = only_then c.args.which _ _ _ c.loop-is_loop.invariant.only (only_on c.args.which without_top _ _ c.uncover.ensures.popped)
