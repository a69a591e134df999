-- The top level has come to the next block, or is left.
use Rattle.std.proofs.Common.{◌≡◌, None, sym, ap, ◌∙◌, refl, arith}
use Rattle.machine_spec.specs.Pending.{settle}
use Rattle.thread_frames.specs.Levels.{on_top, at_next, warp_flag}
use Rattle.thread_frames.proofs.Opening.{length-on_top}
use Rattle.thread_moves.specs.Moves.{levels_at}
use Rattle.thread_moves.proofs.InPlace.{levels_are, only_on}
use Rattle.thread_moves.proofs.Moves.{told, next_is, next_covers, cached_is}
use Rattle.thread_moves.proofs.Settles.{IsAt-move, settled_next, none_of}
use Rattle.thread_moves.proofs.level_moves.pass.Goals as goal

pub returns-then-is_some-clause-at : goal.returns-then-is_some-clause-at
returns-then-is_some-clause-at c =
    let b = cached_is _ _ _ c.linked-block.ensures.ranked c.requires _ c.linked-block.ensures.block in
    let is = levels_are c.args.which (on_top (at_next c.linked-block.result.now.next)) _ _ c.go_next.ensures refl in
    let next = next_is _ _ _ c.linked-block.ensures.ranked c.requires _ (is ∙ ap (λ x. on_top (at_next x.next) (levels_at c.args.which c.args.threads.now)) b) in
    told _ _ _ c.linked-block.ensures.ranked c.requires (λ s rest. settle rest (warp_flag (levels_at c.args.which c.args.threads.now))) _ _
    (IsAt-move _ _ _ _ _ _ (sym next.1) refl
    (settled_next _ _ _ _ c.requires.top (is ∙ ap (on_top (at_next c.linked-block.result.now.next)) c.requires.is) next.0 (sym c.is_some.ensures ∙ c.if-is_some.true)))

pub returns-then-is_some-clause-fewer : goal.returns-then-is_some-clause-fewer
returns-then-is_some-clause-fewer c = omega (
  arith,
  ap Rattle.std.proofs.Common.length (levels_are c.args.which (on_top (at_next c.linked-block.result.now.next)) _ _ c.go_next.ensures refl),
  length-on_top (at_next c.linked-block.result.now.next) (levels_at c.args.which c.args.threads.now),
)

pub returns-then-is_some-clause-only : goal.returns-then-is_some-clause-only
returns-then-is_some-clause-only c = only_on c.args.which (on_top (at_next c.linked-block.result.now.next)) _ _ c.go_next.ensures

pub leave-requires : goal.leave-requires
leave-requires c =
    let b = cached_is _ _ _ c.linked-block.ensures.ranked c.requires _ c.linked-block.ensures.block in
    (next_covers _ _ _ c.linked-block.ensures.ranked c.requires (sym (ap (λ x. x.next) b) ∙ none_of _ (sym c.is_some.ensures ∙ c.if-is_some.false))).0

pub returns-else-is_some-clause-at : goal.returns-else-is_some-clause-at
returns-else-is_some-clause-at c =
    let b = cached_is _ _ _ c.linked-block.ensures.ranked c.requires _ c.linked-block.ensures.block in
    let next = next_covers _ _ _ c.linked-block.ensures.ranked c.requires (sym (ap (λ x. x.next) b) ∙ none_of _ (sym c.is_some.ensures ∙ c.if-is_some.false)) in
    told _ _ _ c.linked-block.ensures.ranked c.requires (λ s rest. settle rest (warp_flag (levels_at c.args.which c.args.threads.now))) _ _
    (IsAt-move _ _ _ _ _ _ (sym next.1) refl c.leave.ensures.at)
