-- The first block is there, or the level is left.
use Rattle.std.proofs.Common.{refl, sym, ◌∙◌}
use Rattle.thread_moves.proofs.InPlace.{only_self}
use Rattle.thread_moves.proofs.Settles.{IsAt-move, opened_first, opened_empty, none_of}
use Rattle.thread_moves.proofs.empty_levels.arrive.Goals as goal

pub returns-then-is_some-clause-at : goal.returns-then-is_some-clause-at
returns-then-is_some-clause-at c = opened_first _ _ _ c.requires (sym c.is_some.ensures ∙ c.if-is_some.true)

pub returns-then-is_some-clause-only : goal.returns-then-is_some-clause-only
returns-then-is_some-clause-only c = only_self c.args.which c.args.threads.now

pub leave-requires : goal.leave-requires
leave-requires c = (opened_empty _ _ _ c.requires (none_of _ (sym c.is_some.ensures ∙ c.if-is_some.false))).0

pub returns-else-is_some-clause-at : goal.returns-else-is_some-clause-at
returns-else-is_some-clause-at c =
    IsAt-move _ _ _ _ _ _ (sym (opened_empty _ _ _ c.requires (none_of _ (sym c.is_some.ensures ∙ c.if-is_some.false))).1) refl c.leave.ensures.at
