-- The block that was found passes the test, or it does not.
use Rattle.std.proofs.Common.{inr, sym, ◌∙◌}
use Rattle.saved_parts.specs.Telling.{kept_of}
use Rattle.saved_levels.specs.Making.{keeps_first}
use Rattle.saved_levels.proofs.Stacked.{kept_is}
use Rattle.saved_levels.proofs.stacks.block_first.Goals as goal

pub returns-then-keeps_first : goal.returns-then-keeps_first
returns-then-keeps_first c = (
  c.in-Some.ensures,
  kept_is (λ k q. keeps_first c.args.clock k q (kept_of c.args.kept.now)) c.args.site.now c.args.floor.now c.args.wanted c.in-Some.id c.in-Some.ensures c.block-block.result.now _ c.block-block.ensures
      (sym c.keeps_first.ensures ∙ c.if-keeps_first.true),
)

pub returns-else-keeps_first : goal.returns-else-keeps_first
returns-else-keeps_first c =
    inr (
      c.in-Some.id,
      c.in-Some.ensures,
      kept_is (λ k q. keeps_first c.args.clock k q (kept_of c.args.kept.now)) c.args.site.now c.args.floor.now c.args.wanted c.in-Some.id c.in-Some.ensures c.block-block.result.now _ c.block-block.ensures
          (sym c.keeps_first.ensures ∙ c.if-keeps_first.false),
    )
