-- The block that was found passes the test, or it does not.
use Rattle.std.proofs.Common.{inr, sym, ◌∙◌}
use Rattle.saved_parts.specs.Telling.{kept_of}
use Rattle.saved_levels.specs.Making.{keeps_under}
use Rattle.saved_levels.proofs.Stacked.{kept_is}
use Rattle.saved_levels.proofs.stacks.block_under.Goals as goal

pub returns-then-keeps_under : goal.returns-then-keeps_under
returns-then-keeps_under c = (
  c.in-Some.ensures,
  kept_is (λ k q. keeps_under k q (kept_of c.args.kept.now)) c.args.site.now c.args.floor.now c.args.wanted c.in-Some.id c.in-Some.ensures c.block-block.result.now _ c.block-block.ensures
      (sym c.keeps_under.ensures ∙ c.if-keeps_under.true),
)

pub returns-else-keeps_under : goal.returns-else-keeps_under
returns-else-keeps_under c =
    inr (
      c.in-Some.id,
      c.in-Some.ensures,
      kept_is (λ k q. keeps_under k q (kept_of c.args.kept.now)) c.args.site.now c.args.floor.now c.args.wanted c.in-Some.id c.in-Some.ensures c.block-block.result.now _ c.block-block.ensures
          (sym c.keeps_under.ensures ∙ c.if-keeps_under.false),
    )
