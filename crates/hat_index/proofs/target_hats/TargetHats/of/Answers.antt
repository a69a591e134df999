use Rattle.std.proofs.Common.{◌++◌, ◌∷◌, [], ◌∙◌, take, ap, sym, subst}
use Rattle.std.proofs.lemmas.List.{take_more}
use Rattle.hat_index.specs.Hats.{hats_in, IsTarget}
use Rattle.hat_index.proofs.Adding.{hats_more}
use Rattle.hat_index.proofs.target_hats.TargetHats.of.Goals as goal

pub loop-head-preserved : goal.loop-head-preserved
loop-head-preserved c =
    subst (IsTarget c.add.new.self)
    (hats_more c.args.blocks.now (take c.loop-head.head-index c.args.heads.now) c.head-item.result
    ∙ ap (λ x. hats_in c.args.blocks.now (take c.loop-head.head-index c.args.heads.now ++ x ∷ [])) c.head-item.is
    ∙ ap (hats_in c.args.blocks.now) (sym (take_more c.args.heads.now c.loop-head.head-index c.head-item.result c.loop-head-test.true)))
    (c.in_ok-add.ensures (hats_in c.args.blocks.now (take c.loop-head.head-index c.args.heads.now)) c.loop-head.invariant)
