use Rattle.std.proofs.Common.{[], ◌∷◌, ◌++◌, ◌+◌, ap, sym, ◌∙◌}
use Rattle.std.proofs.Common.{map}
use Rattle.std.specs.List.{range_with_len}
use Rattle.made_texts.specs.MadeProject.{listed, stage, copy}
use Rattle.made_texts.proofs.Appending.{and_then, listed-more}
use Rattle.made_texts.proofs.project.push_targets.Goals as goal

pub loop-earlier-preserved : goal.loop-earlier-preserved
loop-earlier-preserved c =
    let o = c.args.out.now.items in
    let n = c.loop-earlier.earlier in
    and_then o (listed (stage ∷ map copy (range_with_len 1 n))) (44 ∷ copy (n + 1)) c.loop-earlier.out.items c.push_copy.new.out.items c.loop-earlier.invariant
    (and_then c.loop-earlier.out.items (44 ∷ []) (copy (n + 1)) c.push.new.self.items c.push_copy.new.out.items c.in_ok-push.ensures.items c.in_ok-push_copy.ensures)
    ∙ ap (λ s. o ++ s) (sym (listed-more copy 44 stage n))
