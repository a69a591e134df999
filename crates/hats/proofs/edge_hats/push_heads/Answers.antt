-- No head is left, and the numbers of heads are those of the hats.
use Rattle.std.proofs.Common.{◌++◌, sym, ap, ◌∙◌}
use Rattle.std.specs.Prelude.{flat_map}
use Rattle.std.proofs.lemmas.List.{append-nil, drop_all}
use Rattle.hats.specs.Edges.{is_edge, among}
use Rattle.hats.specs.Rounds.{passing_at}
use Rattle.hats.proofs.Edging.{edge-hats}
use Rattle.hats.proofs.Walks.{pairs_here}
use Rattle.hats.proofs.edge_hats.push_heads.Goals as goal

pub returns : goal.returns
returns c =
    let f = passing_at c.args.project.now is_edge c.args.instance.now in
    let rest = drop_all c.loop-head.head-index c.as_slice-heads.result.now c.loop-head-test.false in
    sym (append-nil c.loop-head.edges)
    ∙ ap (λ ks. c.loop-head.edges ++ among c.args.threads.now (flat_map f ks)) (sym rest)
    ∙ c.loop-head.invariant
    ∙ ap (λ ks. c.args.edges.now ++ among c.args.threads.now (flat_map f ks)) (c.as_slice-heads.ensures ∙ c.heads.ensures)
    ∙ ap (λ xs. c.args.edges.now ++ among c.args.threads.now xs) (sym (pairs_here c.args.project.now is_edge edge-hats c.args.instance.now c.requires))
