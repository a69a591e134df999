use Rattle.std.proofs.Common.{length, false, ap, arith}
use Rattle.std.proofs.lemmas.List.{length-replicate}
use Rattle.link_graph.proofs.Searches.{search_begins}
use Rattle.link_graph.proofs.search.begin.Goals as goal

pub see_all-requires : goal.see_all-requires
see_all-requires c = λ k d lt.
    let h = c.requires k d lt in
    let n = c.len-blocks.ensures.len in
    let e = ap length (c.in_ok-seen.ensures.items_if_clones_equal (λ y h. h)) in
    let l = length-replicate c.len-blocks.result false in
    omega arith

pub returns : goal.returns
returns c =
    let e = c.in_ok-seen.ensures.items_if_clones_equal (λ y h. h) in
    search_begins c.args.graph.now c.args.starts.now c.len-blocks.result _ _ c.len-blocks.ensures.graph c.len-blocks.ensures.len (rw (e, c.new.ensures.items) at c.in_ok-see_all.ensures)
