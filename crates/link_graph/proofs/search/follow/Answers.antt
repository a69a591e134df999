use Rattle.link_graph.proofs.search.follow.Goals as goal

pub see_all-requires : goal.see_all-requires
see_all-requires c = rw c.links.ensures.links c.requires.each
