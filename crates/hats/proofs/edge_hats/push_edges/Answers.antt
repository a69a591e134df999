-- A target that is not there has no heads.
use Rattle.std.proofs.Common.{◌++◌, sym, ap, ◌∙◌}
use Rattle.std.proofs.lemmas.List.{append-nil}
use Rattle.hats.specs.Edges.{is_edge, among}
use Rattle.hats.proofs.Rounds.{none_off}
use Rattle.hats.proofs.edge_hats.push_edges.Goals as goal

pub returns-else-is_there : goal.returns-else-is_there
returns-else-is_there c =
    sym (append-nil c.args.edges.now)
    ∙ ap (λ xs. c.args.edges.now ++ among c.args.threads.now xs) (sym (none_off c.args.project.now is_edge c.args.instance.now (sym c.is_there.ensures ∙ c.if-is_there.false)))
