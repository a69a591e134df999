use Rattle.std.proofs.Common.{◌≡◌, ℕ, List, Bool, false, true, get_or, set, sym, ap, ◌∙◌}
use Rattle.std.specs.Prelude.{◌==◌}
use Rattle.std.specs.List.{insert}
use Rattle.std.proofs.lemmas.Result.{on_ok_weaker}
use Rattle.targets.proofs.Recording.{with_edge-over, with_edge-before}
use Rattle.targets.proofs.edges.recording_at.Goals as goal

pub returns-then-eq-clause-ok : goal.returns-then-eq-clause-ok
returns-then-eq-clause-ok c =
    let same : ((get_or c.args.edges c.args.place c.index.result.now).0 == c.args.hat) ≡ true =
    ap (λ (l : List (ℕ × Bool)). (get_or l c.args.place c.index.result.now).0 == c.args.hat) (sym c.into_vec-edges.ensures)
    ∙ ap (λ (x : ℕ × Bool). x.0 == c.args.hat) (sym c.index.ensures) ∙ sym c.eq.ensures ∙ c.if-eq.true in
    c.from_vec.ensures
    ∙ ap (λ (l : List (ℕ × Bool)). set l c.args.place (c.args.hat, c.args.value)) c.into_vec-edges.ensures
    ∙ sym (with_edge-over c.args.hat c.args.value c.args.edges c.args.place c.index.result.now c.requires same)

pub returns-clause-ok : goal.returns-clause-ok
returns-clause-ok c =
    let other : ((get_or c.args.edges c.args.place c.index.result.now).0 == c.args.hat) ≡ false =
    ap (λ (l : List (ℕ × Bool)). (get_or l c.args.place c.index.result.now).0 == c.args.hat) (sym c.into_vec-edges.ensures)
    ∙ ap (λ (x : ℕ × Bool). x.0 == c.args.hat) (sym c.index.ensures) ∙ sym c.eq.ensures ∙ c.if-eq.false in
    on_ok_weaker c.put_in-put.result
    (λ e. c.from_vec-2.ensures ∙ e
    ∙ ap (λ (l : List (ℕ × Bool)). insert l c.args.place (c.args.hat, c.args.value)) c.into_vec-edges.ensures
    ∙ sym (with_edge-before c.args.hat c.args.value c.args.edges c.args.place c.index.result.now c.requires other))
    c.put_in-put.ensures.ok
