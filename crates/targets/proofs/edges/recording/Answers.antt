use Rattle.std.proofs.Common.{◌≡◌, ℕ, List, Bool, None, sym, ap, ◌∙◌}
use Rattle.std.specs.Prelude.{nat_le}
use Rattle.std.specs.List.{position}
use Rattle.std.proofs.lemmas.Result.{on_ok_weaker}
use Rattle.targets.proofs.Recording.{with_edge-push}
use Rattle.targets.proofs.edges.recording.Goals as goal

pub returns-in-None-clause-ok : goal.returns-in-None-clause-ok
returns-in-None-clause-ok c =
    let none : position (λ (x : ℕ × Bool). nat_le c.args.hat x.0) c.args.edges ≡ None =
    ap (λ (l : List (ℕ × Bool)). position (λ (x : ℕ × Bool). nat_le c.args.hat x.0) l) (sym c.as_slice.ensures) ∙ sym c.place.ensures ∙ c.in-None.is in
    on_ok_weaker c.push-pushed.result (λ e. e ∙ sym (with_edge-push c.args.hat c.args.value c.args.edges none)) c.push-pushed.ensures.ok
