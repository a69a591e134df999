use Rattle.std.proofs.Common.{◌≡◌, IsUtf8, subst, sym, ap, ◌∙◌}
use Rattle.std.proofs.lemmas.Str.{IsUtf8-string_bytes}
use Rattle.scratch_values.specs.Folding.{folded}
use Rattle.scratch_values.proofs.Foldings.{folded-folded}
use Rattle.scratch_values.proofs.folding.fold.Goals as goal

pub returns-clause-again : goal.returns-clause-again
returns-clause-again c =
    let utf8 : IsUtf8 (folded c.args.text.now) = subst IsUtf8 c.in_ok-folded.ensures (IsUtf8-string_bytes c.in_ok-folded.folded) in
    let same : c.from_string.result ≡ folded c.args.text.now = c.from_string.ensures ∙ c.in_ok-folded.ensures in
    ap folded same ∙ folded-folded c.args.text.now utf8 ∙ sym same
