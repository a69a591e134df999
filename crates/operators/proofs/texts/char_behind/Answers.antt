use Rattle.std.proofs.Common.{◌≡◌, Option, None, Some, refl, ◌∙◌, sym}
use Rattle.std.specs.Option.{option_map}
use Rattle.std.proofs.lemmas.Iterator.{YieldsList-from_chars}
use Rattle.std.proofs.lemmas.Iterator.Consumers.{nth_from_yields_List}
use Rattle.operators.proofs.texts.char_behind.Goals as goal

same : {A : Type 0} (o : Option A) → option_map (λ x. x) o ≡ o
same None = refl
same (Some x) = refl

pub returns : goal.returns
returns c = sym (same c.nth.result) ∙ nth_from_yields_List c.nth.result c.nth.new.self c.args.others c.nth.ensures.ran (YieldsList-from_chars c.args.text.now c.utf8.text c.chars.ensures.rest)
