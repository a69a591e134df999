-- Helpers of the texts of values: the text in its place.
use Rattle.std.specs.Prelude.{ℕ, List}
use Rattle.operators.specs.declared.value_texts.Place.{Place}
use Rattle.operators.specs.declared.value_texts.Place.TheVariants.{Lent, Digits}

abbrev pub text_in : Place → List ℕ
text_in (Lent t) = t.now
text_in (Digits t) = t
