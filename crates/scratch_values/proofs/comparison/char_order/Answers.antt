use Rattle.std.proofs.Common.{◌≡◌, refl, sym, ap, ◌∙◌}
use Rattle.std.specs.Ordering.{nat_cmp}
use Rattle.std.specs.Str.Iter.{chars_rest}
use Rattle.std.proofs.lemmas.Str.{Chars-gives}
use Rattle.std.proofs.lemmas.Iterator.Search.{cmp_from_yields_List}
use Rattle.scratch_values.proofs.comparison.char_order.Goals as goal

pub returns : goal.returns
returns c = λ xs ys e f.
    cmp_from_yields_List (λ x y. y ≡ x) _ nat_cmp _ c.cmp.ensures.ran
    (record { runs = Chars-gives xs c.chars.result (e ∙ sym c.chars.ensures.rest) })
    (λ it same. record { runs = Chars-gives ys it (f ∙ sym c.chars-2.ensures.rest ∙ sym (ap chars_rest same)) })
    (λ x y. refl)
