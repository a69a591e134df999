use Rattle.std.specs.Prelude.{bytes_eq}
use Rattle.std.proofs.lemmas.Map.Text.{is_eq-slice_cmp}
use Rattle.std.proofs.lemmas.Bool.Decides.{same_from_decides, Decides-at}
use Rattle.std.proofs.lemmas.Slice.Eq.{bytes_eq-Decides}
use Rattle.scratch_values.specs.Folding.{folded_chars}
use Rattle.operators.proofs.equality.is_same_text.Goals as goal

pub returns : goal.returns
returns c =
    let xs = folded_chars c.args.a.now in
    let ys = folded_chars c.args.b.now in
    same_from_decides _ _ c.default_caseless_match_str.ensures (Decides-at _ (bytes_eq xs ys) (is_eq-slice_cmp xs ys) (bytes_eq-Decides xs ys))
