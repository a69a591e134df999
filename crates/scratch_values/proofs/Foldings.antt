-- A folded text stays as it is when it is folded again.
use Rattle.std.proofs.Common.{◌≡◌, ℕ, true, List, [], ◌∷◌, length, chars, encode_utf8, encode_utf8_all, IsUtf8, refl, ap, ap₂, ◌∙◌, subst, arith, length-append}
use Rattle.std.specs.Str.{all_scalars}
use Rattle.std.proofs.lemmas.Str.{chars-encodes, encode_same, length-encode, len_utf8_bounds}
use Rattle.caseless.specs.Caseless.{default_case_fold}
use Rattle.caseless.proofs.CaselessLemmas.{default_case_fold_idem}
use Rattle.scratch_values.specs.Folding.{folded, folded_chars}

-- the bytes of a text tell its characters
encodes_same : (xs ys : List ℕ) → encode_utf8_all xs ≡ encode_utf8_all ys → xs ≡ ys
encodes_same [] [] e = refl
encodes_same [] (y ∷ ys) e =
    absurd (omega (arith, ap length e, length-append (encode_utf8 y) (encode_utf8_all ys), length-encode y, (len_utf8_bounds y).0))
encodes_same (x ∷ xs) [] e =
    absurd (omega (arith, ap length e, length-append (encode_utf8 x) (encode_utf8_all xs), length-encode x, (len_utf8_bounds x).0))
encodes_same (x ∷ xs) (y ∷ ys) e =
    let same = encode_same x y (encode_utf8_all xs) (encode_utf8_all ys) e in
    ap₂ ◌∷◌ same.0 (encodes_same xs ys same.1)

chars-encodes_text : (cs : List ℕ) → IsUtf8 (encode_utf8_all cs) → chars (encode_utf8_all cs) ≡ cs
chars-encodes_text cs text =
    chars-encodes cs (subst (λ (l : List ℕ). all_scalars l ≡ true) (encodes_same text.0 cs text.1.1) text.1.0)

-- a folded text is itself folded
pub folded-folded : (bs : List ℕ) → IsUtf8 (folded bs) → folded (folded bs) ≡ folded bs
folded-folded bs text =
    ap encode_utf8_all (ap default_case_fold (chars-encodes_text (folded_chars bs) text) ∙ default_case_fold_idem (chars bs))
