-- A folded text has one list of folded characters.
use Rattle.std.proofs.Common.{◌≡◌, ℕ, Bool, true, false, List, [], ◌∷◌, length, encode_utf8, encode_utf8_all, refl, ap, ap₂, arith, length-append}
use Rattle.std.specs.Prelude.{bytes_eq}
use Rattle.std.proofs.lemmas.Slice.Eq.{bytes_eq-Decides}
use Rattle.std.proofs.lemmas.Str.{encode_same, length-encode, len_utf8_bounds}
use Rattle.scratch_values.specs.Folding.{folded_chars}
use Rattle.hat_index.specs.ByIndex.{SameFolded}

encodes_same : (xs ys : List ℕ) → encode_utf8_all xs ≡ encode_utf8_all ys → xs ≡ ys
encodes_same [] [] e = refl
encodes_same [] (y ∷ ys) e =
    absurd (omega (arith, ap length e, length-append (encode_utf8 y) (encode_utf8_all ys), length-encode y, (len_utf8_bounds y).0))
encodes_same (x ∷ xs) [] e =
    absurd (omega (arith, ap length e, length-append (encode_utf8 x) (encode_utf8_all xs), length-encode x, (len_utf8_bounds x).0))
encodes_same (x ∷ xs) (y ∷ ys) e =
    let same = encode_same x y (encode_utf8_all xs) (encode_utf8_all ys) e in
    ap₂ ◌∷◌ same.0 (encodes_same xs ys same.1)

same_list : (xs ys : List ℕ) → bytes_eq xs ys ≡ bytes_eq (encode_utf8_all xs) (encode_utf8_all ys)
same_list xs ys = by (bytes_eq xs ys) (bytes_eq (encode_utf8_all xs) (encode_utf8_all ys)) refl refl
  where
    by : (a b : Bool) → bytes_eq xs ys ≡ a → bytes_eq (encode_utf8_all xs) (encode_utf8_all ys) ≡ b → a ≡ b
    by true true e f = refl
    by false false e f = refl
    by true false e f = cc (f, (bytes_eq-Decides (encode_utf8_all xs) (encode_utf8_all ys)).1 (ap encode_utf8_all ((bytes_eq-Decides xs ys).0 e)))
    by false true e f = cc (e, (bytes_eq-Decides xs ys).1 (encodes_same xs ys ((bytes_eq-Decides (encode_utf8_all xs) (encode_utf8_all ys)).0 f)))

-- a folded text has one list of folded characters
pub folded-same : SameFolded
folded-same a b = same_list (folded_chars a) (folded_chars b)
