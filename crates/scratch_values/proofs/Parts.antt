-- A text stands within another by bytes exactly where its characters do.
use Rattle.std.proofs.Common.{◌≡◌, ◌↔◌, ℕ, ◌≤◌, IsTrue, List, [], ◌∷◌, ◌++◌, length, take, drop, Option, Some, None, is_some, MatchOption, IsUtf8, encode_utf8, encode_utf8_all, refl, sym, ap, ◌∙◌, arith, append_assoc, length-append}
use Rattle.std.proofs.lemmas.List.{take-append-drop}
use Rattle.std.proofs.Math.Seq.{drop-append_seam}
use Rattle.std.proofs.lemmas.Str.{IsUtf8-take, encode_same, encodes-append, length-encode, len_utf8_bounds}
use Rattle.std.specs.Str.Pattern.{FindsText, MatchBeginsAt}
use Rattle.scratch_values.specs.Folding.{HasPart}

-- characters at the front of the bytes of a text are characters at the front of the text
front_is : (cs xs r : List ℕ) → encode_utf8_all xs ≡ encode_utf8_all cs ++ r → (rest : List ℕ) × (xs ≡ cs ++ rest) × (encode_utf8_all rest ≡ r)
front_is [] xs r e = (xs, refl, e)
front_is (c ∷ cs) [] r e =
    absurd (omega (arith, ap length e, length-append (encode_utf8 c) (encode_utf8_all cs), length-append (encode_utf8 c ++ encode_utf8_all cs) r, length-encode c, (len_utf8_bounds c).0))
front_is (c ∷ cs) (x ∷ xs) r e =
    let same = encode_same x c (encode_utf8_all xs) (encode_utf8_all cs ++ r) (e ∙ append_assoc (encode_utf8 c) (encode_utf8_all cs) r) in
    let more = front_is cs xs r same.1 in
    (more.0, ap (λ (y : ℕ). y ∷ xs) same.0 ∙ ap (λ (l : List ℕ). c ∷ l) more.1, more.2)

part_found : (xs ys whole : List ℕ) (i j : ℕ) → encode_utf8_all xs ≡ whole → IsUtf8 (take i whole) → drop i whole ≡ encode_utf8_all ys ++ drop j whole → HasPart xs ys
part_found xs ys whole i j e before split =
    let all : encode_utf8_all xs ≡ encode_utf8_all before.0 ++ (encode_utf8_all ys ++ drop j whole) =
    e ∙ sym (take-append-drop i whole) ∙ ap (λ (l : List ℕ). l ++ drop i whole) (sym before.1.1) ∙ ap (λ (l : List ℕ). encode_utf8_all before.0 ++ l) split in
    let first = front_is before.0 xs (encode_utf8_all ys ++ drop j whole) all in
    let second = front_is ys first.0 (drop j whole) first.2 in
    (before.0, second.0, first.1 ∙ ap (λ (l : List ℕ). before.0 ++ l) second.1)

part_not_found : (xs ys whole : List ℕ) → encode_utf8_all xs ≡ whole → ((i : ℕ) → i ≤ length whole → (rest : List ℕ) → drop i whole ≡ encode_utf8_all ys ++ rest → ⊥) → HasPart xs ys → ⊥
part_not_found xs ys whole e lacks (front, back, is) =
    let bytes : whole ≡ encode_utf8_all front ++ (encode_utf8_all ys ++ encode_utf8_all back) =
    sym e ∙ ap encode_utf8_all is ∙ encodes-append front (ys ++ back) ∙ ap (λ (l : List ℕ). encode_utf8_all front ++ l) (encodes-append ys back) in
    lacks (length (encode_utf8_all front))
    (omega (arith, ap length bytes, length-append (encode_utf8_all front) (encode_utf8_all ys ++ encode_utf8_all back)))
    (encode_utf8_all back)
    (ap (drop (length (encode_utf8_all front))) bytes ∙ drop-append_seam (encode_utf8_all front) _)

-- what a search by bytes tells of the characters
pub part_searched : (xs ys whole part : List ℕ) (r : Option ℕ) → IsUtf8 whole → encode_utf8_all xs ≡ whole → encode_utf8_all ys ≡ part
    → MatchOption r (FindsText part whole None) (MatchBeginsAt (FindsText part) whole) → IsTrue (is_some r) ↔ HasPart xs ys
part_searched xs ys whole part None utf8 e f searched = (
  λ no. cc,
  λ has. absurd (part_not_found xs ys whole e (λ i le rest at. searched i le rest (at ∙ ap (λ (l : List ℕ). l ++ rest) f)) has),
)
part_searched xs ys whole part (Some i) utf8 e f searched = (
  λ _. part_found xs ys whole i searched.0 e (IsUtf8-take whole i utf8 searched.3) (searched.1.1.split ∙ ap (λ (l : List ℕ). l ++ drop searched.0 whole) (sym f)),
  λ _. refl,
)
