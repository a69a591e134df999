-- The compact text of a plain value is UTF-8 where its texts are.
use Rattle.std.proofs.Common.{◌≡◌, ℕ, suc, ◌^◌, ◌<◌, pos, negsuc, List, [], ◌∷◌, Bool, true, false, decimal, IsUtf8, refl, arith, lt-ltb}
use Rattle.std.proofs.lemmas.Fmt.{decimal_is_IsNumeral}
use Rattle.std.proofs.lemmas.Str.{IsUtf8-append, IsUtf8-nil}
use Rattle.std.specs.Char.{digit_value}
use Rattle.std.specs.Str.Parse.{AllDigits}
use Rattle.json.proofs.Printed.Utf8.{are_ascii, IsUtf8-are_ascii, IsUtf8-quoted, IsUtf8-boolean}
use Rattle.serde_json.specs.Data.{Num, unsigned, negative, float, Data, null, boolean, number, string, array, object, Items, no_items, item, Members, no_members, member}
use Rattle.serde_json.specs.Written.{number_text, comma_if, compact_text, items_text, members_text}
use Rattle.laws_of_json.specs.Plain.{IsWhole, IsPlain, ItemsArePlain, MembersArePlain, HasUtf8, ItemsHaveUtf8, MembersHaveUtf8}

ascii_digits : (ds : List ℕ) → AllDigits 10 ds → are_ascii ds ≡ true
ascii_digits [] h = refl
ascii_digits (d ∷ ds) h =
    let digit : digit_value d < 10 = h.0 in
    let small : d < 128 = grind arith in
    rw (lt-ltb _ _ small) (ascii_digits ds h.1)

ascii_decimal : (n : ℕ) → n < 2 ^ 64 → are_ascii (decimal n) ≡ true
ascii_decimal n h = ascii_digits (decimal n) (decimal_is_IsNumeral n h).0.1

IsUtf8-number_text : (n : Num) → IsWhole n → IsUtf8 (number_text n)
IsUtf8-number_text (unsigned n) h = IsUtf8-are_ascii (decimal n) (ascii_decimal n h)
IsUtf8-number_text (negative (pos n)) h = absurd h
IsUtf8-number_text (negative (negsuc n)) h = IsUtf8-are_ascii (45 ∷ decimal (suc n)) (ascii_decimal (suc n) (omega arith))
IsUtf8-number_text (float x) h = absurd h

-- an ASCII byte in front
behind : (x : ℕ) (rest : List ℕ) → are_ascii (x ∷ []) ≡ true → IsUtf8 rest → IsUtf8 (x ∷ rest)
behind x rest ascii u = IsUtf8-append (x ∷ []) rest (IsUtf8-are_ascii (x ∷ []) ascii) u

IsUtf8-comma_if : (later : Bool) → IsUtf8 (comma_if later)
IsUtf8-comma_if true = IsUtf8-are_ascii (44 ∷ []) refl
IsUtf8-comma_if false = IsUtf8-nil

mutual
  pub IsUtf8-compact_text : (d : Data) → IsPlain d → HasUtf8 d → IsUtf8 (compact_text d)
  IsUtf8-compact_text null h u = IsUtf8-are_ascii _ refl
  IsUtf8-compact_text (boolean b) h u = IsUtf8-boolean b
  IsUtf8-compact_text (number n) h u = IsUtf8-number_text n h
  IsUtf8-compact_text (string s) h u = IsUtf8-quoted s u
  IsUtf8-compact_text (array ds) h u = behind 91 _ refl (IsUtf8-items_text ds false h u)
  IsUtf8-compact_text (object ms) h u = behind 123 _ refl (IsUtf8-members_text ms false h u)

  IsUtf8-items_text : (ds : Items) (later : Bool) → ItemsArePlain ds → ItemsHaveUtf8 ds → IsUtf8 (items_text later ds)
  IsUtf8-items_text no_items later h u = IsUtf8-are_ascii (93 ∷ []) refl
  IsUtf8-items_text (item d ds) later h u =
      IsUtf8-append _ _ (IsUtf8-comma_if later) (IsUtf8-append _ _ (IsUtf8-compact_text d h.0 u.0) (IsUtf8-items_text ds true h.1 u.1))

  IsUtf8-members_text : (ms : Members) (later : Bool) → MembersArePlain ms → MembersHaveUtf8 ms → IsUtf8 (members_text later ms)
  IsUtf8-members_text no_members later h u = IsUtf8-are_ascii (125 ∷ []) refl
  IsUtf8-members_text (member k d ms) later h u =
      let rest = IsUtf8-append _ _ (IsUtf8-compact_text d h.0 u.1) (IsUtf8-members_text ms true h.2 u.2) in
      IsUtf8-append _ _ (IsUtf8-comma_if later) (IsUtf8-append _ _ (IsUtf8-quoted k u.0) (behind 58 _ refl rest))
