-- Worked rows of the definitions.
use Rattle.std.proofs.Common.{◌≡◌, ℕ, zero, suc, ◌<◌, [], ◌∷◌, true, false, take, refl, subst, arith}
use Rattle.std.specs.Prelude.{codes}
use Rattle.std.specs.Char.{encode_utf8}
use Rattle.project_json.specs.Tree.{Tree, null, truth, number, text, list, object, trees_of, fields_of}
use Rattle.project_json.specs.Size.{size_of}
use Rattle.project_json.specs.Strings.{byte, unit, joined}
use Rattle.std.specs.Str.{IsUtf8, is_utf8, chars}
use Rattle.std.proofs.lemmas.Str.{IsUtf8-nil, IsUtf8-from_is_utf8, is_utf8-from_IsUtf8}
use Rattle.project_json.specs.Grammar.{IsJson}
use Rattle.project_json.specs.Refusal.{IsNotUtf8At, IsSyntaxAt, IsTooDeepAt}
use Rattle.project_json.specs.Reading.{syntax, too_deep, value_at, items_at, item_at, members_at, member_at, chars_at, pieces_at, number_at}
use Rattle.project_json.proofs.Sound.{text_is}
use Rattle.project_json.proofs.Places.{syntax_place, deep_place}
use Rattle.project_json.proofs.Results.{no_tree}

-- a repeated name keeps its earlier place and takes the later value
repeated_name : IsJson 1 (codes "{\"a\":1,\"b\":2,\"a\":3}") (object (fields_of ((codes "a", number (codes "3")) ∷ (codes "b", number (codes "2")) ∷ [])))
unfolding value_at members_at member_at chars_at pieces_at number_at
repeated_name = text_is 1 (codes "{\"a\":1,\"b\":2,\"a\":3}") _ refl

-- an escaped name is the name that it stands for
escaped_name : IsJson 1 (codes "{\"a\":1,\"\\u0061\":2}") (object (fields_of ((codes "a", number (codes "2")) ∷ [])))
unfolding value_at members_at member_at chars_at pieces_at number_at encode_utf8
escaped_name = text_is 1 (codes "{\"a\":1,\"\\u0061\":2}") _ refl

blanks_anywhere : IsJson 2 (codes " [ null ,\n[ ]\t, true , \"\" ] ") (list (trees_of (null ∷ list (trees_of []) ∷ truth true ∷ text [] ∷ [])))
unfolding value_at items_at item_at chars_at pieces_at
blanks_anywhere = text_is 2 (codes " [ null ,\n[ ]\t, true , \"\" ] ") _ refl

-- a number keeps its own text
minus_zero : IsJson 0 (codes "-0") (number (codes "-0"))
unfolding value_at number_at
minus_zero = text_is 0 (codes "-0") _ refl

fraction_and_exponent : IsJson 0 (codes "-20.50e+03") (number (codes "-20.50e+03"))
unfolding value_at number_at
fraction_and_exponent = text_is 0 (codes "-20.50e+03") _ refl

-- U+1F600 by its two surrogates
pair_joined : joined (unit 55357 ∷ unit 56832 ∷ []) ≡ 240 ∷ 159 ∷ 152 ∷ 128 ∷ []
unfolding encode_utf8
pair_joined = refl

-- a surrogate without its partner is U+FFFD
high_alone : joined (unit 55357 ∷ byte 120 ∷ []) ≡ 239 ∷ 191 ∷ 189 ∷ 120 ∷ []
unfolding encode_utf8
high_alone = refl

low_then_high : joined (unit 56832 ∷ unit 55357 ∷ []) ≡ 239 ∷ 191 ∷ 189 ∷ 239 ∷ 191 ∷ 189 ∷ []
unfolding encode_utf8
low_then_high = refl

comma_before_the_end : (t : Tree) → IsJson 1 (codes "[1,]") t → ⊥
unfolding value_at items_at item_at number_at
comma_before_the_end t = no_tree 1 (codes "[1,]") (syntax 1) t refl

zero_in_front : (t : Tree) → IsJson 0 (codes "01") t → ⊥
unfolding value_at number_at
zero_in_front t = no_tree 0 (codes "01") (syntax 1) t refl

point_alone : (t : Tree) → IsJson 0 (codes "1.") t → ⊥
unfolding value_at number_at
point_alone t = no_tree 0 (codes "1.") (syntax 0) t refl

minus_alone : (t : Tree) → IsJson 0 (codes "-") t → ⊥
unfolding value_at number_at
minus_alone t = no_tree 0 (codes "-") (syntax 0) t refl

vertical_tab : (t : Tree) → IsJson 0 (11 ∷ codes "1") t → ⊥
unfolding value_at number_at
vertical_tab t = no_tree 0 (11 ∷ codes "1") (syntax 2) t refl

nested_once_too_deep : (t : Tree) → IsJson 1 (codes "[[]]") t → ⊥
unfolding value_at items_at item_at
nested_once_too_deep t = no_tree 1 (codes "[[]]") (too_deep 3) t refl

-- the faults and their places

empty_text : IsSyntaxAt 256 [] 0
unfolding value_at
empty_text = (syntax_place 256 [] 0 IsUtf8-nil refl).1

comma_place : IsSyntaxAt 1 (codes "[1,]") 3
unfolding value_at items_at item_at number_at is_utf8 chars encode_utf8
comma_place = (syntax_place 1 (codes "[1,]") 1 (IsUtf8-from_is_utf8 (codes "[1,]") refl) refl).1

escape_place : IsSyntaxAt 0 (codes "\"\\u12G4\"") 5
unfolding value_at chars_at pieces_at is_utf8 chars encode_utf8
escape_place = (syntax_place 0 (codes "\"\\u12G4\"") 3 (IsUtf8-from_is_utf8 (codes "\"\\u12G4\"") refl) refl).1

bracket_place : IsTooDeepAt 1 (codes "[[]]") 1
unfolding value_at items_at item_at is_utf8 chars encode_utf8
bracket_place = (deep_place 1 (codes "[[]]") 3 (IsUtf8-from_is_utf8 (codes "[[]]") refl) refl).1

-- a character in more bytes than it needs, behind a quotation mark

take_none : (m : ℕ) → take {A = ℕ} m [] ≡ []
take_none zero = refl
take_none (suc m) = refl

overlong_short : IsUtf8 (34 ∷ 192 ∷ []) → ⊥
unfolding is_utf8 chars encode_utf8
overlong_short u = let e : false ≡ true = is_utf8-from_IsUtf8 (34 ∷ 192 ∷ []) u in cc

overlong_cut : IsUtf8 (34 ∷ 192 ∷ 128 ∷ []) → ⊥
unfolding is_utf8 chars encode_utf8
overlong_cut u = let e : false ≡ true = is_utf8-from_IsUtf8 (34 ∷ 192 ∷ 128 ∷ []) u in cc

overlong_whole : IsUtf8 (34 ∷ 192 ∷ 128 ∷ 34 ∷ []) → ⊥
unfolding is_utf8 chars encode_utf8
overlong_whole u = let e : false ≡ true = is_utf8-from_IsUtf8 (34 ∷ 192 ∷ 128 ∷ 34 ∷ []) u in cc

overlong_longer : (m : ℕ) → 1 < m → IsUtf8 (take m (34 ∷ 192 ∷ 128 ∷ 34 ∷ [])) → ⊥
overlong_longer zero lt u = absurd (omega arith)
overlong_longer (suc zero) lt u = absurd (omega arith)
overlong_longer (suc (suc zero)) lt u = overlong_short u
overlong_longer (suc (suc (suc zero))) lt u = overlong_cut u
overlong_longer (suc (suc (suc (suc m)))) lt u = overlong_whole (subst (λ xs. IsUtf8 (34 ∷ 192 ∷ 128 ∷ 34 ∷ xs)) (take_none m) u)

quotation_mark : IsUtf8 (34 ∷ [])
unfolding is_utf8 chars encode_utf8
quotation_mark = IsUtf8-from_is_utf8 (34 ∷ []) refl

overlong_place : IsNotUtf8At (34 ∷ 192 ∷ 128 ∷ 34 ∷ []) 1
overlong_place = record {
  ill_formed = overlong_whole;
  valid = record { short = omega arith; front = quotation_mark; longest = overlong_longer };
}

members_and_items : size_of (object (fields_of ((codes "a", list (trees_of (null ∷ null ∷ []))) ∷ (codes "b", null) ∷ []))) ≡ 4
members_and_items = refl
