-- What follows a part of a UTF-8 text is UTF-8.
use Rattle.std.proofs.Common.{◌≡◌, ℕ, ◌<◌, Bool, true, false, cond, List, [], ◌∷◌, ◌++◌, length, take, drop, get_or, ◌-◌, Ok, None, refl, sym, ap, ◌∙◌, subst, arith}
use Rattle.std.specs.Str.{IsUtf8, IsAscii}
use Rattle.std.proofs.lemmas.Str.{IsUtf8-from_ascii}
use Rattle.std.proofs.lemmas.List.{take_all}
use Rattle.std.proofs.lemmas.Str.Ascii.{IsAscii-nil, IsAscii-cons}
use Rattle.std.proofs.lemmas.Bool.Decides.{nat_tests}
use Rattle.project_json.specs.Tree.{Tree}
use Rattle.project_json.specs.Bytes.{AllTrue, Blanks, is_blank, is_digit}
use Rattle.project_json.specs.Numbers.{IsInt, lone_zero, nonzero_and, is_nonzero_digit, IsDigits, IsFraction, no_fraction, point_and, IsExponent, no_exponent, e_and, e_sign_and, IsUnsigned, IsNumber, unsigned, minus_and, is_e, is_sign}
use Rattle.project_json.specs.Reading.{Utf8, skip, after_byte, chars_at, digits_at, name_at, item_at, member_at, value_at, mark_at, ◌>>=◌}
use Rattle.project_json.specs.Strings.{Piece, Pieces, joined}
use Rattle.project_json.specs.Grammar.{Value, null_here, true_here, false_here, number_here, text_here, no_items_here, items_here, no_members_here, members_here, Spaced, spaced, Items, last_item, more_items, Members, last_member, more_members, Name, name_here}
use Rattle.project_json.proofs.Decoded.{tail_utf8, decoded}
use Rattle.project_json.proofs.Joined.{joined_is}
use Rattle.project_json.proofs.Sound.{blanks, bind_ok, ok_same, word_is, chars_are, number_is, mark_is, name_is, value_is, item_is}

abbrev Small : List ℕ → Type 0
Small [] = Unit {0}
Small (b ∷ bs) = (b < 128) × Small bs

small_append : (xs ys : List ℕ) → Small xs → Small ys → Small (xs ++ ys)
small_append [] ys h g = g
small_append (x ∷ xs) ys h g = (h.0, small_append xs ys h.1 g)

small_all : (p : ℕ → Bool) → ((b : ℕ) → p b ≡ true → b < 128) → (bs : List ℕ) → AllTrue p bs → Small bs
small_all p f [] h = tt
small_all p f (b ∷ bs) h = (f b h.0, small_all p f bs h.1)

small_ascii : (bs : List ℕ) → Small bs → IsAscii bs
small_ascii [] h = IsAscii-nil
small_ascii (b ∷ bs) h = IsAscii-cons b bs h.0 (small_ascii bs h.1)

past_small : (front rest : List ℕ) → Small front → IsUtf8 (front ++ rest) → IsUtf8 rest
past_small [] rest h u = u
past_small (b ∷ front) rest h u = past_small front rest h.1 (tail_utf8 b (front ++ rest) h.0 u)

blank_small : (b : ℕ) → is_blank b ≡ true → b < 128
blank_small b h = grind (arith, nat_tests)

digit_small : (b : ℕ) → is_digit b ≡ true → b < 128
digit_small b h = grind (arith, nat_tests)

power_small : (b : ℕ) → is_e b ≡ true → b < 128
power_small b h = grind (arith, nat_tests)

sign_small : (b : ℕ) → is_sign b ≡ true → b < 128
sign_small b h = grind (arith, nat_tests)

digits_small : (ds : List ℕ) → IsDigits ds → Small ds
digits_small [] h = tt
digits_small (d ∷ ds) h = (digit_small d h.0, small_all is_digit digit_small ds h.1)

nonzero_small : (b : ℕ) → is_nonzero_digit b ≡ true → b < 128
nonzero_small b h = grind (arith, nat_tests)

int_small : {ds : List ℕ} → IsInt ds → Small ds
int_small lone_zero = (omega arith, tt)
int_small (nonzero_and {d} {ds} h all) = (nonzero_small d h, small_all is_digit digit_small ds all)

fraction_small : {f : List ℕ} → IsFraction f → Small f
fraction_small no_fraction = tt
fraction_small (point_and {ds} d) = (omega arith, digits_small ds d)

exponent_small : {e : List ℕ} → IsExponent e → Small e
exponent_small no_exponent = tt
exponent_small (e_and {c} {ds} p d) = (power_small c p, digits_small ds d)
exponent_small (e_sign_and {c} {s} {ds} p q d) = (power_small c p, (sign_small s q, digits_small ds d))

unsigned_small : (ds : List ℕ) → IsUnsigned ds → Small ds
unsigned_small ds s = subst Small (sym s.6) (small_append s.0 (s.1 ++ s.2) (int_small s.3) (small_append s.1 s.2 (fraction_small s.4) (exponent_small s.5)))

number_small : {ds : List ℕ} → IsNumber ds → Small ds
number_small (unsigned {ds} s) = unsigned_small ds s
number_small (minus_and {ds} s) = (omega arith, unsigned_small ds s)

pub number_utf8 : (bs : List ℕ) (n : ℕ) (rest : List ℕ) → digits_at bs ≡ Ok (take n bs, rest) → IsUtf8 (take n bs)
number_utf8 bs n rest h = IsUtf8-from_ascii (take n bs) (small_ascii (take n bs) (number_small (number_is bs (take n bs, rest) h).0))

blanks_utf8 : {old new : List ℕ} → Blanks old new → IsUtf8 old → IsUtf8 new
blanks_utf8 {new = new} g u = past_small g.0 new (small_all is_blank blank_small g.0 g.1) (subst IsUtf8 g.2 u)

pub skip_utf8 : (bs : List ℕ) → IsUtf8 bs → IsUtf8 (skip bs)
skip_utf8 bs u = blanks_utf8 (blanks bs) u

pieces_utf8 : {ps : List Piece} {old new : List ℕ} → Pieces ps old new → IsUtf8 old → IsUtf8 (joined ps) × IsUtf8 new
pieces_utf8 {ps} {old} {new} p u = let d = decoded p None tt [] old tt tt refl u in (subst IsUtf8 (sym (joined_is ps ∙ d.1)) d.2, d.3)

mutual
  value_utf8 : {n : ℕ} {t : Tree} {old new : List ℕ} → Value n t old new → IsUtf8 old → IsUtf8 new
  value_utf8 (null_here {new = new}) u = past_small (110 ∷ 117 ∷ 108 ∷ 108 ∷ []) new (omega arith, (omega arith, (omega arith, (omega arith, tt)))) u
  value_utf8 (true_here {new = new}) u = past_small (116 ∷ 114 ∷ 117 ∷ 101 ∷ []) new (omega arith, (omega arith, (omega arith, (omega arith, tt)))) u
  value_utf8 (false_here {new = new}) u = past_small (102 ∷ 97 ∷ 108 ∷ 115 ∷ 101 ∷ []) new (omega arith, (omega arith, (omega arith, (omega arith, (omega arith, tt))))) u
  value_utf8 (number_here ds {old} {new} w e) u = past_small ds new (number_small w) (subst IsUtf8 e u)
  value_utf8 (text_here ps {old} {new} is e) u = (pieces_utf8 is (tail_utf8 34 old (omega arith) u)).1
  value_utf8 (no_items_here {n} {old} {new} g) u = tail_utf8 93 new (omega arith) (blanks_utf8 g (tail_utf8 91 old (omega arith) u))
  value_utf8 (items_here ts {old} {new} is e) u = items_utf8 is (tail_utf8 91 old (omega arith) u)
  value_utf8 (no_members_here {n} {old} {new} g) u = tail_utf8 125 new (omega arith) (blanks_utf8 g (tail_utf8 123 old (omega arith) u))
  value_utf8 (members_here ms {old} {new} is e) u = members_utf8 is (tail_utf8 123 old (omega arith) u)

  spaced_utf8 : {n : ℕ} {t : Tree} {old new : List ℕ} → Spaced n t old new → IsUtf8 old → IsUtf8 new
  spaced_utf8 (spaced begin end f v g) u = blanks_utf8 g (value_utf8 v (blanks_utf8 f u))

  items_utf8 : {n : ℕ} {ts : List Tree} {old new : List ℕ} → Items n ts old new → IsUtf8 old → IsUtf8 new
  items_utf8 (last_item {new = new} p) u = tail_utf8 93 new (omega arith) (spaced_utf8 p u)
  items_utf8 (more_items mid p is) u = items_utf8 is (tail_utf8 44 mid (omega arith) (spaced_utf8 p u))

  members_utf8 : {n : ℕ} {before ms : List (List ℕ × Tree)} {old new : List ℕ} → Members n before ms old new → IsUtf8 old → IsUtf8 new
  members_utf8 (last_member name t {before} {old} {new} mid a p e) u = tail_utf8 125 new (omega arith) (spaced_utf8 p (name_utf8 a u))
  members_utf8 (more_members name t mid next a p is) u = members_utf8 is (tail_utf8 44 next (omega arith) (spaced_utf8 p (name_utf8 a u)))

  name_utf8 : {name old new : List ℕ} → Name name old new → IsUtf8 old → IsUtf8 new
  name_utf8 (name_here {name} {old} {new} ps begin end f is e g) u = tail_utf8 58 new (omega arith) (blanks_utf8 g (pieces_utf8 is (tail_utf8 34 begin (omega arith) (blanks_utf8 f u))).1)

pub quote_utf8 : (bs rest : List ℕ) → after_byte 34 bs ≡ Ok rest → IsUtf8 bs → IsUtf8 rest
quote_utf8 bs rest h u = tail_utf8 34 rest (omega arith) (subst IsUtf8 (word_is (34 ∷ []) bs rest h) u)

pub chars_utf8 : (bs : List ℕ) (text rest : List ℕ) → chars_at bs ≡ Ok (text, rest) → IsUtf8 bs → IsUtf8 text
chars_utf8 bs text rest h u = let p = chars_are bs (text, rest) h in subst IsUtf8 (sym p.2) (pieces_utf8 p.1 u).0

-- a name behind skipped blanks
pub name_rest : (bs name rest : List ℕ) → name_at (skip bs) ≡ Ok (name, rest) → IsUtf8 bs → IsUtf8 rest
name_rest bs name rest h u = name_utf8 (name_is bs (name, rest) h) u

mark_small : (b : Bool) (close : ℕ) → close < 128 → cond b 44 close < 128
mark_small true close h = omega arith
mark_small false close h = h

pub item_rest : (n : ℕ) (bs : List ℕ) (t : Tree) (b : Bool) (rest : List ℕ) → item_at (value_at n) bs ≡ Ok ((t, b), rest) → IsUtf8 bs → IsUtf8 rest
item_rest n bs t b rest h u = tail_utf8 (cond b 44 93) rest (mark_small b 93 (omega arith)) (spaced_utf8 (item_is n (value_at n) (value_is n) bs ((t, b), rest) h) u)

pub member_rest : (n : ℕ) (bs name : List ℕ) (t : Tree) (b : Bool) (rest : List ℕ) → member_at (value_at n) bs ≡ Ok (((name, t), b), rest) → IsUtf8 bs → IsUtf8 rest
unfolding member_at
member_rest n bs name t more rest h u =
    let a = bind_ok (name_at (skip bs)) (λ x. value_at n (skip x.1) >>= (λ y. mark_at 125 (skip y.1) >>= (λ z. Ok (((x.0, y.0), z.0), z.1)))) _ h in
    let b = bind_ok (value_at n (skip a.0.1)) (λ y. mark_at 125 (skip y.1) >>= (λ z. Ok (((a.0.0, y.0), z.0), z.1))) _ a.2 in
    let c = bind_ok (mark_at 125 (skip b.0.1)) (λ z. Ok (((a.0.0, b.0.0), z.0), z.1)) _ b.2 in
    let same : c.0.1 ≡ rest = ap (λ (y : ((List ℕ × Tree) × Bool) × List ℕ). y.1) (ok_same (((a.0.0, b.0.0), c.0.0), c.0.1) (((name, t), more), rest) c.2) in
    let v = value_utf8 (value_is n (skip a.0.1) b.0 b.1) (skip_utf8 a.0.1 (name_utf8 (name_is bs a.0 a.1) u)) in
    subst IsUtf8 same (tail_utf8 (cond c.0.0 44 125) c.0.1 (mark_small c.0.0 125 (omega arith)) (subst IsUtf8 (mark_is 125 (skip b.0.1) c.0 c.1) (skip_utf8 b.0.1 v)))

pub to_utf8 : (bs : List ℕ) → IsUtf8 bs → Utf8 bs
unfolding Utf8
to_utf8 bs u = u

pub from_utf8 : (bs : List ℕ) → Utf8 bs → IsUtf8 bs
unfolding Utf8
from_utf8 bs u = u

-- behind the first byte
pub drop_past : (bs : List ℕ) → 0 < length bs → get_or bs 0 0 < 128 → Utf8 bs → Utf8 (take (length bs - 1) (drop 1 bs))
unfolding Utf8
drop_past [] h k u = absurd (omega arith)
drop_past (b ∷ bs) h k u = subst IsUtf8 (sym (take_all (length (b ∷ bs) - 1) bs (omega arith))) (tail_utf8 b bs k u)

pub skip_past : (bs rest : List ℕ) → rest ≡ skip bs → Utf8 bs → Utf8 rest
unfolding Utf8
skip_past bs rest e u = subst IsUtf8 (sym e) (skip_utf8 bs u)
