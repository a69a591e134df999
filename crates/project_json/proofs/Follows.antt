-- The reader follows the machine.
use Rattle.std.proofs.Common.{◌≡◌, ℕ, zero, suc, ◌+◌, ◌<◌, ◌≤◌, Bool, true, false, cond, List, [], ◌∷◌, ◌++◌, length, Option, None, Some, Result, Ok, Err, refl, sym, ap, ◌∙◌, arith}
use Rattle.std.specs.Prelude.{◌==◌, nat_lt, codes}
use Rattle.std.proofs.lemmas.Bool.Decides.{nat_tests}
use Rattle.project_json.specs.Tree.{Tree, null, truth, number, text, list, object, trees_of, fields_of}
use Rattle.project_json.specs.Bytes.{is_blank, is_digit}
use Rattle.project_json.specs.Numbers.{is_nonzero_digit, is_e, is_sign}
use Rattle.project_json.specs.Strings.{is_unescaped, is_hex, is_escape, escaped, Piece, byte, unit, unit_of, joined}
use Rattle.project_json.specs.Grammar.{put}
use Rattle.project_json.specs.Reading.{Fault, syntax, Read, ◌>>=◌, skip, after_word, after_byte, digits, after_digits, int_at, with_front, some_digits_at, fraction_at, signed_digits_at, exponent_at, unsigned_at, digits_at, number_at, hex_at, unit_at, escape_at, piece_at, pieces_then, pieces_at, chars_at, value_with, mark_at, item_at, with_items, items_then, items_at, list_of, list_at, name_at, member_at, members_then, members_at, object_of, object_at, too_deep_at, value_at, end_of, text_of}
use Rattle.project_json.proofs.Sound.{bind_ok, ok_same, PieceIs, piece_is, name_is, mark_is, value_is, item_is}
use Rattle.project_json.proofs.Complete.{skip-le}
use Rattle.project_json.proofs.Sizes.{piece-lt, spaced-le, value-le, name-le}
use Rattle.project_json.proofs.Machine.{Frame, in_list, in_object, Mode, want, first_item, first_name, next_name, string, escape, hex, colon, minus, ones, no_ones, point, fraction, power, power_sign, exponent, word, after, Move, goes, stops, deep, closer, again, behind, after_step, open_step, number_step, power_step, point_step, digit_step, value_step, hex_next, name_step, step, Verdict, go_on, is_done, ends, fate}

-- two readings in a row, grouped the other way
bind_bind : {A B C : Type 0} (r : Result A Fault) (f : A → Result B Fault) (g : B → Result C Fault) → (r >>= f) >>= g ≡ r >>= (λ x. f x >>= g)
bind_bind (Ok x) f g = refl
bind_bind (Err e) f g = refl

-- what follows need agree only where the reading goes well
bind_same : {A B : Type 0} (r : Result A Fault) (f g : A → Result B Fault) → ((x : A) → r ≡ Ok x → f x ≡ g x) → r >>= f ≡ r >>= g
bind_same (Ok x) f g h = h x refl
bind_same (Err e) f g h = refl

-- a choice by one test, on both sides
both : {A : Type 0} (t : Bool) (x y : Move) (r s : Result A Fault) (f : Mode → List Frame → Verdict) (left : ℕ) (k : A → Verdict) → go_on x f left ≡ r >>= k → go_on y f left ≡ s >>= k → go_on (cond t x y) f left ≡ cond t r s >>= k
both true x y r s f left k h g = h
both false x y r s f left k h g = g

skip_over : (n : ℕ) (m : Mode) (fs : List Frame) → ((b : ℕ) → is_blank b ≡ true → step n m fs b ≡ goes m fs) → (bs : List ℕ) → fate n bs m fs ≡ fate n (skip bs) m fs
skip_over n m fs same [] = refl
skip_over n m fs same (b ∷ bs) =
    elim (is_blank b) as (λ t. is_blank b ≡ t → fate n (b ∷ bs) m fs ≡ fate n (cond t (skip bs) (b ∷ bs)) m fs) [
      | true ↦ λ e. ap (λ s. go_on s (fate n bs) (length (b ∷ bs))) (same b e) ∙ skip_over n m fs same bs
      | false ↦ λ e. refl
    ] refl

after_blank : (fs : List Frame) (b : ℕ) → is_blank b ≡ true → after_step fs b ≡ goes after fs
after_blank [] b e = ap (λ t. cond t (goes after []) stops) e
after_blank (f ∷ fs) b e = ap (λ t. cond t (goes after (f ∷ fs)) (cond (b == 44) (goes (again f) (f ∷ fs)) (cond (b == closer f) (goes after fs) stops))) e

-- begins with no blank
abbrev NoBlank : List ℕ → Type 0
NoBlank [] = Unit {0}
NoBlank (b ∷ bs) = is_blank b ≡ false

skipped : (bs : List ℕ) → NoBlank (skip bs)
skipped [] = tt
skipped (b ∷ bs) = elim (is_blank b) as (λ t. is_blank b ≡ t → NoBlank (cond t (skip bs) (b ∷ bs))) [ true ↦ λ e. skipped bs | false ↦ λ e. e ] refl

word_law : (n : ℕ) (fs : List Frame) (ws bs : List ℕ) → fate n bs (word ws) fs ≡ after_word ws bs >>= (λ rest. fate n rest after fs)
word_law n [] [] [] = refl
word_law n (f ∷ fs) [] [] = refl
word_law n fs [] (b ∷ bs) = refl
word_law n [] (w ∷ ws) [] = refl
word_law n (f ∷ fs) (w ∷ ws) [] = refl
word_law n fs (w ∷ ws) (b ∷ bs) =
    elim (b == w) as (λ t. go_on (cond t (goes (word ws) fs) stops) (fate n bs) (length (b ∷ bs)) ≡ cond t (after_word ws bs) (Err (syntax (length (b ∷ bs)))) >>= (λ rest. fate n rest after fs)) [
      | true ↦ word_law n fs ws bs
      | false ↦ refl
    ]

hex_law : (n : ℕ) (k : Bool) (j : ℕ) (fs : List Frame) (bs : List ℕ) → fate n bs (hex k j) fs ≡ hex_at bs >>= (λ x. fate n x.1 (hex_next k j) fs)
hex_law n k j [] [] = refl
hex_law n k j (f ∷ fs) [] = refl
hex_law n k j fs (b ∷ bs) = both (is_hex b) (goes (hex_next k j) fs) stops (Ok (b, bs)) (Err (syntax (length (b ∷ bs)))) (fate n bs) (length (b ∷ bs)) (λ x. fate n x.1 (hex_next k j) fs) refl refl

unit_law : (n : ℕ) (k : Bool) (fs : List Frame) (bs : List ℕ) → fate n bs (hex k 3) fs ≡ unit_at bs >>= (λ x. fate n x.1 (string k) fs)
unit_law n k fs bs =
    let end : Piece × List ℕ → Verdict = λ x. fate n x.1 (string k) fs in
    let g4 : ℕ → ℕ → ℕ → ℕ × List ℕ → Read Piece = λ a. λ b. λ c. λ d. Ok (unit (unit_of a b c d.0), d.1) in
    let g3 : ℕ → ℕ → ℕ × List ℕ → Read Piece = λ a. λ b. λ c. hex_at c.1 >>= g4 a b c.0 in
    let g2 : ℕ → ℕ × List ℕ → Read Piece = λ a. λ b. hex_at b.1 >>= g3 a b.0 in
    let g1 : ℕ × List ℕ → Read Piece = λ a. hex_at a.1 >>= g2 a.0 in
    hex_law n k 3 fs bs
    ∙ bind_same (hex_at bs) (λ x. fate n x.1 (hex k 2) fs) (λ a. g1 a >>= end)
    (λ a h. hex_law n k 2 fs a.1
    ∙ bind_same (hex_at a.1) (λ x. fate n x.1 (hex k 1) fs) (λ b. g2 a.0 b >>= end)
    (λ b h. hex_law n k 1 fs b.1
    ∙ bind_same (hex_at b.1) (λ x. fate n x.1 (hex k 0) fs) (λ c. g3 a.0 b.0 c >>= end)
    (λ c h. hex_law n k 0 fs c.1 ∙ sym (bind_bind (hex_at c.1) (g4 a.0 b.0 c.0) end))
    ∙ sym (bind_bind (hex_at b.1) (g3 a.0 b.0) end))
    ∙ sym (bind_bind (hex_at a.1) (g2 a.0) end))
    ∙ sym (bind_bind (hex_at bs) g1 end)

escape_law : (n : ℕ) (k : Bool) (fs : List Frame) (bs : List ℕ) → fate n bs (escape k) fs ≡ escape_at bs >>= (λ x. fate n x.1 (string k) fs)
escape_law n k [] [] = refl
escape_law n k (f ∷ fs) [] = refl
escape_law n k fs (b ∷ bs) =
    let end : Piece × List ℕ → Verdict = λ x. fate n x.1 (string k) fs in
    both (b == 117) (goes (hex k 3) fs) (cond (is_escape b) (goes (string k) fs) stops) (unit_at bs) (cond (is_escape b) (Ok (byte (escaped b), bs)) (Err (syntax (length (b ∷ bs))))) (fate n bs) (length (b ∷ bs)) end
    (unit_law n k fs bs)
    (both (is_escape b) (goes (string k) fs) stops (Ok (byte (escaped b), bs)) (Err (syntax (length (b ∷ bs)))) (fate n bs) (length (b ∷ bs)) end refl refl)

-- what a piece, or the quote, leads to
abbrev on_piece : ℕ → Bool → List Frame → Option Piece → List ℕ → Verdict
on_piece n k fs None bs = fate n bs (behind k) fs
on_piece n k fs (Some p) bs = fate n bs (string k) fs

piece_law : (n : ℕ) (k : Bool) (fs : List Frame) (bs : List ℕ) → fate n bs (string k) fs ≡ piece_at bs >>= (λ x. on_piece n k fs x.0 x.1)
piece_law n k [] [] = refl
piece_law n k (f ∷ fs) [] = refl
piece_law n k fs (b ∷ bs) =
    let end : Option Piece × List ℕ → Verdict = λ x. on_piece n k fs x.0 x.1 in
    let plain : Read (Option Piece) = cond (is_unescaped b) (Ok (Some (byte b), bs)) (Err (syntax (length (b ∷ bs)))) in
    both (b == 34) (goes (behind k) fs) (cond (b == 92) (goes (escape k) fs) (cond (is_unescaped b) (goes (string k) fs) stops)) (Ok (None, bs)) (cond (b == 92) (escape_at bs >>= (λ x. Ok (Some x.0, x.1))) plain) (fate n bs) (length (b ∷ bs)) end
    refl
    (both (b == 92) (goes (escape k) fs) (cond (is_unescaped b) (goes (string k) fs) stops) (escape_at bs >>= (λ x. Ok (Some x.0, x.1))) plain (fate n bs) (length (b ∷ bs)) end
    (escape_law n k fs bs ∙ sym (bind_bind (escape_at bs) (λ x. Ok (Some x.0, x.1)) end))
    (both (is_unescaped b) (goes (string k) fs) stops (Ok (Some (byte b), bs)) (Err (syntax (length (b ∷ bs)))) (fate n bs) (length (b ∷ bs)) end refl refl))

piece_shorter : (bs : List ℕ) (o : Option Piece) (new : List ℕ) → PieceIs o bs new → length new < length bs
piece_shorter bs None new h = let e = ap length h in omega (arith, e)
piece_shorter bs (Some p) new h = piece-lt h

pieces_law : (n : ℕ) (k : Bool) (fs : List Frame) (j : ℕ) (bs : List ℕ) → length bs ≤ j → fate n bs (string k) fs ≡ pieces_at j bs >>= (λ x. fate n x.1 (behind k) fs)
unfolding pieces_at
pieces_law n k [] zero [] h = refl
pieces_law n k (f ∷ fs) zero [] h = refl
pieces_law n k fs zero (b ∷ bs) h = absurd (omega arith)
pieces_law n k fs (suc j) bs h =
    let end : List Piece × List ℕ → Verdict = λ x. fate n x.1 (behind k) fs in
    piece_law n k fs bs
    ∙ bind_same (piece_at bs) (λ x. on_piece n k fs x.0 x.1) (λ x. pieces_then (pieces_at j) x.0 x.1 >>= end)
    (λ x g.
    let short = piece_shorter bs x.0 x.1 (piece_is bs x g) in
    elim x.0 as (λ o. on_piece n k fs o x.1 ≡ pieces_then (pieces_at j) o x.1 >>= end) [
      | None ↦ refl
      | Some p ↦ pieces_law n k fs j x.1 (omega arith) ∙ sym (bind_bind (pieces_at j x.1) (λ x. Ok (p ∷ x.0, x.1)) end)
    ])
    ∙ sym (bind_bind (piece_at bs) (λ x. pieces_then (pieces_at j) x.0 x.1) end)

chars_law : (n : ℕ) (k : Bool) (fs : List Frame) (bs : List ℕ) → fate n bs (string k) fs ≡ chars_at bs >>= (λ x. fate n x.1 (behind k) fs)
unfolding chars_at
chars_law n k fs bs = pieces_law n k fs (length bs) bs (omega arith) ∙ sym (bind_bind (pieces_at (length bs) bs) (λ x. Ok (joined x.0, x.1)) (λ x. fate n x.1 (behind k) fs))

-- in a number that may end here
abbrev ending : ℕ → List Frame → (ℕ → Move) → List ℕ → Verdict
ending n fs move [] = ends after fs
ending n fs move (b ∷ bs) = go_on (move b) (fate n bs) (length (b ∷ bs))

after_ending : (n : ℕ) (fs : List Frame) (bs : List ℕ) → ending n fs (after_step fs) bs ≡ fate n bs after fs
after_ending n fs [] = refl
after_ending n fs (b ∷ bs) = refl

-- digits go on, and then another move is made
digits_law : (n : ℕ) (m : Mode) (fs : List Frame) (move : ℕ → Move) → ends m fs ≡ ends after fs → ((b : ℕ) → step n m fs b ≡ cond (is_digit b) (goes m fs) (move b)) → (bs : List ℕ) → fate n bs m fs ≡ ending n fs move (after_digits bs)
digits_law n m fs move e same [] = e
digits_law n m fs move e same (b ∷ bs) =
    ap (λ s. go_on s (fate n bs) (length (b ∷ bs))) (same b)
    ∙ elim (is_digit b) as (λ t. go_on (cond t (goes m fs) (move b)) (fate n bs) (length (b ∷ bs)) ≡ ending n fs move (cond t (after_digits bs) (b ∷ bs))) [
      | true ↦ digits_law n m fs move e same bs
      | false ↦ refl
    ]

-- where a digit must come
abbrev digit_fate : ℕ → Mode → List Frame → List ℕ → Verdict
digit_fate n m fs [] = Err (syntax 0)
digit_fate n m fs (b ∷ bs) = go_on (digit_step m fs b) (fate n bs) (length (b ∷ bs))

some_law : (n : ℕ) (m : Mode) (fs : List Frame) (move : ℕ → Move) → ((bs : List ℕ) → fate n bs m fs ≡ ending n fs move (after_digits bs)) → (bs : List ℕ) → digit_fate n m fs bs ≡ some_digits_at bs >>= (λ x. ending n fs move x.1)
some_law n m fs move law [] = refl
some_law n m fs move law (b ∷ bs) = both (is_digit b) (goes m fs) stops (Ok (b ∷ digits bs, after_digits bs)) (Err (syntax (length (b ∷ bs)))) (fate n bs) (length (b ∷ bs)) (λ x. ending n fs move x.1) (law bs) refl

done_same : (m : Mode) (fs : List Frame) → is_done m ≡ true → ends m fs ≡ ends after fs
done_same m [] h = ap (λ t. cond t (Ok tt) (Err (syntax 0))) h
done_same m (f ∷ fs) h = refl

open_same : (m : Mode) (fs : List Frame) → is_done m ≡ false → ends m fs ≡ Err (syntax 0)
open_same m [] h = ap (λ t. cond t (Ok tt) (Err (syntax 0))) h
open_same m (f ∷ fs) h = refl

exponent_digits : (n : ℕ) (fs : List Frame) (bs : List ℕ) → digit_fate n exponent fs bs ≡ some_digits_at bs >>= (λ x. fate n x.1 after fs)
exponent_digits n fs bs =
    some_law n exponent fs (after_step fs) (digits_law n exponent fs (after_step fs) (done_same exponent fs refl) (λ b. refl)) bs
    ∙ bind_same (some_digits_at bs) (λ x. ending n fs (after_step fs) x.1) (λ x. fate n x.1 after fs) (λ x h. after_ending n fs x.1)

sign_law : (n : ℕ) (fs : List Frame) (bs : List ℕ) → fate n bs power_sign fs ≡ digit_fate n exponent fs bs
sign_law n fs [] = open_same power_sign fs refl
sign_law n fs (b ∷ bs) = refl

power_law : (n : ℕ) (fs : List Frame) (bs : List ℕ) → fate n bs power fs ≡ signed_digits_at bs >>= (λ x. fate n x.1 after fs)
power_law n fs [] = open_same power fs refl
power_law n fs (b ∷ bs) =
    let end : List ℕ × List ℕ → Verdict = λ x. fate n x.1 after fs in
    both (is_sign b) (goes power_sign fs) (digit_step exponent fs b) (with_front (b ∷ []) (some_digits_at bs)) (some_digits_at (b ∷ bs)) (fate n bs) (length (b ∷ bs)) end
    (sign_law n fs bs ∙ exponent_digits n fs bs ∙ sym (bind_bind (some_digits_at bs) (λ x. Ok (b ∷ x.0, x.1)) end))
    (exponent_digits n fs (b ∷ bs))

exponent_law : (n : ℕ) (fs : List Frame) (bs : List ℕ) → ending n fs (power_step fs) bs ≡ exponent_at bs >>= (λ x. fate n x.1 after fs)
exponent_law n fs [] = refl
exponent_law n fs (b ∷ bs) =
    let end : List ℕ × List ℕ → Verdict = λ x. fate n x.1 after fs in
    both (is_e b) (goes power fs) (after_step fs b) (with_front (b ∷ []) (signed_digits_at bs)) (Ok ([], b ∷ bs)) (fate n bs) (length (b ∷ bs)) end
    (power_law n fs bs ∙ sym (bind_bind (signed_digits_at bs) (λ x. Ok (b ∷ x.0, x.1)) end))
    refl

point_law : (n : ℕ) (fs : List Frame) (bs : List ℕ) → fate n bs point fs ≡ some_digits_at bs >>= (λ x. ending n fs (power_step fs) x.1)
point_law n fs [] = open_same point fs refl
point_law n fs (b ∷ bs) = some_law n fraction fs (power_step fs) (digits_law n fraction fs (power_step fs) (done_same fraction fs refl) (λ b. refl)) (b ∷ bs)

fraction_law : (n : ℕ) (fs : List Frame) (bs : List ℕ) → ending n fs (point_step fs) bs ≡ fraction_at bs >>= (λ x. ending n fs (power_step fs) x.1)
fraction_law n fs [] = refl
fraction_law n fs (b ∷ bs) =
    let end : List ℕ × List ℕ → Verdict = λ x. ending n fs (power_step fs) x.1 in
    both (b == 46) (goes point fs) (power_step fs b) (with_front (46 ∷ []) (some_digits_at bs)) (Ok ([], b ∷ bs)) (fate n bs) (length (b ∷ bs)) end
    (point_law n fs bs ∙ sym (bind_bind (some_digits_at bs) (λ x. Ok (46 ∷ x.0, x.1)) end))
    refl

no_ones_law : (n : ℕ) (fs : List Frame) (bs : List ℕ) → fate n bs no_ones fs ≡ ending n fs (point_step fs) bs
no_ones_law n fs [] = done_same no_ones fs refl
no_ones_law n fs (b ∷ bs) = refl

-- where a number without a sign must come
abbrev number_fate : ℕ → List Frame → List ℕ → Verdict
number_fate n fs [] = Err (syntax 0)
number_fate n fs (b ∷ bs) = go_on (number_step fs b) (fate n bs) (length (b ∷ bs))

int_law : (n : ℕ) (fs : List Frame) (bs : List ℕ) → number_fate n fs bs ≡ int_at bs >>= (λ x. ending n fs (point_step fs) x.1)
int_law n fs [] = refl
int_law n fs (b ∷ bs) =
    let end : List ℕ × List ℕ → Verdict = λ x. ending n fs (point_step fs) x.1 in
    both (b == 48) (goes no_ones fs) (cond (is_nonzero_digit b) (goes ones fs) stops) (Ok (48 ∷ [], bs)) (cond (is_nonzero_digit b) (Ok (b ∷ digits bs, after_digits bs)) (Err (syntax (length (b ∷ bs))))) (fate n bs) (length (b ∷ bs)) end
    (no_ones_law n fs bs)
    (both (is_nonzero_digit b) (goes ones fs) stops (Ok (b ∷ digits bs, after_digits bs)) (Err (syntax (length (b ∷ bs)))) (fate n bs) (length (b ∷ bs)) end
    (digits_law n ones fs (point_step fs) (done_same ones fs refl) (λ b. refl) bs) refl)

unsigned_law : (n : ℕ) (fs : List Frame) (bs : List ℕ) → number_fate n fs bs ≡ unsigned_at bs >>= (λ x. fate n x.1 after fs)
unsigned_law n fs bs =
    let end : List ℕ × List ℕ → Verdict = λ x. fate n x.1 after fs in
    let g : List ℕ × List ℕ → Read (List ℕ) = λ f. with_front f.0 (exponent_at f.1) in
    int_law n fs bs
    ∙ bind_same (int_at bs) (λ x. ending n fs (point_step fs) x.1) (λ w. with_front w.0 (fraction_at w.1 >>= g) >>= end)
    (λ w h.
    fraction_law n fs w.1
    ∙ bind_same (fraction_at w.1) (λ x. ending n fs (power_step fs) x.1) (λ f. g f >>= end) (λ f q. exponent_law n fs f.1 ∙ sym (bind_bind (exponent_at f.1) (λ x. Ok (f.0 ++ x.0, x.1)) end))
    ∙ sym (bind_bind (fraction_at w.1) g end)
    ∙ sym (bind_bind (fraction_at w.1 >>= g) (λ x. Ok (w.0 ++ x.0, x.1)) end))
    ∙ sym (bind_bind (int_at bs) (λ w. with_front w.0 (fraction_at w.1 >>= g)) end)

minus_law : (n : ℕ) (fs : List Frame) (bs : List ℕ) → fate n bs minus fs ≡ number_fate n fs bs
minus_law n fs [] = open_same minus fs refl
minus_law n fs (b ∷ bs) = refl

number_law : (n : ℕ) (fs : List Frame) (b : ℕ) (bs : List ℕ) → go_on (cond (b == 45) (goes minus fs) (number_step fs b)) (fate n bs) (length (b ∷ bs)) ≡ number_at (b ∷ bs) >>= (λ x. fate n x.1 after fs)
unfolding number_at
number_law n fs b bs =
    let end : List ℕ × List ℕ → Verdict = λ x. fate n x.1 after fs in
    both (b == 45) (goes minus fs) (number_step fs b) (with_front (45 ∷ []) (unsigned_at bs)) (unsigned_at (b ∷ bs)) (fate n bs) (length (b ∷ bs)) end
    (minus_law n fs bs ∙ unsigned_law n fs bs ∙ sym (bind_bind (unsigned_at bs) (λ x. Ok (45 ∷ x.0, x.1)) end))
    (unsigned_law n fs (b ∷ bs))
    ∙ sym (bind_bind (digits_at (b ∷ bs)) (λ x. Ok (number x.0, x.1)) (λ x. fate n x.1 after fs))

-- where a value must come, and no blank
abbrev value_fate : ℕ → List Frame → List ℕ → Verdict
value_fate n fs [] = Err (syntax 0)
value_fate n fs (b ∷ bs) = go_on (value_step n fs b) (fate n bs) (length (b ∷ bs))

want_blank : (n : ℕ) (fs : List Frame) (b : ℕ) → is_blank b ≡ true → step n want fs b ≡ goes want fs
want_blank n fs b e = ap (λ t. cond t (goes want fs) (value_step n fs b)) e

want_here : (n : ℕ) (fs : List Frame) (bs : List ℕ) → NoBlank bs → fate n bs want fs ≡ value_fate n fs bs
want_here n [] [] h = refl
want_here n (f ∷ fs) [] h = refl
want_here n fs (b ∷ bs) h = ap (λ t. go_on (cond t (goes want fs) (value_step n fs b)) (fate n bs) (length (b ∷ bs))) h

want_law : (n : ℕ) (fs : List Frame) (bs : List ℕ) → fate n bs want fs ≡ value_fate n fs (skip bs)
want_law n fs bs = skip_over n want fs (want_blank n fs) bs ∙ want_here n fs (skip bs) (skipped bs)

mark_here : (n : ℕ) (f : Frame) (fs : List Frame) (bs : List ℕ) → NoBlank bs → fate n bs after (f ∷ fs) ≡ mark_at (closer f) bs >>= (λ y. cond y.0 (fate n y.1 (again f) (f ∷ fs)) (fate n y.1 after fs))
mark_here n f fs [] h = refl
mark_here n f fs (b ∷ bs) h =
    ap (λ t. go_on (cond t (goes after (f ∷ fs)) (cond (b == 44) (goes (again f) (f ∷ fs)) (cond (b == closer f) (goes after fs) stops))) (fate n bs) (length (b ∷ bs))) h
    ∙ both (b == 44) (goes (again f) (f ∷ fs)) (cond (b == closer f) (goes after fs) stops) (Ok (true, bs)) (cond (b == closer f) (Ok (false, bs)) (Err (syntax (length (b ∷ bs))))) (fate n bs) (length (b ∷ bs)) (λ y. cond y.0 (fate n y.1 (again f) (f ∷ fs)) (fate n y.1 after fs))
    refl
    (both (b == closer f) (goes after fs) stops (Ok (false, bs)) (Err (syntax (length (b ∷ bs)))) (fate n bs) (length (b ∷ bs)) (λ y. cond y.0 (fate n y.1 (again f) (f ∷ fs)) (fate n y.1 after fs)) refl refl)

mark_law : (n : ℕ) (f : Frame) (fs : List Frame) (bs : List ℕ) → fate n bs after (f ∷ fs) ≡ mark_at (closer f) (skip bs) >>= (λ y. cond y.0 (fate n y.1 (again f) (f ∷ fs)) (fate n y.1 after fs))
mark_law n f fs bs = skip_over n after (f ∷ fs) (after_blank (f ∷ fs)) bs ∙ mark_here n f fs (skip bs) (skipped bs)

-- a value, where what stands behind a bracket follows the machine
with_law : (n : ℕ) (fs : List Frame) (items : List ℕ → Read (List Tree)) (members : List ℕ → Read (List (List ℕ × Tree)))
    → ((bs : List ℕ) → go_on (open_step n first_item in_list fs) (fate n bs) (suc (length bs)) ≡ items bs >>= (λ x. fate n x.1 after fs))
    → ((bs : List ℕ) → go_on (open_step n first_name in_object fs) (fate n bs) (suc (length bs)) ≡ members bs >>= (λ x. fate n x.1 after fs))
    → (bs : List ℕ) → value_fate n fs bs ≡ value_with items members bs >>= (λ x. fate n x.1 after fs)
with_law n fs items members li oi [] = refl
with_law n fs items members li oi (b ∷ bs) =
    let k : Tree × List ℕ → Verdict = λ x. fate n x.1 after fs in
    let f : Mode → List Frame → Verdict = fate n bs in
    let left = length (b ∷ bs) in
    both (b == 110) (goes (word (codes "ull")) fs) _ (after_word (codes "ull") bs >>= (λ rest. Ok (null, rest))) _ f left k
    (word_law n fs (codes "ull") bs ∙ sym (bind_bind (after_word (codes "ull") bs) (λ rest. Ok (null, rest)) k))
    (both (b == 116) (goes (word (codes "rue")) fs) _ (after_word (codes "rue") bs >>= (λ rest. Ok (truth true, rest))) _ f left k
    (word_law n fs (codes "rue") bs ∙ sym (bind_bind (after_word (codes "rue") bs) (λ rest. Ok (truth true, rest)) k))
    (both (b == 102) (goes (word (codes "alse")) fs) _ (after_word (codes "alse") bs >>= (λ rest. Ok (truth false, rest))) _ f left k
    (word_law n fs (codes "alse") bs ∙ sym (bind_bind (after_word (codes "alse") bs) (λ rest. Ok (truth false, rest)) k))
    (both (b == 34) (goes (string false) fs) _ (chars_at bs >>= (λ x. Ok (text x.0, x.1))) _ f left k
    (chars_law n false fs bs ∙ sym (bind_bind (chars_at bs) (λ x. Ok (text x.0, x.1)) k))
    (both (b == 91) (open_step n first_item in_list fs) _ (items bs >>= (λ x. Ok (list (trees_of x.0), x.1))) _ f left k
    (li bs ∙ sym (bind_bind (items bs) (λ x. Ok (list (trees_of x.0), x.1)) k))
    (both (b == 123) (open_step n first_name in_object fs) (cond (b == 45) (goes minus fs) (number_step fs b)) (members bs >>= (λ x. Ok (object (fields_of x.0), x.1))) (number_at (b ∷ bs)) f left k
    (oi bs ∙ sym (bind_bind (members bs) (λ x. Ok (object (fields_of x.0), x.1)) k))
    (number_law n fs b bs))))))

-- a value reads as the machine goes, with r brackets left to open
abbrev Follows : ℕ → ℕ → Type 0
Follows n r = (fs : List Frame) (bs : List ℕ) → n ≡ r + length fs → value_fate n fs bs ≡ value_at r bs >>= (λ x. fate n x.1 after fs)

item_law : (n r : ℕ) → Follows n r → (fs : List Frame) (bs : List ℕ) → n ≡ r + length (in_list ∷ fs)
    → fate n bs want (in_list ∷ fs) ≡ item_at (value_at r) bs >>= (λ x. cond x.0.1 (fate n x.1 want (in_list ∷ fs)) (fate n x.1 after fs))
unfolding item_at
item_law n r is fs bs e =
    let k : (Tree × Bool) × List ℕ → Verdict = λ x. cond x.0.1 (fate n x.1 want (in_list ∷ fs)) (fate n x.1 after fs) in
    let g : Tree × List ℕ → Read (Tree × Bool) = λ x. mark_at 93 (skip x.1) >>= (λ y. Ok ((x.0, y.0), y.1)) in
    want_law n (in_list ∷ fs) bs
    ∙ is (in_list ∷ fs) (skip bs) e
    ∙ bind_same (value_at r (skip bs)) (λ x. fate n x.1 after (in_list ∷ fs)) (λ x. g x >>= k)
    (λ x h. mark_law n in_list fs x.1 ∙ sym (bind_bind (mark_at 93 (skip x.1)) (λ y. Ok ((x.0, y.0), y.1)) k))
    ∙ sym (bind_bind (value_at r (skip bs)) g k)

item_shorter : (r : ℕ) (bs : List ℕ) (x : (Tree × Bool) × List ℕ) → item_at (value_at r) bs ≡ Ok x → length x.1 < length bs
item_shorter r bs x h = let k = spaced-le (item_is r (value_at r) (value_is r) bs x h) in omega (arith, k)

items_law : (n r : ℕ) → Follows n r → (fs : List Frame) (j : ℕ) (bs : List ℕ) → n ≡ r + length (in_list ∷ fs) → length bs ≤ j
    → fate n bs want (in_list ∷ fs) ≡ items_at (value_at r) j bs >>= (λ x. fate n x.1 after fs)
unfolding items_at
items_law n r is fs zero [] e h = refl
items_law n r is fs zero (b ∷ bs) e h = absurd (omega arith)
items_law n r is fs (suc j) bs e h =
    let k : List Tree × List ℕ → Verdict = λ x. fate n x.1 after fs in
    item_law n r is fs bs e
    ∙ bind_same (item_at (value_at r) bs) (λ x. cond x.0.1 (fate n x.1 want (in_list ∷ fs)) (fate n x.1 after fs)) (λ x. items_then (items_at (value_at r) j) x >>= k)
    (λ x g.
    let short = item_shorter r bs x g in
    let more = items_at (value_at r) j x.1 in
    elim x.0.1 as (λ t. cond t (fate n x.1 want (in_list ∷ fs)) (fate n x.1 after fs) ≡ cond t (with_items (x.0.0 ∷ []) more) (Ok (x.0.0 ∷ [], x.1)) >>= k) [
      | true ↦ items_law n r is fs j x.1 e (omega arith) ∙ sym (bind_bind more (λ y. Ok ((x.0.0 ∷ []) ++ y.0, y.1)) k)
      | false ↦ refl
    ])
    ∙ sym (bind_bind (item_at (value_at r) bs) (items_then (items_at (value_at r) j)) k)

list_here : (n r : ℕ) → Follows n r → (fs : List Frame) (bs : List ℕ) → n ≡ r + length (in_list ∷ fs) → NoBlank bs
    → fate n bs first_item (in_list ∷ fs) ≡ list_of (value_at r) bs >>= (λ x. fate n x.1 after fs)
list_here n r is fs [] e h = refl
list_here n r is fs (b ∷ bs) e h =
    let k : List Tree × List ℕ → Verdict = λ x. fate n x.1 after fs in
    ap (λ t. go_on (cond t (goes first_item (in_list ∷ fs)) (cond (b == 93) (goes after fs) (value_step n (in_list ∷ fs) b))) (fate n bs) (length (b ∷ bs))) h
    ∙ both (b == 93) (goes after fs) (value_step n (in_list ∷ fs) b) (Ok ([], bs)) (items_at (value_at r) (length (b ∷ bs)) (b ∷ bs)) (fate n bs) (length (b ∷ bs)) k
    refl
    (sym (want_here n (in_list ∷ fs) (b ∷ bs) h) ∙ items_law n r is fs (length (b ∷ bs)) (b ∷ bs) e (omega arith))

list_law : (n r : ℕ) → Follows n r → (fs : List Frame) (bs : List ℕ) → n ≡ r + length (in_list ∷ fs)
    → fate n bs first_item (in_list ∷ fs) ≡ list_at (value_at r) bs >>= (λ x. fate n x.1 after fs)
list_law n r is fs bs e =
    skip_over n first_item (in_list ∷ fs) (λ b h. ap (λ t. cond t (goes first_item (in_list ∷ fs)) (cond (b == 93) (goes after fs) (value_step n (in_list ∷ fs) b))) h) bs
    ∙ list_here n r is fs (skip bs) e (skipped bs)

-- where a name must come, and no blank
abbrev name_fate : ℕ → List Frame → List ℕ → Verdict
name_fate n fs [] = Err (syntax 0)
name_fate n fs (b ∷ bs) = go_on (name_step fs b) (fate n bs) (length (b ∷ bs))

colon_here : (n : ℕ) (fs : List Frame) (bs : List ℕ) → NoBlank bs → fate n bs colon fs ≡ after_byte 58 bs >>= (λ rest. fate n rest want fs)
colon_here n [] [] h = refl
colon_here n (f ∷ fs) [] h = refl
colon_here n fs (b ∷ bs) h =
    ap (λ t. go_on (cond t (goes colon fs) (cond (b == 58) (goes want fs) stops)) (fate n bs) (length (b ∷ bs))) h
    ∙ both (b == 58) (goes want fs) stops (Ok bs) (Err (syntax (length (b ∷ bs)))) (fate n bs) (length (b ∷ bs)) (λ rest. fate n rest want fs) refl refl

colon_law : (n : ℕ) (fs : List Frame) (bs : List ℕ) → fate n bs colon fs ≡ after_byte 58 (skip bs) >>= (λ rest. fate n rest want fs)
colon_law n fs bs =
    skip_over n colon fs (λ b h. ap (λ t. cond t (goes colon fs) (cond (b == 58) (goes want fs) stops)) h) bs ∙ colon_here n fs (skip bs) (skipped bs)

name_law : (n : ℕ) (fs : List Frame) (bs : List ℕ) → name_fate n fs bs ≡ name_at bs >>= (λ x. fate n x.1 want fs)
name_law n fs [] = refl
name_law n fs (b ∷ bs) =
    let k : List ℕ × List ℕ → Verdict = λ x. fate n x.1 want fs in
    let g : List ℕ × List ℕ → Read (List ℕ) = λ x. after_byte 58 (skip x.1) >>= (λ rest. Ok (x.0, rest)) in
    both (b == 34) (goes (string true) fs) stops (Ok bs) (Err (syntax (length (b ∷ bs)))) (fate n bs) (length (b ∷ bs)) (λ rest. (chars_at rest >>= g) >>= k)
    (chars_law n true fs bs
    ∙ bind_same (chars_at bs) (λ x. fate n x.1 colon fs) (λ x. g x >>= k) (λ x h. colon_law n fs x.1 ∙ sym (bind_bind (after_byte 58 (skip x.1)) (λ rest. Ok (x.0, rest)) k))
    ∙ sym (bind_bind (chars_at bs) g k))
    refl
    ∙ sym (bind_bind (after_byte 34 (b ∷ bs)) (λ rest. chars_at rest >>= g) k)

next_here : (n : ℕ) (fs : List Frame) (bs : List ℕ) → NoBlank bs → fate n bs next_name fs ≡ name_fate n fs bs
next_here n [] [] h = refl
next_here n (f ∷ fs) [] h = refl
next_here n fs (b ∷ bs) h = ap (λ t. go_on (cond t (goes next_name fs) (name_step fs b)) (fate n bs) (length (b ∷ bs))) h

next_law : (n : ℕ) (fs : List Frame) (bs : List ℕ) → fate n bs next_name fs ≡ name_fate n fs (skip bs)
next_law n fs bs = skip_over n next_name fs (λ b h. ap (λ t. cond t (goes next_name fs) (name_step fs b)) h) bs ∙ next_here n fs (skip bs) (skipped bs)

member_law : (n r : ℕ) → Follows n r → (fs : List Frame) (bs : List ℕ) → n ≡ r + length (in_object ∷ fs)
    → fate n bs next_name (in_object ∷ fs) ≡ member_at (value_at r) bs >>= (λ x. cond x.0.1 (fate n x.1 next_name (in_object ∷ fs)) (fate n x.1 after fs))
unfolding member_at
member_law n r is fs bs e =
    let all = in_object ∷ fs in
    let k : ((List ℕ × Tree) × Bool) × List ℕ → Verdict = λ x. cond x.0.1 (fate n x.1 next_name (in_object ∷ fs)) (fate n x.1 after fs) in
    let last : List ℕ → Tree × List ℕ → Read ((List ℕ × Tree) × Bool) = λ name y. mark_at 125 (skip y.1) >>= (λ z. Ok (((name, y.0), z.0), z.1)) in
    let g : List ℕ × List ℕ → Read ((List ℕ × Tree) × Bool) = λ x. value_at r (skip x.1) >>= last x.0 in
    next_law n all bs
    ∙ name_law n all (skip bs)
    ∙ bind_same (name_at (skip bs)) (λ x. fate n x.1 want all) (λ x. g x >>= k)
    (λ x h.
    want_law n all x.1
    ∙ is all (skip x.1) e
    ∙ bind_same (value_at r (skip x.1)) (λ y. fate n y.1 after all) (λ y. last x.0 y >>= k) (λ y q. mark_law n in_object fs y.1 ∙ sym (bind_bind (mark_at 125 (skip y.1)) (λ z. Ok (((x.0, y.0), z.0), z.1)) k))
    ∙ sym (bind_bind (value_at r (skip x.1)) (last x.0) k))
    ∙ sym (bind_bind (name_at (skip bs)) g k)

member_shorter : (r : ℕ) (bs : List ℕ) (x : ((List ℕ × Tree) × Bool) × List ℕ) → member_at (value_at r) bs ≡ Ok x → length x.1 < length bs
unfolding member_at
member_shorter r bs x h =
    let a = bind_ok (name_at (skip bs)) (λ x. value_at r (skip x.1) >>= (λ y. mark_at 125 (skip y.1) >>= (λ z. Ok (((x.0, y.0), z.0), z.1)))) x h in
    let b = bind_ok (value_at r (skip a.0.1)) (λ y. mark_at 125 (skip y.1) >>= (λ z. Ok (((a.0.0, y.0), z.0), z.1))) x a.2 in
    let c = bind_ok (mark_at 125 (skip b.0.1)) (λ z. Ok (((a.0.0, b.0.0), z.0), z.1)) x b.2 in
    let same = ap (λ (y : ((List ℕ × Tree) × Bool) × List ℕ). length y.1) (ok_same (((a.0.0, b.0.0), c.0.0), c.0.1) x c.2) in
    let name = name-le (name_is bs a.0 a.1) in
    let value = value-le (value_is r (skip a.0.1) b.0 b.1) in
    let mark = ap length (mark_is 125 (skip b.0.1) c.0 c.1) in
    let first = skip-le a.0.1 in
    let second = skip-le b.0.1 in
    omega (arith, same, name, value, mark, first, second)

members_law : (n r : ℕ) → Follows n r → (fs : List Frame) (j : ℕ) (before : List (List ℕ × Tree)) (bs : List ℕ) → n ≡ r + length (in_object ∷ fs) → length bs ≤ j
    → fate n bs next_name (in_object ∷ fs) ≡ members_at (value_at r) j before bs >>= (λ x. fate n x.1 after fs)
unfolding members_at
members_law n r is fs zero before [] e h = refl
members_law n r is fs zero before (b ∷ bs) e h = absurd (omega arith)
members_law n r is fs (suc j) before bs e h =
    let k : List (List ℕ × Tree) × List ℕ → Verdict = λ x. fate n x.1 after fs in
    member_law n r is fs bs e
    ∙ bind_same (member_at (value_at r) bs) (λ x. cond x.0.1 (fate n x.1 next_name (in_object ∷ fs)) (fate n x.1 after fs)) (λ x. members_then (members_at (value_at r) j) before x >>= k)
    (λ x g.
    let short = member_shorter r bs x g in
    elim x.0.1 as (λ t. cond t (fate n x.1 next_name (in_object ∷ fs)) (fate n x.1 after fs) ≡ cond t (members_at (value_at r) j (put x.0.0.0 x.0.0.1 before) x.1) (Ok (put x.0.0.0 x.0.0.1 before, x.1)) >>= k) [
      | true ↦ members_law n r is fs j (put x.0.0.0 x.0.0.1 before) x.1 e (omega arith)
      | false ↦ refl
    ])
    ∙ sym (bind_bind (member_at (value_at r) bs) (members_then (members_at (value_at r) j) before) k)

object_here : (n r : ℕ) → Follows n r → (fs : List Frame) (bs : List ℕ) → n ≡ r + length (in_object ∷ fs) → NoBlank bs
    → fate n bs first_name (in_object ∷ fs) ≡ object_of (value_at r) bs >>= (λ x. fate n x.1 after fs)
object_here n r is fs [] e h = refl
object_here n r is fs (b ∷ bs) e h =
    let k : List (List ℕ × Tree) × List ℕ → Verdict = λ x. fate n x.1 after fs in
    ap (λ t. go_on (cond t (goes first_name (in_object ∷ fs)) (cond (b == 125) (goes after fs) (name_step (in_object ∷ fs) b))) (fate n bs) (length (b ∷ bs))) h
    ∙ both (b == 125) (goes after fs) (name_step (in_object ∷ fs) b) (Ok ([], bs)) (members_at (value_at r) (length (b ∷ bs)) [] (b ∷ bs)) (fate n bs) (length (b ∷ bs)) k
    refl
    (sym (next_here n (in_object ∷ fs) (b ∷ bs) h) ∙ members_law n r is fs (length (b ∷ bs)) [] (b ∷ bs) e (omega arith))

object_law : (n r : ℕ) → Follows n r → (fs : List Frame) (bs : List ℕ) → n ≡ r + length (in_object ∷ fs)
    → fate n bs first_name (in_object ∷ fs) ≡ object_at (value_at r) bs >>= (λ x. fate n x.1 after fs)
object_law n r is fs bs e =
    skip_over n first_name (in_object ∷ fs) (λ b h. ap (λ t. cond t (goes first_name (in_object ∷ fs)) (cond (b == 125) (goes after fs) (name_step (in_object ∷ fs) b))) h) bs
    ∙ object_here n r is fs (skip bs) e (skipped bs)

-- no bracket is left to open
full : (n : ℕ) (m : Mode) (f : Frame) (fs : List Frame) → n ≡ 0 + length fs → open_step n m f fs ≡ deep
full n m f fs e = let q : nat_lt (length fs) n ≡ false = grind (arith, nat_tests) in ap (λ t. cond t (goes m (f ∷ fs)) deep) q

roomy : (n r : ℕ) (m : Mode) (f : Frame) (fs : List Frame) → n ≡ suc r + length fs → open_step n m f fs ≡ goes m (f ∷ fs)
roomy n r m f fs e = let q : nat_lt (length fs) n ≡ true = grind (arith, nat_tests) in ap (λ t. cond t (goes m (f ∷ fs)) deep) q

value_law : (n r : ℕ) → Follows n r
unfolding value_at
value_law n zero fs bs e =
    with_law n fs too_deep_at too_deep_at
    (λ cs. ap (λ s. go_on s (fate n cs) (suc (length cs))) (full n first_item in_list fs e))
    (λ cs. ap (λ s. go_on s (fate n cs) (suc (length cs))) (full n first_name in_object fs e))
    bs
value_law n (suc r) fs bs e =
    let k : n ≡ r + suc (length fs) = omega arith in
    with_law n fs (list_at (value_at r)) (object_at (value_at r))
    (λ cs. ap (λ s. go_on s (fate n cs) (suc (length cs))) (roomy n r first_item in_list fs e) ∙ list_law n r (value_law n r) fs cs k)
    (λ cs. ap (λ s. go_on s (fate n cs) (suc (length cs))) (roomy n r first_name in_object fs e) ∙ object_law n r (value_law n r) fs cs k)
    bs

end_here : (n : ℕ) (t : Tree) (bs : List ℕ) → NoBlank bs → fate n bs after [] ≡ end_of t bs >>= (λ u. Ok tt)
end_here n t [] h = refl
end_here n t (b ∷ bs) h = ap (λ s. go_on (cond s (goes after []) stops) (fate n bs) (length (b ∷ bs))) h

end_law : (n : ℕ) (t : Tree) (bs : List ℕ) → fate n bs after [] ≡ end_of t (skip bs) >>= (λ u. Ok tt)
end_law n t bs = skip_over n after [] (after_blank []) bs ∙ end_here n t (skip bs) (skipped bs)

-- the machine says what the reader says
pub text_law : (n : ℕ) (bs : List ℕ) → fate n bs want [] ≡ text_of n bs >>= (λ t. Ok tt)
text_law n bs =
    want_law n [] bs
    ∙ value_law n n [] (skip bs) (omega arith)
    ∙ bind_same (value_at n (skip bs)) (λ x. fate n x.1 after []) (λ x. end_of x.0 (skip x.1) >>= (λ u. Ok tt)) (λ x h. end_law n x.0 x.1)
    ∙ sym (bind_bind (value_at n (skip bs)) (λ x. end_of x.0 (skip x.1)) (λ u. Ok tt))
