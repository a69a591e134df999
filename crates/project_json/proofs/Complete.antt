-- What is in the grammar is read.
use Rattle.std.proofs.Common.{◌≡◌, ◌≢◌, ℕ, zero, suc, ◌<◌, ◌≤◌, Bool, true, false, cond, List, [], ◌∷◌, ◌++◌, length, Option, None, Some, Ok, Err, refl, sym, ap, ◌∙◌, subst, arith, append_assoc}
use Rattle.std.specs.Prelude.{◌==◌}
use Rattle.std.proofs.lemmas.Bool.{false_from_ne_true}
use Rattle.std.proofs.lemmas.Bool.Decides.{nat_tests, Decides-eqb}
use Rattle.project_json.specs.Tree.{Tree, number, text, list, object, trees_of, fields_of}
use Rattle.project_json.specs.Bytes.{AllTrue, Blanks, is_blank, is_digit}
use Rattle.project_json.specs.Numbers.{IsInt, lone_zero, nonzero_and, is_nonzero_digit, IsDigits, IsFraction, no_fraction, point_and, IsExponent, no_exponent, e_and, e_sign_and, IsUnsigned, IsNumber, unsigned, minus_and, is_e, is_sign}
use Rattle.project_json.specs.Strings.{Piece, byte, unit, unit_of, joined, PieceAt, unescaped_here, escape_here, unit_here, Pieces, no_pieces, piece_and, is_unescaped, is_hex, is_escape, escaped}
use Rattle.project_json.specs.Grammar.{Value, null_here, true_here, false_here, number_here, text_here, no_items_here, items_here, no_members_here, members_here, Spaced, spaced, Items, last_item, more_items, Members, last_member, more_members, Name, name_here, IsJson}
use Rattle.project_json.specs.Reading.{syntax, Read, ◌>>=◌, skip, after_byte, digits, after_digits, int_at, with_front, some_digits_at, fraction_at, signed_digits_at, exponent_at, unsigned_at, digits_at, number_at, hex_at, unit_at, escape_at, piece_at, with_piece, pieces_then, pieces_at, chars_at, value_with, mark_at, item_at, with_items, items_then, items_at, list_of, name_at, member_at, members_then, members_at, object_of, value_at, list_below, object_below, end_of, text_of}
use Rattle.project_json.proofs.Lists.{value_at-is}
use Rattle.project_json.proofs.Sizes.{blanks-le, piece-lt, pieces-lt, value-le}

-- begins with no blank and no closing bracket
abbrev Starts : List ℕ → Type 0
Starts [] = ⊥
Starts (b ∷ bs) = (is_blank b ≡ false) × (b ≢ 93) × (b ≢ 125)

-- begins with no digit
abbrev NoDigit : List ℕ → Type 0
NoDigit [] = Unit {0}
NoDigit (b ∷ bs) = is_digit b ≡ false

-- begins with no blank
abbrev NoBlank : List ℕ → Type 0
NoBlank [] = Unit {0}
NoBlank (b ∷ bs) = is_blank b ≡ false

-- begins with no byte that a number goes on with
abbrev NoMore : List ℕ → Type 0
NoMore [] = Unit {0}
NoMore (b ∷ bs) = (is_digit b ≡ false) × ((b == 46) ≡ false) × (is_e b ≡ false)

skip_front : (front new : List ℕ) → AllTrue is_blank front → NoBlank new → skip (front ++ new) ≡ new
skip_front [] [] all ok = refl
skip_front [] (b ∷ bs) all ok = ap (λ t. cond t (skip bs) (b ∷ bs)) ok
skip_front (c ∷ cs) new all ok = ap (λ t. cond t (skip (cs ++ new)) (c ∷ cs ++ new)) all.0 ∙ skip_front cs new all.1 ok

skips : {old new : List ℕ} → Blanks old new → NoBlank new → skip old ≡ new
skips {new = new} g ok = ap skip g.2 ∙ skip_front g.0 new g.1 ok

starts-blank : (bs : List ℕ) → Starts bs → NoBlank bs
starts-blank [] s = tt
starts-blank (b ∷ bs) s = s.0

blank_no_more : (b : ℕ) → is_blank b ≡ true → (is_digit b ≡ false) × ((b == 46) ≡ false) × (is_e b ≡ false)
blank_no_more b h = (grind (arith, nat_tests), grind (arith, nat_tests), grind (arith, nat_tests))

no_more-front : (front new : List ℕ) → AllTrue is_blank front → NoMore new → NoMore (front ++ new)
no_more-front [] new all ok = ok
no_more-front (b ∷ bs) new all ok = blank_no_more b all.0

no_more-before : {old new : List ℕ} → Blanks old new → NoMore new → NoMore old
no_more-before {new = new} g ok = subst NoMore (sym g.2) (no_more-front g.0 new g.1 ok)

digit_starts : (d : ℕ) → is_digit d ≡ true → (is_blank d ≡ false) × (d ≢ 93) × (d ≢ 125)
digit_starts d h = (grind (arith, nat_tests), λ e. grind (arith, nat_tests), λ e. grind (arith, nat_tests))

nonzero_digit : (d : ℕ) → is_nonzero_digit d ≡ true → is_digit d ≡ true
nonzero_digit d h = grind (arith, nat_tests)

int_head : {w : List ℕ} → IsInt w → (d : ℕ) × (ds : List ℕ) × (is_digit d ≡ true) × (w ≡ d ∷ ds)
int_head lone_zero = (48, [], refl, refl)
int_head (nonzero_and {d} {ds} h all) = (d, ds, nonzero_digit d h, refl)

unsigned_head : (ds : List ℕ) → IsUnsigned ds → (d : ℕ) × (more : List ℕ) × (is_digit d ≡ true) × (ds ≡ d ∷ more)
unsigned_head ds s = let h = int_head s.3 in (h.0, h.1 ++ (s.1 ++ s.2), h.2, s.6 ∙ ap (λ xs. xs ++ (s.1 ++ s.2)) h.3)

number_starts : {ds : List ℕ} (new : List ℕ) → IsNumber ds → Starts (ds ++ new)
number_starts new (unsigned {ds} s) = let h = unsigned_head ds s in subst (λ xs. Starts (xs ++ new)) (sym h.3) (digit_starts h.0 h.2)
number_starts new (minus_and s) = (refl, λ e. absurd (omega arith), λ e. absurd (omega arith))

value-starts : {n : ℕ} {t : Tree} {old new : List ℕ} → Value n t old new → Starts old
value-starts null_here = (refl, λ e. absurd (omega arith), λ e. absurd (omega arith))
value-starts true_here = (refl, λ e. absurd (omega arith), λ e. absurd (omega arith))
value-starts false_here = (refl, λ e. absurd (omega arith), λ e. absurd (omega arith))
value-starts (number_here digits {old} {new} w e) = subst Starts (sym e) (number_starts new w)
value-starts (text_here ps is e) = (refl, λ e. absurd (omega arith), λ e. absurd (omega arith))
value-starts (no_items_here g) = (refl, λ e. absurd (omega arith), λ e. absurd (omega arith))
value-starts (items_here ts is e) = (refl, λ e. absurd (omega arith), λ e. absurd (omega arith))
value-starts (no_members_here g) = (refl, λ e. absurd (omega arith), λ e. absurd (omega arith))
value-starts (members_here ms is e) = (refl, λ e. absurd (omega arith), λ e. absurd (omega arith))

unescaped_not : (b : ℕ) → is_unescaped b ≡ true → ((b == 34) ≡ false) × ((b == 92) ≡ false)
unescaped_not b h = (grind (arith, nat_tests), grind (arith, nat_tests))

escape_not : (b : ℕ) → is_escape b ≡ true → (b == 117) ≡ false
escape_not b h = grind (arith, nat_tests)

hex_again : (b : ℕ) (bs : List ℕ) → is_hex b ≡ true → hex_at (b ∷ bs) ≡ Ok (b, bs)
hex_again b bs h = ap (λ t. cond t (Ok (b, bs)) (Err (syntax (length (b ∷ bs))))) h

piece_again : {p : Piece} {old new : List ℕ} → PieceAt p old new → piece_at old ≡ Ok (Some p, new)
piece_again (unescaped_here {b} {new} h) =
    let plain : Read (Option Piece) = cond (is_unescaped b) (Ok (Some (byte b), new)) (Err (syntax (length (b ∷ new)))) in
    let escape : Read (Option Piece) = escape_at new >>= (λ x. Ok (Some x.0, x.1)) in
    ap (λ t. cond t (Ok (None, new)) (cond (b == 92) escape plain)) (unescaped_not b h).0
    ∙ ap (λ t. cond t escape plain) (unescaped_not b h).1
    ∙ ap (λ (t : Bool). cond t (Ok (Some (byte b), new)) (Err (syntax (length (b ∷ new))))) h
piece_again (escape_here {c} {new} h) =
    ap (λ r. r >>= (λ x. Ok (Some x.0, x.1)))
    (ap (λ t. cond t (unit_at new) (cond (is_escape c) (Ok (byte (escaped c), new)) (Err (syntax (length (c ∷ new)))))) (escape_not c h)
    ∙ ap (λ (t : Bool). cond t (Ok (byte (escaped c), new)) (Err (syntax (length (c ∷ new))))) h)
piece_again (unit_here {a} {b} {c} {d} {new} h) =
    ap (λ r. r >>= (λ x. Ok (Some x.0, x.1)))
    (ap (λ r. r >>= (λ a. hex_at a.1 >>= (λ b. hex_at b.1 >>= (λ c. hex_at c.1 >>= (λ d. Ok (unit (unit_of a.0 b.0 c.0 d.0), d.1)))))) (hex_again a (b ∷ c ∷ d ∷ new) h.0)
    ∙ ap (λ r. r >>= (λ b. hex_at b.1 >>= (λ c. hex_at c.1 >>= (λ d. Ok (unit (unit_of a b.0 c.0 d.0), d.1))))) (hex_again b (c ∷ d ∷ new) h.1.0)
    ∙ ap (λ r. r >>= (λ c. hex_at c.1 >>= (λ d. Ok (unit (unit_of a b c.0 d.0), d.1)))) (hex_again c (d ∷ new) h.1.1.0)
    ∙ ap (λ r. r >>= (λ d. Ok (unit (unit_of a b c d.0), d.1))) (hex_again d new h.1.1.1.0))

pieces_again : {ps : List Piece} {old new : List ℕ} → Pieces ps old new → (k : ℕ) → length old ≤ k → pieces_at k old ≡ Ok (ps, new)
unfolding pieces_at
pieces_again (no_pieces {new}) zero h = absurd (omega arith)
pieces_again (no_pieces {new}) (suc k) h = refl
pieces_again (piece_and {p} {ps} {old} {new} mid q qs) zero h = absurd (let a = piece-lt q in omega (arith, a))
pieces_again (piece_and {p} {ps} {old} {new} mid q qs) (suc k) h =
    ap (λ r. r >>= (λ x. pieces_then (pieces_at k) x.0 x.1)) (piece_again q)
    ∙ ap (with_piece p) (pieces_again qs k (let a = piece-lt q in omega (arith, a)))

chars_again : {ps : List Piece} {old new : List ℕ} → Pieces ps old new → chars_at old ≡ Ok (joined ps, new)
unfolding chars_at
chars_again {old = old} qs = ap (λ r. r >>= (λ x. Ok (joined x.0, x.1))) (pieces_again qs (length old) (omega arith))

digits_again : (ds rest : List ℕ) → AllTrue is_digit ds → NoDigit rest → (digits (ds ++ rest) ≡ ds) × (after_digits (ds ++ rest) ≡ rest)
digits_again [] [] all ok = (refl, refl)
digits_again [] (b ∷ bs) all ok = (ap (λ t. cond t (b ∷ digits bs) []) ok, ap (λ t. cond t (after_digits bs) (b ∷ bs)) ok)
digits_again (d ∷ ds) rest all ok =
    let more = digits_again ds rest all.1 ok in
    (ap (λ t. cond t (d ∷ digits (ds ++ rest)) []) all.0 ∙ ap (λ xs. d ∷ xs) more.0, ap (λ t. cond t (after_digits (ds ++ rest)) (d ∷ ds ++ rest)) all.0 ∙ more.1)

nonzero_no_zero : (d : ℕ) → is_nonzero_digit d ≡ true → (d == 48) ≡ false
nonzero_no_zero d h = grind (arith, nat_tests)

int_again : {ds : List ℕ} (rest : List ℕ) → IsInt ds → NoDigit rest → int_at (ds ++ rest) ≡ Ok (ds, rest)
int_again rest lone_zero ok = refl
int_again rest (nonzero_and {d} {ds} h all) ok =
    let bs = ds ++ rest in
    let more = digits_again ds rest all ok in
    ap (λ t. cond t (Ok (48 ∷ [], bs)) (cond (is_nonzero_digit d) (Ok (d ∷ digits bs, after_digits bs)) (Err (syntax (length (d ∷ bs)))))) (nonzero_no_zero d h)
    ∙ ap (λ t. cond t (Ok (d ∷ digits bs, after_digits bs)) (Err (syntax (length (d ∷ bs))))) h
    ∙ ap (λ (xs : List ℕ). Ok (d ∷ xs, after_digits bs)) more.0
    ∙ ap (λ (xs : List ℕ). Ok (d ∷ ds, xs)) more.1

some_again : (ds rest : List ℕ) → IsDigits ds → NoDigit rest → some_digits_at (ds ++ rest) ≡ Ok (ds, rest)
some_again [] rest d ok = absurd d
some_again (d ∷ ds) rest h ok =
    let more = digits_again ds rest h.1 ok in
    ap (λ t. cond t (Ok (d ∷ digits (ds ++ rest), after_digits (ds ++ rest))) (Err (syntax (length (d ∷ ds ++ rest))))) h.0
    ∙ ap (λ (xs : List ℕ). Ok (d ∷ xs, after_digits (ds ++ rest))) more.0
    ∙ ap (λ (xs : List ℕ). Ok (d ∷ ds, xs)) more.1

no_digit : (rest : List ℕ) → NoMore rest → NoDigit rest
no_digit [] h = tt
no_digit (b ∷ bs) h = h.0

digit_no_sign : (d : ℕ) → is_digit d ≡ true → is_sign d ≡ false
digit_no_sign d h = grind (arith, nat_tests)

signed_digits_again : (ds rest : List ℕ) → IsDigits ds → NoDigit rest → signed_digits_at (ds ++ rest) ≡ Ok (ds, rest)
signed_digits_again [] rest h ok = absurd h
signed_digits_again (d ∷ ds) rest h ok =
    ap (λ t. cond t (with_front (d ∷ []) (some_digits_at (ds ++ rest))) (some_digits_at (d ∷ ds ++ rest))) (digit_no_sign d h.0) ∙ some_again (d ∷ ds) rest h ok

exponent_again : {e : List ℕ} → IsExponent e → (rest : List ℕ) → NoMore rest → exponent_at (e ++ rest) ≡ Ok (e, rest)
exponent_again no_exponent [] ok = refl
exponent_again no_exponent (b ∷ bs) ok = ap (λ t. cond t (with_front (b ∷ []) (signed_digits_at bs)) (Ok ([], b ∷ bs))) ok.2
exponent_again (e_and {c} {ds} p d) rest ok =
    ap (λ t. cond t (with_front (c ∷ []) (signed_digits_at (ds ++ rest))) (Ok ([], c ∷ ds ++ rest))) p
    ∙ ap (with_front (c ∷ [])) (signed_digits_again ds rest d (no_digit rest ok))
exponent_again (e_sign_and {c} {s} {ds} p q d) rest ok =
    ap (λ t. cond t (with_front (c ∷ []) (signed_digits_at (s ∷ ds ++ rest))) (Ok ([], c ∷ s ∷ ds ++ rest))) p
    ∙ ap (with_front (c ∷ [])) (ap (λ t. cond t (with_front (s ∷ []) (some_digits_at (ds ++ rest))) (some_digits_at (s ∷ ds ++ rest))) q ∙ ap (with_front (s ∷ [])) (some_again ds rest d (no_digit rest ok)))

-- begins with no digit and no point
abbrev NoPoint : List ℕ → Type 0
NoPoint [] = Unit {0}
NoPoint (b ∷ bs) = (is_digit b ≡ false) × ((b == 46) ≡ false)

power_no_point : (c : ℕ) → is_e c ≡ true → (is_digit c ≡ false) × ((c == 46) ≡ false)
power_no_point c h = (grind (arith, nat_tests), grind (arith, nat_tests))

exponent_front : {e : List ℕ} → IsExponent e → (rest : List ℕ) → NoMore rest → NoPoint (e ++ rest)
exponent_front no_exponent [] ok = tt
exponent_front no_exponent (b ∷ bs) ok = (ok.0, ok.1)
exponent_front (e_and {c} p d) rest ok = power_no_point c p
exponent_front (e_sign_and {c} p q d) rest ok = power_no_point c p

no_point : (rest : List ℕ) → NoPoint rest → NoDigit rest
no_point [] h = tt
no_point (b ∷ bs) h = h.0

fraction_again : {f : List ℕ} → IsFraction f → (rest : List ℕ) → NoPoint rest → fraction_at (f ++ rest) ≡ Ok (f, rest)
fraction_again no_fraction [] ok = refl
fraction_again no_fraction (b ∷ bs) ok = ap (λ t. cond t (with_front (46 ∷ []) (some_digits_at bs)) (Ok ([], b ∷ bs))) ok.1
fraction_again (point_and {ds} d) rest ok = ap (with_front (46 ∷ [])) (some_again ds rest d (no_point rest ok))

fraction_front : {f : List ℕ} → IsFraction f → (rest : List ℕ) → NoPoint rest → NoDigit (f ++ rest)
fraction_front no_fraction rest ok = no_point rest ok
fraction_front (point_and d) rest ok = refl

unsigned_again : (ds rest : List ℕ) → IsUnsigned ds → NoMore rest → unsigned_at (ds ++ rest) ≡ Ok (ds, rest)
unsigned_again ds rest s ok =
    let w = s.0 in
    let f = s.1 in
    let e = s.2 in
    let parts : ds ++ rest ≡ w ++ (f ++ (e ++ rest)) = ap (λ xs. xs ++ rest) s.6 ∙ append_assoc w (f ++ e) rest ∙ ap (λ xs. w ++ xs) (append_assoc f e rest) in
    let g : List ℕ → List ℕ → Read (List ℕ) = λ f. λ xs. with_front f (exponent_at xs) in
    ap unsigned_at parts
    ∙ ap (λ r. r >>= (λ x. with_front x.0 (fraction_at x.1 >>= (λ y. with_front y.0 (exponent_at y.1))))) (int_again (f ++ (e ++ rest)) s.3 (fraction_front s.4 (e ++ rest) (exponent_front s.5 rest ok)))
    ∙ ap (λ r. with_front w (r >>= (λ y. with_front y.0 (exponent_at y.1)))) (fraction_again s.4 (e ++ rest) (exponent_front s.5 rest ok))
    ∙ ap (λ r. with_front w (with_front f r)) (exponent_again s.5 rest ok)
    ∙ ap (λ (xs : List ℕ). Ok (xs, rest)) (sym s.6)

digit_no_minus : (d : ℕ) → is_digit d ≡ true → (d == 45) ≡ false
digit_no_minus d h = grind (arith, nat_tests)

digits_at-size : (d : ℕ) (bs : List ℕ) → is_digit d ≡ true → digits_at (d ∷ bs) ≡ unsigned_at (d ∷ bs)
digits_at-size d bs h = ap (λ t. cond t (with_front (45 ∷ []) (unsigned_at bs)) (unsigned_at (d ∷ bs))) (digit_no_minus d h)

number_again : {ds : List ℕ} → IsNumber ds → (rest : List ℕ) → NoMore rest → digits_at (ds ++ rest) ≡ Ok (ds, rest)
number_again (unsigned {ds} s) rest ok =
    let h = unsigned_head ds s in
    subst (λ xs. digits_at (xs ++ rest) ≡ unsigned_at (xs ++ rest)) (sym h.3) (digits_at-size h.0 (h.1 ++ rest) h.2) ∙ unsigned_again ds rest s ok
number_again (minus_and {ds} s) rest ok = ap (with_front (45 ∷ [])) (unsigned_again ds rest s ok)

mark_close : (close : ℕ) (rest : List ℕ) → (close == 44) ≡ false → mark_at close (close ∷ rest) ≡ Ok (false, rest)
mark_close close rest ne =
    ap (λ t. cond t (Ok (true, rest)) (cond (close == close) (Ok (false, rest)) (Err (syntax (length (close ∷ rest)))))) ne
    ∙ ap (λ t. cond t (Ok (false, rest)) (Err (syntax (length (close ∷ rest))))) ((Decides-eqb close close).1 refl)

name-short : {chars old new : List ℕ} → Name chars old new → length new ≤ length (skip old)
name-short {old = old} (name_here ps begin end f is e g) = let a = ap length (skips f refl) in let b = blanks-le g in let k = pieces-lt is in omega (arith, a, b, k)

name_again : {chars old new : List ℕ} → Name chars old new → name_at (skip old) ≡ Ok (chars, new)
name_again {new = new} (name_here ps begin end f is e g) =
    ap name_at (skips f refl)
    ∙ ap (λ r. r >>= (λ x. after_byte 58 (skip x.1) >>= (λ rest. Ok (x.0, rest)))) (chars_again is)
    ∙ ap (λ bs. after_byte 58 bs >>= (λ rest. Ok (joined ps, rest))) (skips g refl)
    ∙ ap (λ (xs : List ℕ). Ok (xs, new)) (sym e)

skip_twice : (bs : List ℕ) → skip (skip bs) ≡ skip bs
skip_twice [] = refl
skip_twice (b ∷ bs) = elim (is_blank b) as (λ t. is_blank b ≡ t → skip (cond t (skip bs) (b ∷ bs)) ≡ cond t (skip bs) (b ∷ bs)) [ true ↦ λ e. skip_twice bs | false ↦ λ e. ap (λ t. cond t (skip bs) (b ∷ bs)) e ] refl

pub skip-le : (bs : List ℕ) → length (skip bs) ≤ length bs
skip-le [] = omega arith
skip-le (b ∷ bs) = elim (is_blank b) as (λ t. length (cond t (skip bs) (b ∷ bs)) ≤ length (b ∷ bs)) [ true ↦ (let k = skip-le bs in omega (arith, k)) | false ↦ omega arith ]

spaced-starts : {n : ℕ} {t : Tree} {old new : List ℕ} → Spaced n t old new → Starts (skip old)
spaced-starts (spaced begin end f v g) = subst Starts (sym (skips f (starts-blank begin (value-starts v)))) (value-starts v)

items-starts : {n : ℕ} {ts : List Tree} {old new : List ℕ} → Items n ts old new → Starts (skip old)
items-starts (last_item p) = spaced-starts p
items-starts (more_items mid p is) = spaced-starts p

name-starts : {chars old new : List ℕ} → Name chars old new → Starts (skip old)
name-starts (name_here ps begin end f is e g) = subst Starts (sym (skips f refl)) (refl, λ e. absurd (omega arith), λ e. absurd (omega arith))

members-starts : {n : ℕ} {before ms : List (List ℕ × Tree)} {old new : List ℕ} → Members n before ms old new → Starts (skip old)
members-starts (last_member name t mid a p e) = name-starts a
members-starts (more_members name t mid next a p ms) = name-starts a

starts-length : (bs : List ℕ) → Starts bs → 0 < length bs
starts-length [] s = absurd s
starts-length (b ∷ bs) s = omega arith

list_opens : (value : List ℕ → Read Tree) (bs : List ℕ) → Starts bs → list_of value bs ≡ items_at value (length bs) bs
list_opens value [] s = absurd s
list_opens value (b ∷ bs) s = ap (λ t. cond t (Ok ([], bs)) (items_at value (length (b ∷ bs)) (b ∷ bs))) (false_from_ne_true _ (λ e. s.1 ((Decides-eqb b 93).0 e)))

object_opens : (value : List ℕ → Read Tree) (bs : List ℕ) → Starts bs → object_of value bs ≡ members_at value (length bs) [] bs
object_opens value [] s = absurd s
object_opens value (b ∷ bs) s = ap (λ t. cond t (Ok ([], bs)) (members_at value (length (b ∷ bs)) [] (b ∷ bs))) (false_from_ne_true _ (λ e. s.2 ((Decides-eqb b 125).0 e)))

items_at-skip : (value : List ℕ → Read Tree) (k : ℕ) (bs : List ℕ) → 0 < k → items_at value k (skip bs) ≡ items_at value k bs
unfolding items_at item_at
items_at-skip value zero bs h = absurd (omega arith)
items_at-skip value (suc k) bs h = ap (λ xs. (value xs >>= (λ x. mark_at 93 (skip x.1) >>= (λ y. Ok ((x.0, y.0), y.1)))) >>= items_then (items_at value k)) (skip_twice bs)

members_at-skip : (value : List ℕ → Read Tree) (k : ℕ) (before : List (List ℕ × Tree)) (bs : List ℕ) → 0 < k → members_at value k before (skip bs) ≡ members_at value k before bs
unfolding members_at member_at
members_at-skip value zero before bs h = absurd (omega arith)
members_at-skip value (suc k) before bs h = ap (λ xs. (name_at xs >>= (λ x. value (skip x.1) >>= (λ y. mark_at 125 (skip y.1) >>= (λ z. Ok (((x.0, y.0), z.0), z.1))))) >>= members_then (members_at value k) before) (skip_twice bs)

item_again : (value : List ℕ → Read Tree) (bs : List ℕ) (t : Tree) (end new : List ℕ) (b : Bool) → value (skip bs) ≡ Ok (t, end) → mark_at 93 (skip end) ≡ Ok (b, new) → item_at value bs ≡ Ok ((t, b), new)
unfolding item_at
item_again value bs t end new b h m = ap (λ r. r >>= (λ x. mark_at 93 (skip x.1) >>= (λ y. Ok ((x.0, y.0), y.1)))) h ∙ ap (λ r. r >>= (λ y. Ok ((t, y.0), y.1))) m

items_turn : (value : List ℕ → Read Tree) (k : ℕ) (bs : List ℕ) (t : Tree) (b : Bool) (new : List ℕ) → item_at value bs ≡ Ok ((t, b), new) → items_at value (suc k) bs ≡ items_then (items_at value k) ((t, b), new)
unfolding items_at
items_turn value k bs t b new h = ap (λ r. r >>= items_then (items_at value k)) h

member_again : (value : List ℕ → Read Tree) (bs : List ℕ) (name mid : List ℕ) (t : Tree) (end new : List ℕ) (b : Bool) → name_at (skip bs) ≡ Ok (name, mid) → value (skip mid) ≡ Ok (t, end) → mark_at 125 (skip end) ≡ Ok (b, new) → member_at value bs ≡ Ok (((name, t), b), new)
unfolding member_at
member_again value bs name mid t end new b n h m =
    ap (λ r. r >>= (λ x. value (skip x.1) >>= (λ y. mark_at 125 (skip y.1) >>= (λ z. Ok (((x.0, y.0), z.0), z.1))))) n
    ∙ ap (λ r. r >>= (λ y. mark_at 125 (skip y.1) >>= (λ z. Ok (((name, y.0), z.0), z.1)))) h
    ∙ ap (λ r. r >>= (λ z. Ok (((name, t), z.0), z.1))) m

members_turn : (value : List ℕ → Read Tree) (k : ℕ) (before : List (List ℕ × Tree)) (bs : List ℕ) (name : List ℕ) (t : Tree) (b : Bool) (new : List ℕ) → member_at value bs ≡ Ok (((name, t), b), new) → members_at value (suc k) before bs ≡ members_then (members_at value k) before (((name, t), b), new)
unfolding members_at
members_turn value k before bs name t b new h = ap (λ r. r >>= members_then (members_at value k) before) h

with_number : (items : List ℕ → Read (List Tree)) (members : List ℕ → Read (List (List ℕ × Tree))) (b : ℕ) (bs : List ℕ) → is_digit b ≡ true → value_with items members (b ∷ bs) ≡ number_at (b ∷ bs)
with_number items members b bs h =
    let a : (b == 110) ≡ false = grind (arith, nat_tests) in
    let c : (b == 116) ≡ false = grind (arith, nat_tests) in
    let d : (b == 102) ≡ false = grind (arith, nat_tests) in
    let e : (b == 34) ≡ false = grind (arith, nat_tests) in
    let f : (b == 91) ≡ false = grind (arith, nat_tests) in
    let g : (b == 123) ≡ false = grind (arith, nat_tests) in
    rw (a, c, d, e, f, g) refl

with_digits : (items : List ℕ → Read (List Tree)) (members : List ℕ → Read (List (List ℕ × Tree))) {ds : List ℕ} (new : List ℕ) → IsNumber ds → value_with items members (ds ++ new) ≡ number_at (ds ++ new)
with_digits items members new (unsigned {ds} s) = let h = unsigned_head ds s in subst (λ xs. value_with items members (xs ++ new) ≡ number_at (xs ++ new)) (sym h.3) (with_number items members h.0 (h.1 ++ new) h.2)
with_digits items members new (minus_and s) = refl

-- each form of a value is read, where nothing follows that a number goes on with
mutual
  unfolding number_at

  value_again : {n : ℕ} {t : Tree} {old new : List ℕ} → Value n t old new → NoMore new → value_at n old ≡ Ok (t, new)
  value_again (null_here {n} {new}) ok = sym (value_at-is n (110 ∷ 117 ∷ 108 ∷ 108 ∷ new))
  value_again (true_here {n} {new}) ok = sym (value_at-is n (116 ∷ 114 ∷ 117 ∷ 101 ∷ new))
  value_again (false_here {n} {new}) ok = sym (value_at-is n (102 ∷ 97 ∷ 108 ∷ 115 ∷ 101 ∷ new))
  value_again (number_here {n} ds {old} {new} w e) ok =
      ap (value_at n) e ∙ sym (value_at-is n (ds ++ new)) ∙ with_digits (list_below n) (object_below n) new w ∙ ap (λ r. r >>= (λ x. Ok (number x.0, x.1))) (number_again w new ok)
  value_again (text_here {n} ps {old} {new} is e) ok =
      sym (value_at-is n (34 ∷ old)) ∙ ap (λ r. r >>= (λ x. Ok (text x.0, x.1))) (chars_again is) ∙ ap (λ (t : Tree). Ok (t, new)) (sym e)
  value_again (no_items_here {n} {old} {new} g) ok =
      sym (value_at-is (suc n) (91 ∷ old)) ∙ ap (λ bs. list_of (value_at n) bs >>= (λ x. Ok (list (trees_of x.0), x.1))) (skips g refl)
  value_again (items_here {n} ts {old} {new} is e) ok =
      sym (value_at-is (suc n) (91 ∷ old))
      ∙ ap (λ r. r >>= (λ x. Ok (list (trees_of x.0), x.1)))
      (list_opens (value_at n) (skip old) (items-starts is) ∙ items_at-skip (value_at n) (length (skip old)) old (starts-length (skip old) (items-starts is)) ∙ items_again is (length (skip old)) (omega arith))
      ∙ ap (λ (t : Tree). Ok (t, new)) (sym e)
  value_again (no_members_here {n} {old} {new} g) ok =
      sym (value_at-is (suc n) (123 ∷ old)) ∙ ap (λ bs. object_of (value_at n) bs >>= (λ x. Ok (object (fields_of x.0), x.1))) (skips g refl)
  value_again (members_here {n} ms {old} {new} is e) ok =
      sym (value_at-is (suc n) (123 ∷ old))
      ∙ ap (λ r. r >>= (λ x. Ok (object (fields_of x.0), x.1)))
      (object_opens (value_at n) (skip old) (members-starts is) ∙ members_at-skip (value_at n) (length (skip old)) [] old (starts-length (skip old) (members-starts is)) ∙ members_again is (length (skip old)) (omega arith))
      ∙ ap (λ (t : Tree). Ok (t, new)) (sym e)

  spaced_again : {n : ℕ} {t : Tree} {old new : List ℕ} → Spaced n t old new → NoMore new → NoBlank new → (end : List ℕ) × (value_at n (skip old) ≡ Ok (t, end)) × (skip end ≡ new) × (length new ≤ length (skip old))
  spaced_again {n} {t} {old} {new} (spaced begin end f v g) ok nb =
      let e = skips f (starts-blank begin (value-starts v)) in
      (end, ap (value_at n) e ∙ value_again v (no_more-before g ok), skips g nb, (let a = ap length e in let b = value-le v in let c = blanks-le g in omega (arith, a, b, c)))

  items_again : {n : ℕ} {ts : List Tree} {old new : List ℕ} → Items n ts old new → (k : ℕ) → length (skip old) ≤ k → items_at (value_at n) k old ≡ Ok (ts, new)
  items_again (last_item {n} {t} {old} {new} p) zero h = absurd (let s = starts-length _ (spaced-starts p) in omega (arith, s))
  items_again (last_item {n} {t} {old} {new} p) (suc k) h =
      let r = spaced_again p (refl, refl, refl) refl in
      items_turn (value_at n) k old t false new (item_again (value_at n) old t r.0 new false r.1 (ap (mark_at 93) r.2 ∙ mark_close 93 new refl))
  items_again (more_items {n} {t} {ts} {old} {new} mid p is) zero h = absurd (let s = starts-length _ (spaced-starts p) in omega (arith, s))
  items_again (more_items {n} {t} {ts} {old} {new} mid p is) (suc k) h =
      let r = spaced_again p (refl, refl, refl) refl in
      items_turn (value_at n) k old t true mid (item_again (value_at n) old t r.0 mid true r.1 (ap (mark_at 93) r.2))
      ∙ ap (with_items (t ∷ [])) (items_again is k (let a = skip-le mid in let b = r.3 in omega (arith, a, b)))

  members_again : {n : ℕ} {before ms : List (List ℕ × Tree)} {old new : List ℕ} → Members n before ms old new → (k : ℕ) → length (skip old) ≤ k → members_at (value_at n) k before old ≡ Ok (ms, new)
  members_again (last_member {n} {ms} name t {before} {old} {new} mid a p e) zero h = absurd (let s = starts-length _ (name-starts a) in omega (arith, s))
  members_again (last_member {n} {ms} name t {before} {old} {new} mid a p e) (suc k) h =
      let r = spaced_again p (refl, refl, refl) refl in
      members_turn (value_at n) k before old name t false new (member_again (value_at n) old name mid t r.0 new false (name_again a) r.1 (ap (mark_at 125) r.2 ∙ mark_close 125 new refl))
      ∙ ap (λ (xs : List (List ℕ × Tree)). Ok (xs, new)) (sym e)
  members_again (more_members {n} {ms} name t {before} {old} {new} mid next a p is) zero h = absurd (let s = starts-length _ (name-starts a) in omega (arith, s))
  members_again (more_members {n} {ms} name t {before} {old} {new} mid next a p is) (suc k) h =
      let r = spaced_again p (refl, refl, refl) refl in
      members_turn (value_at n) k before old name t true next (member_again (value_at n) old name mid t r.0 next true (name_again a) r.1 (ap (mark_at 125) r.2))
      ∙ members_again is k (let x = skip-le next in let y = skip-le mid in let z = name-short a in let w = r.3 in omega (arith, x, y, z, w))

-- a JSON text is read
pub text_again : (n : ℕ) (bs : List ℕ) (t : Tree) → IsJson n bs t → text_of n bs ≡ Ok t
text_again n bs t p =
    let r = spaced_again p tt tt in
    ap (λ r. r >>= (λ x. end_of x.0 (skip x.1))) r.1 ∙ ap (end_of t) r.2
