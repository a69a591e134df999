-- What is read is in the grammar.
use Rattle.std.proofs.Common.{◌≡◌, ℕ, zero, suc, ◌⊎◌, Bool, true, false, cond, List, [], ◌∷◌, ◌++◌, length, Result, Ok, Err, refl, sym, ap, ◌∙◌, subst, append_assoc, inl, inr, Option, None, Some, ⊎_elim}
use Rattle.std.specs.Prelude.{◌==◌, codes}
use Rattle.std.proofs.lemmas.Bool.Decides.{Decides-eqb}
use Rattle.project_json.specs.Tree.{Tree, null, truth, number, text, list, object, trees_of, fields_of}
use Rattle.project_json.specs.Bytes.{AllTrue, Blanks, is_blank, is_digit}
use Rattle.project_json.specs.Numbers.{IsInt, lone_zero, nonzero_and, is_nonzero_digit, IsDigits, IsFraction, no_fraction, point_and, IsExponent, no_exponent, e_and, e_sign_and, IsUnsigned, IsNumber, unsigned, minus_and, is_e, is_sign}
use Rattle.project_json.specs.Strings.{Piece, byte, unit, unit_of, joined, PieceAt, unescaped_here, escape_here, unit_here, Pieces, no_pieces, piece_and, is_unescaped, is_hex, is_escape, escaped}
use Rattle.project_json.specs.Grammar.{put, Value, null_here, true_here, false_here, number_here, text_here, no_items_here, items_here, no_members_here, members_here, Spaced, spaced, Items, last_item, more_items, Members, last_member, more_members, Name, name_here, IsJson}
use Rattle.project_json.specs.Reading.{Fault, syntax, Read, ◌>>=◌, skip, after_word, after_byte, digits, after_digits, int_at, with_front, some_digits_at, fraction_at, signed_digits_at, exponent_at, unsigned_at, digits_at, number_at, hex_at, unit_at, escape_at, piece_at, pieces_then, pieces_at, chars_at, value_with, mark_at, item_at, with_items, items_then, items_at, list_of, list_at, name_at, member_at, members_then, members_at, object_of, object_at, too_deep_at, value_at, end_of, text_of}

pub bind_ok : {A B : Type 0} (r : Result A Fault) (f : A → Result B Fault) (y : B) → (r >>= f) ≡ Ok y → (x : A) × (r ≡ Ok x) × (f x ≡ Ok y)
bind_ok (Ok x) f y h = (x, refl, h)
bind_ok (Err e) f y h = absurd (cc)

pub chosen : {A : Type 0} (b : Bool) (x y z : A) → cond b x y ≡ z → ((b ≡ true) × (x ≡ z)) ⊎ ((b ≡ false) × (y ≡ z))
chosen true x y z h = inl (refl, h)
chosen false x y z h = inr (refl, h)

pub ok_same : {A : Type 0} (x y : A) → ◌≡◌ {A = Result A Fault} (Ok x) (Ok y) → x ≡ y
ok_same x y h = cc

pub blanks : (bs : List ℕ) → Blanks bs (skip bs)
blanks [] = ([], tt, refl)
blanks (b ∷ bs) =
    elim (is_blank b) as (λ t. is_blank b ≡ t → Blanks (b ∷ bs) (cond t (skip bs) (b ∷ bs))) [
      | true ↦ λ e. let more = blanks bs in (b ∷ more.0, (e, more.1), ap (λ xs. b ∷ xs) more.2)
      | false ↦ λ e. ([], tt, refl)
    ] refl

pub word_is : (word bs rest : List ℕ) → after_word word bs ≡ Ok rest → bs ≡ word ++ rest
word_is [] bs rest h = ok_same bs rest h
word_is (w ∷ ws) [] rest h = absurd (cc)
word_is (w ∷ ws) (b ∷ bs) rest h =
    ⊎_elim (λ p. ap (λ x. x ∷ bs) ((Decides-eqb b w).0 p.0) ∙ ap (λ xs. w ∷ xs) (word_is ws bs rest p.1)) (λ p. absurd (let e = p.1 in cc)) (chosen (b == w) (after_word ws bs) (Err (syntax (length (b ∷ bs)))) (Ok rest) h)

hex_is : (bs : List ℕ) (x : ℕ × List ℕ) → hex_at bs ≡ Ok x → (is_hex x.0 ≡ true) × (bs ≡ x.0 ∷ x.1)
hex_is [] x h = absurd (cc)
hex_is (b ∷ bs) x h =
    ⊎_elim (λ p. subst (λ y. (is_hex y.0 ≡ true) × (b ∷ bs ≡ y.0 ∷ y.1)) (ok_same (b, bs) x p.1) (p.0, refl)) (λ p. absurd (let e = p.1 in cc)) (chosen (is_hex b) (Ok (b, bs)) (Err (syntax (length (b ∷ bs)))) (Ok x) h)

unit_is : (bs : List ℕ) (x : Piece × List ℕ) → unit_at bs ≡ Ok x → PieceAt x.0 (92 ∷ 117 ∷ bs) x.1
unit_is bs x h =
    let a = bind_ok (hex_at bs) (λ a. hex_at a.1 >>= (λ b. hex_at b.1 >>= (λ c. hex_at c.1 >>= (λ d. Ok (unit (unit_of a.0 b.0 c.0 d.0), d.1))))) x h in
    let b = bind_ok (hex_at a.0.1) (λ b. hex_at b.1 >>= (λ c. hex_at c.1 >>= (λ d. Ok (unit (unit_of a.0.0 b.0 c.0 d.0), d.1)))) x a.2 in
    let c = bind_ok (hex_at b.0.1) (λ c. hex_at c.1 >>= (λ d. Ok (unit (unit_of a.0.0 b.0.0 c.0 d.0), d.1))) x b.2 in
    let d = bind_ok (hex_at c.0.1) (λ d. Ok (unit (unit_of a.0.0 b.0.0 c.0.0 d.0), d.1)) x c.2 in
    let p = hex_is bs a.0 a.1 in
    let q = hex_is a.0.1 b.0 b.1 in
    let r = hex_is b.0.1 c.0 c.1 in
    let s = hex_is c.0.1 d.0 d.1 in
    let e : bs ≡ a.0.0 ∷ b.0.0 ∷ c.0.0 ∷ d.0.0 ∷ d.0.1 = p.1 ∙ ap (λ xs. a.0.0 ∷ xs) (q.1 ∙ ap (λ xs. b.0.0 ∷ xs) (r.1 ∙ ap (λ xs. c.0.0 ∷ xs) s.1)) in
    subst (λ y. PieceAt y.0 (92 ∷ 117 ∷ bs) y.1) (ok_same (unit (unit_of a.0.0 b.0.0 c.0.0 d.0.0), d.0.1) x d.2)
    (subst (λ xs. PieceAt (unit (unit_of a.0.0 b.0.0 c.0.0 d.0.0)) (92 ∷ 117 ∷ xs) d.0.1) (sym e) (unit_here (p.0, (q.0, (r.0, (s.0, tt))))))

escape_is : (bs : List ℕ) (x : Piece × List ℕ) → escape_at bs ≡ Ok x → PieceAt x.0 (92 ∷ bs) x.1
escape_is [] x h = absurd (cc)
escape_is (b ∷ bs) x h =
    ⊎_elim
    (λ p. subst (λ c. PieceAt x.0 (92 ∷ c ∷ bs) x.1) (sym ((Decides-eqb b 117).0 p.0)) (unit_is bs x p.1))
    (λ p. ⊎_elim
    (λ q. subst (λ y. PieceAt y.0 (92 ∷ b ∷ bs) y.1) (ok_same (byte (escaped b), bs) x q.1) (escape_here q.0))
    (λ q. absurd (let e = q.1 in cc))
    (chosen (is_escape b) (Ok (byte (escaped b), bs)) (Err (syntax (length (b ∷ bs)))) (Ok x) p.1))
    (chosen (b == 117) (unit_at bs) (cond (is_escape b) (Ok (byte (escaped b), bs)) (Err (syntax (length (b ∷ bs))))) (Ok x) h)

abbrev pub PieceIs : Option Piece → List ℕ → List ℕ → Type 0
PieceIs None old new = old ≡ 34 ∷ new
PieceIs (Some p) old new = PieceAt p old new

pub piece_is : (bs : List ℕ) (x : Option Piece × List ℕ) → piece_at bs ≡ Ok x → PieceIs x.0 bs x.1
piece_is [] x h = absurd (cc)
piece_is (b ∷ bs) x h =
    let plain : Read (Option Piece) = cond (is_unescaped b) (Ok (Some (byte b), bs)) (Err (syntax (length (b ∷ bs)))) in
    ⊎_elim
    (λ p. subst (λ y. PieceIs y.0 (b ∷ bs) y.1) (ok_same (None, bs) x p.1) (ap (λ c. c ∷ bs) ((Decides-eqb b 34).0 p.0)))
    (λ p. ⊎_elim
    (λ q. let y = bind_ok (escape_at bs) (λ x. Ok (Some x.0, x.1)) x q.1 in
    subst (λ z. PieceIs z.0 (b ∷ bs) z.1) (ok_same (Some y.0.0, y.0.1) x y.2)
    (subst (λ c. PieceAt y.0.0 (c ∷ bs) y.0.1) (sym ((Decides-eqb b 92).0 q.0)) (escape_is bs y.0 y.1)))
    (λ q. ⊎_elim
    (λ r. subst (λ y. PieceIs y.0 (b ∷ bs) y.1) (ok_same (Some (byte b), bs) x r.1) (unescaped_here r.0))
    (λ r. absurd (let e = r.1 in cc))
    (chosen (is_unescaped b) (Ok (Some (byte b), bs)) (Err (syntax (length (b ∷ bs)))) (Ok x) q.1))
    (chosen (b == 92) (escape_at bs >>= (λ x. Ok (Some x.0, x.1))) plain (Ok x) p.1))
    (chosen (b == 34) (Ok (None, bs)) (cond (b == 92) (escape_at bs >>= (λ x. Ok (Some x.0, x.1))) plain) (Ok x) h)

pieces_from : (k : ℕ) (bs : List ℕ) (o : Option Piece) (mid : List ℕ) (x : List Piece × List ℕ) → ((bs : List ℕ) (x : List Piece × List ℕ) → pieces_at k bs ≡ Ok x → Pieces x.0 bs x.1) → PieceIs o bs mid → pieces_then (pieces_at k) o mid ≡ Ok x → Pieces x.0 bs x.1
pieces_from k bs None mid x go here h = subst (λ y. Pieces y.0 bs y.1) (ok_same ([], mid) x h) (subst (λ xs. Pieces [] xs mid) (sym here) no_pieces)
pieces_from k bs (Some p) mid x go here h =
    let y = bind_ok (pieces_at k mid) (λ x. Ok (p ∷ x.0, x.1)) x h in
    subst (λ z. Pieces z.0 bs z.1) (ok_same (p ∷ y.0.0, y.0.1) x y.2) (piece_and mid here (go mid y.0 y.1))

pieces_are : (k : ℕ) (bs : List ℕ) (x : List Piece × List ℕ) → pieces_at k bs ≡ Ok x → Pieces x.0 bs x.1
unfolding pieces_at
pieces_are zero bs x h = absurd (cc)
pieces_are (suc k) bs x h =
    let a = bind_ok (piece_at bs) (λ x. pieces_then (pieces_at k) x.0 x.1) x h in
    pieces_from k bs a.0.0 a.0.1 x (pieces_are k) (piece_is bs a.0 a.1) a.2

pub chars_are : (bs : List ℕ) (x : List ℕ × List ℕ) → chars_at bs ≡ Ok x → (ps : List Piece) × Pieces ps bs x.1 × (x.0 ≡ joined ps)
unfolding chars_at
chars_are bs x h =
    let a = bind_ok (pieces_at (length bs) bs) (λ x. Ok (joined x.0, x.1)) x h in
    let e = ok_same (joined a.0.0, a.0.1) x a.2 in
    (a.0.0, subst (λ y. Pieces a.0.0 bs y.1) e (pieces_are (length bs) bs a.0 a.1), ap (λ (y : List ℕ × List ℕ). y.0) (sym e))

digits_front : (bs : List ℕ) → bs ≡ digits bs ++ after_digits bs
digits_front [] = refl
digits_front (b ∷ bs) = elim (is_digit b) as (λ t. b ∷ bs ≡ cond t (b ∷ digits bs) [] ++ cond t (after_digits bs) (b ∷ bs)) [ true ↦ ap (λ xs. b ∷ xs) (digits_front bs) | false ↦ refl ]

digits_all : (bs : List ℕ) → AllTrue is_digit (digits bs)
digits_all [] = tt
digits_all (b ∷ bs) = elim (is_digit b) as (λ t. is_digit b ≡ t → AllTrue is_digit (cond t (b ∷ digits bs) [])) [ true ↦ λ e. (e, digits_all bs) | false ↦ λ e. tt ] refl

pub int_is : (bs : List ℕ) (x : List ℕ × List ℕ) → int_at bs ≡ Ok x → IsInt x.0 × (bs ≡ x.0 ++ x.1)
int_is [] x h = absurd (cc)
int_is (b ∷ bs) x h =
    ⊎_elim
    (λ p. subst (λ y. IsInt y.0 × (b ∷ bs ≡ y.0 ++ y.1)) (ok_same _ x p.1) (lone_zero, ap (λ c. c ∷ bs) ((Decides-eqb b 48).0 p.0)))
    (λ p. ⊎_elim
    (λ q. subst (λ y. IsInt y.0 × (b ∷ bs ≡ y.0 ++ y.1)) (ok_same _ x q.1) (nonzero_and q.0 (digits_all bs), ap (λ xs. b ∷ xs) (digits_front bs)))
    (λ q. absurd (let e = q.1 in cc))
    (chosen (is_nonzero_digit b) (Ok (b ∷ digits bs, after_digits bs)) (Err (syntax (length (b ∷ bs)))) (Ok x) p.1))
    (chosen (b == 48) (Ok (48 ∷ [], bs)) (cond (is_nonzero_digit b) (Ok (b ∷ digits bs, after_digits bs)) (Err (syntax (length (b ∷ bs))))) (Ok x) h)

some_is : (bs : List ℕ) (x : List ℕ × List ℕ) → some_digits_at bs ≡ Ok x → IsDigits x.0 × (bs ≡ x.0 ++ x.1)
some_is [] x h = absurd (cc)
some_is (b ∷ bs) x h =
    ⊎_elim
    (λ p. subst (λ y. IsDigits y.0 × (b ∷ bs ≡ y.0 ++ y.1)) (ok_same (b ∷ digits bs, after_digits bs) x p.1) ((p.0, digits_all bs), ap (λ xs. b ∷ xs) (digits_front bs)))
    (λ p. absurd (let e = p.1 in cc))
    (chosen (is_digit b) (Ok (b ∷ digits bs, after_digits bs)) (Err (syntax (length (b ∷ bs)))) (Ok x) h)

fraction_is : (bs : List ℕ) (x : List ℕ × List ℕ) → fraction_at bs ≡ Ok x → IsFraction x.0 × (bs ≡ x.0 ++ x.1)
fraction_is [] x h = subst (λ y. IsFraction y.0 × ([] ≡ y.0 ++ y.1)) (ok_same ([], []) x h) (no_fraction, refl)
fraction_is (b ∷ bs) x h =
    ⊎_elim
    (λ p. let y = bind_ok (some_digits_at bs) (λ x. Ok (46 ∷ x.0, x.1)) x p.1 in
    let d = some_is bs y.0 y.1 in
    subst (λ z. IsFraction z.0 × (b ∷ bs ≡ z.0 ++ z.1)) (ok_same (46 ∷ y.0.0, y.0.1) x y.2) (point_and d.0, ap (λ c. c ∷ bs) ((Decides-eqb b 46).0 p.0) ∙ ap (λ xs. 46 ∷ xs) d.1))
    (λ p. subst (λ y. IsFraction y.0 × (b ∷ bs ≡ y.0 ++ y.1)) (ok_same ([], b ∷ bs) x p.1) (no_fraction, refl))
    (chosen (b == 46) (with_front (46 ∷ []) (some_digits_at bs)) (Ok ([], b ∷ bs)) (Ok x) h)

signed_digits_is : (c : ℕ) → is_e c ≡ true → (bs : List ℕ) (x : List ℕ × List ℕ) → signed_digits_at bs ≡ Ok x → IsExponent (c ∷ x.0) × (bs ≡ x.0 ++ x.1)
signed_digits_is c pc [] x h = absurd (cc)
signed_digits_is c pc (b ∷ bs) x h =
    ⊎_elim
    (λ p. let y = bind_ok (some_digits_at bs) (λ x. Ok (b ∷ x.0, x.1)) x p.1 in
    let d = some_is bs y.0 y.1 in
    subst (λ z. IsExponent (c ∷ z.0) × (b ∷ bs ≡ z.0 ++ z.1)) (ok_same (b ∷ y.0.0, y.0.1) x y.2) (e_sign_and pc p.0 d.0, ap (λ xs. b ∷ xs) d.1))
    (λ p. let d = some_is (b ∷ bs) x p.1 in (e_and pc d.0, d.1))
    (chosen (is_sign b) (with_front (b ∷ []) (some_digits_at bs)) (some_digits_at (b ∷ bs)) (Ok x) h)

exponent_is : (bs : List ℕ) (x : List ℕ × List ℕ) → exponent_at bs ≡ Ok x → IsExponent x.0 × (bs ≡ x.0 ++ x.1)
exponent_is [] x h = subst (λ y. IsExponent y.0 × ([] ≡ y.0 ++ y.1)) (ok_same ([], []) x h) (no_exponent, refl)
exponent_is (b ∷ bs) x h =
    ⊎_elim
    (λ p. let y = bind_ok (signed_digits_at bs) (λ x. Ok (b ∷ x.0, x.1)) x p.1 in
    let d = signed_digits_is b p.0 bs y.0 y.1 in
    subst (λ z. IsExponent z.0 × (b ∷ bs ≡ z.0 ++ z.1)) (ok_same (b ∷ y.0.0, y.0.1) x y.2) (d.0, ap (λ xs. b ∷ xs) d.1))
    (λ p. subst (λ y. IsExponent y.0 × (b ∷ bs ≡ y.0 ++ y.1)) (ok_same ([], b ∷ bs) x p.1) (no_exponent, refl))
    (chosen (is_e b) (with_front (b ∷ []) (signed_digits_at bs)) (Ok ([], b ∷ bs)) (Ok x) h)

unsigned_is : (bs : List ℕ) (x : List ℕ × List ℕ) → unsigned_at bs ≡ Ok x → IsUnsigned x.0 × (bs ≡ x.0 ++ x.1)
unsigned_is bs x h =
    let w = bind_ok (int_at bs) (λ w. with_front w.0 (fraction_at w.1 >>= (λ f. with_front f.0 (exponent_at f.1)))) x h in
    let g = bind_ok (fraction_at w.0.1 >>= (λ f. with_front f.0 (exponent_at f.1))) (λ y. Ok (w.0.0 ++ y.0, y.1)) x w.2 in
    let f = bind_ok (fraction_at w.0.1) (λ f. with_front f.0 (exponent_at f.1)) g.0 g.1 in
    let e = bind_ok (exponent_at f.0.1) (λ y. Ok (f.0.0 ++ y.0, y.1)) g.0 f.2 in
    let ww = int_is bs w.0 w.1 in
    let ff = fraction_is w.0.1 f.0 f.1 in
    let ee = exponent_is f.0.1 e.0 e.1 in
    subst (λ z. IsUnsigned z.0 × (bs ≡ z.0 ++ z.1)) (ok_same (w.0.0 ++ g.0.0, g.0.1) x g.2)
    (subst (λ (y : List ℕ × List ℕ). IsUnsigned (w.0.0 ++ y.0) × (bs ≡ (w.0.0 ++ y.0) ++ y.1)) (ok_same (f.0.0 ++ e.0.0, e.0.1) g.0 e.2) (
      (w.0.0, f.0.0, e.0.0, ww.0, ff.0, ee.0, refl),
      ww.1 ∙ ap (λ xs. w.0.0 ++ xs) (ff.1 ∙ ap (λ xs. f.0.0 ++ xs) ee.1) ∙ sym (append_assoc w.0.0 (f.0.0 ++ e.0.0) e.0.1 ∙ ap (λ xs. w.0.0 ++ xs) (append_assoc f.0.0 e.0.0 e.0.1)),
    ))

pub number_is : (bs : List ℕ) (x : List ℕ × List ℕ) → digits_at bs ≡ Ok x → IsNumber x.0 × (bs ≡ x.0 ++ x.1)
number_is [] x h = absurd (cc)
number_is (b ∷ bs) x h =
    ⊎_elim
    (λ p. let y = bind_ok (unsigned_at bs) (λ x. Ok (45 ∷ x.0, x.1)) x p.1 in
    let d = unsigned_is bs y.0 y.1 in
    subst (λ z. IsNumber z.0 × (b ∷ bs ≡ z.0 ++ z.1)) (ok_same (45 ∷ y.0.0, y.0.1) x y.2) (minus_and d.0, ap (λ c. c ∷ bs) ((Decides-eqb b 45).0 p.0) ∙ ap (λ xs. 45 ∷ xs) d.1))
    (λ p. let d = unsigned_is (b ∷ bs) x p.1 in (unsigned d.0, d.1))
    (chosen (b == 45) (with_front (45 ∷ []) (unsigned_at bs)) (unsigned_at (b ∷ bs)) (Ok x) h)

pub mark_is : (close : ℕ) (bs : List ℕ) (x : Bool × List ℕ) → mark_at close bs ≡ Ok x → bs ≡ cond x.0 44 close ∷ x.1
mark_is close [] x h = absurd (cc)
mark_is close (b ∷ bs) x h =
    ⊎_elim
    (λ p. subst (λ y. b ∷ bs ≡ cond y.0 44 close ∷ y.1) (ok_same (true, bs) x p.1) (ap (λ c. c ∷ bs) ((Decides-eqb b 44).0 p.0)))
    (λ p. ⊎_elim
    (λ q. subst (λ y. b ∷ bs ≡ cond y.0 44 close ∷ y.1) (ok_same (false, bs) x q.1) (ap (λ c. c ∷ bs) ((Decides-eqb b close).0 q.0)))
    (λ q. absurd (let e = q.1 in cc))
    (chosen (b == close) (Ok (false, bs)) (Err (syntax (length (b ∷ bs)))) (Ok x) p.1))
    (chosen (b == 44) (Ok (true, bs)) (cond (b == close) (Ok (false, bs)) (Err (syntax (length (b ∷ bs))))) (Ok x) h)

all_append : (p : ℕ → Bool) (xs ys : List ℕ) → AllTrue p xs → AllTrue p ys → AllTrue p (xs ++ ys)
all_append p [] ys h k = k
all_append p (x ∷ xs) ys h k = (h.0, all_append p xs ys h.1 k)

blanks_twice : {old mid new : List ℕ} → Blanks old mid → Blanks mid new → Blanks old new
blanks_twice {new = new} g h = (g.0 ++ h.0, all_append is_blank g.0 h.0 g.1 h.1, g.2 ∙ ap (λ xs. g.0 ++ xs) h.2 ∙ sym (append_assoc g.0 h.0 new))

spaced-front : {n : ℕ} {t : Tree} {old mid new : List ℕ} → Blanks old mid → Spaced n t mid new → Spaced n t old new
spaced-front g (spaced begin end f v e) = spaced begin end (blanks_twice g f) v e

items-front : {n : ℕ} {ts : List Tree} {old mid new : List ℕ} → Blanks old mid → Items n ts mid new → Items n ts old new
items-front g (last_item p) = last_item (spaced-front g p)
items-front g (more_items next p is) = more_items next (spaced-front g p) is

name-front : {chars old mid new : List ℕ} → Blanks old mid → Name chars mid new → Name chars old new
name-front g (name_here ps begin end f a e h) = name_here ps begin end (blanks_twice g f) a e h

members-front : {n : ℕ} {before ms : List (List ℕ × Tree)} {old mid new : List ℕ} → Blanks old mid → Members n before ms mid new → Members n before ms old new
members-front g (last_member name t mid a p e) = last_member name t mid (name-front g a) p e
members-front g (more_members name t mid next a p ms) = more_members name t mid next (name-front g a) p ms

pub name_is : (bs : List ℕ) (x : List ℕ × List ℕ) → name_at (skip bs) ≡ Ok x → Name x.0 bs x.1
name_is bs x h =
    let a = bind_ok (after_byte 34 (skip bs)) (λ rest. chars_at rest >>= (λ x. after_byte 58 (skip x.1) >>= (λ rest. Ok (x.0, rest)))) x h in
    let b = bind_ok (chars_at a.0) (λ x. after_byte 58 (skip x.1) >>= (λ rest. Ok (x.0, rest))) x a.2 in
    let c = bind_ok (after_byte 58 (skip b.0.1)) (λ rest. Ok (b.0.0, rest)) x b.2 in
    let chars = chars_are a.0 b.0 b.1 in
    subst (λ y. Name y.0 bs y.1) (ok_same _ x c.2)
    (name_here chars.0 a.0 b.0.1
    (subst (Blanks bs) (word_is (34 ∷ []) (skip bs) a.0 a.1) (blanks bs))
    chars.1 chars.2
    (subst (Blanks b.0.1) (word_is (58 ∷ []) (skip b.0.1) c.0 c.1) (blanks b.0.1)))

module _ (n : ℕ) (value : List ℕ → Read Tree) (is : (bs : List ℕ) (x : Tree × List ℕ) → value bs ≡ Ok x → Value n x.0 bs x.1) where
  pub item_is : (bs : List ℕ) (x : (Tree × Bool) × List ℕ) → item_at value bs ≡ Ok x → Spaced n x.0.0 bs (cond x.0.1 44 93 ∷ x.1)
  unfolding item_at
  item_is bs x h =
      let a = bind_ok (value (skip bs)) (λ x. mark_at 93 (skip x.1) >>= (λ y. Ok ((x.0, y.0), y.1))) x h in
      let b = bind_ok (mark_at 93 (skip a.0.1)) (λ y. Ok ((a.0.0, y.0), y.1)) x a.2 in
      subst (λ y. Spaced n y.0.0 bs (cond y.0.1 44 93 ∷ y.1)) (ok_same _ x b.2)
      (spaced (skip bs) a.0.1 (blanks bs) (is (skip bs) a.0 a.1) (subst (Blanks a.0.1) (mark_is 93 (skip a.0.1) b.0 b.1) (blanks a.0.1)))

  items_are : (k : ℕ) (bs : List ℕ) (x : List Tree × List ℕ) → items_at value k bs ≡ Ok x → Items n x.0 bs x.1
  unfolding items_at
  items_are zero bs x h = absurd (cc)
  items_are (suc k) bs x h =
      let a = bind_ok (item_at value bs) (items_then (items_at value k)) x h in
      let here = item_is bs a.0 a.1 in
      ⊎_elim
      (λ p. let y = bind_ok (items_at value k a.0.1) (λ y. Ok (a.0.0.0 ∷ y.0, y.1)) x p.1 in
      subst (λ z. Items n z.0 bs z.1) (ok_same _ x y.2)
      (more_items a.0.1 (subst (λ b. Spaced n a.0.0.0 bs (cond b 44 93 ∷ a.0.1)) p.0 here) (items_are k a.0.1 y.0 y.1)))
      (λ p. subst (λ z. Items n z.0 bs z.1) (ok_same (a.0.0.0 ∷ [], a.0.1) x p.1)
      (last_item (subst (λ b. Spaced n a.0.0.0 bs (cond b 44 93 ∷ a.0.1)) p.0 here)))
      (chosen a.0.0.1 (with_items (a.0.0.0 ∷ []) (items_at value k a.0.1)) (Ok (a.0.0.0 ∷ [], a.0.1)) (Ok x) a.2)

  list_from : (bs rest : List ℕ) (x : List Tree × List ℕ) → Blanks bs rest → list_of value rest ≡ Ok x → Value (suc n) (list (trees_of x.0)) (91 ∷ bs) x.1
  list_from bs [] x g h = absurd (cc)
  list_from bs (b ∷ rest) x g h =
      ⊎_elim
      (λ p. subst (λ z. Value (suc n) (list (trees_of z.0)) (91 ∷ bs) z.1) (ok_same ([], rest) x p.1) (no_items_here (subst (λ c. Blanks bs (c ∷ rest)) ((Decides-eqb b 93).0 p.0) g)))
      (λ p. items_here x.0 (items-front g (items_are (length (b ∷ rest)) (b ∷ rest) x p.1)) refl)
      (chosen (b == 93) (Ok ([], rest)) (items_at value (length (b ∷ rest)) (b ∷ rest)) (Ok x) h)

  list_is : (bs : List ℕ) (x : List Tree × List ℕ) → list_at value bs ≡ Ok x → Value (suc n) (list (trees_of x.0)) (91 ∷ bs) x.1
  list_is bs x h = list_from bs (skip bs) x (blanks bs) h

  members_are : (k : ℕ) (before : List (List ℕ × Tree)) (bs : List ℕ) (x : List (List ℕ × Tree) × List ℕ) → members_at value k before bs ≡ Ok x → Members n before x.0 bs x.1
  unfolding members_at member_at
  members_are zero before bs x h = absurd (cc)
  members_are (suc k) before bs x h =
      let m = bind_ok (member_at value bs) (members_then (members_at value k) before) x h in
      let a = bind_ok (name_at (skip bs)) (λ x. value (skip x.1) >>= (λ y. mark_at 125 (skip y.1) >>= (λ z. Ok (((x.0, y.0), z.0), z.1)))) m.0 m.1 in
      let b = bind_ok (value (skip a.0.1)) (λ y. mark_at 125 (skip y.1) >>= (λ z. Ok (((a.0.0, y.0), z.0), z.1))) m.0 a.2 in
      let c = bind_ok (mark_at 125 (skip b.0.1)) (λ z. Ok (((a.0.0, b.0.0), z.0), z.1)) m.0 b.2 in
      let e = ok_same (((a.0.0, b.0.0), c.0.0), c.0.1) m.0 c.2 in
      let name = name_is bs a.0 a.1 in
      let here = spaced (skip a.0.1) b.0.1 (blanks a.0.1) (is (skip a.0.1) b.0 b.1) (subst (Blanks b.0.1) (mark_is 125 (skip b.0.1) c.0 c.1) (blanks b.0.1)) in
      let goes = subst (λ z. members_then (members_at value k) before z ≡ Ok x) (sym e) m.2 in
      ⊎_elim
      (λ p. more_members a.0.0 b.0.0 a.0.1 c.0.1 name (subst (λ t. Spaced n b.0.0 a.0.1 (cond t 44 125 ∷ c.0.1)) p.0 here) (members_are k (put a.0.0 b.0.0 before) c.0.1 x p.1))
      (λ p. subst (λ z. Members n before z.0 bs z.1) (ok_same (put a.0.0 b.0.0 before, c.0.1) x p.1)
      (last_member a.0.0 b.0.0 a.0.1 name (subst (λ t. Spaced n b.0.0 a.0.1 (cond t 44 125 ∷ c.0.1)) p.0 here) refl))
      (chosen c.0.0 (members_at value k (put a.0.0 b.0.0 before) c.0.1) (Ok (put a.0.0 b.0.0 before, c.0.1)) (Ok x) goes)

  object_from : (bs rest : List ℕ) (x : List (List ℕ × Tree) × List ℕ) → Blanks bs rest → object_of value rest ≡ Ok x → Value (suc n) (object (fields_of x.0)) (123 ∷ bs) x.1
  object_from bs [] x g h = absurd (cc)
  object_from bs (b ∷ rest) x g h =
      ⊎_elim
      (λ p. subst (λ z. Value (suc n) (object (fields_of z.0)) (123 ∷ bs) z.1) (ok_same ([], rest) x p.1) (no_members_here (subst (λ c. Blanks bs (c ∷ rest)) ((Decides-eqb b 125).0 p.0) g)))
      (λ p. members_here x.0 (members-front g (members_are (length (b ∷ rest)) [] (b ∷ rest) x p.1)) refl)
      (chosen (b == 125) (Ok ([], rest)) (members_at value (length (b ∷ rest)) [] (b ∷ rest)) (Ok x) h)

-- one layer of a value, where what stands behind a bracket is known
with_is : (n : ℕ) (items : List ℕ → Read (List Tree)) (members : List ℕ → Read (List (List ℕ × Tree)))
    → ((bs : List ℕ) (x : List Tree × List ℕ) → items bs ≡ Ok x → Value n (list (trees_of x.0)) (91 ∷ bs) x.1)
    → ((bs : List ℕ) (x : List (List ℕ × Tree) × List ℕ) → members bs ≡ Ok x → Value n (object (fields_of x.0)) (123 ∷ bs) x.1)
    → (bs : List ℕ) (x : Tree × List ℕ) → value_with items members bs ≡ Ok x → Value n x.0 bs x.1
unfolding number_at
with_is n items members li oi [] x h = absurd (cc)
with_is n items members li oi (b ∷ bs) x h =
    let at = λ (c : ℕ). λ (e : (b == c) ≡ true). λ (v : Value n x.0 (c ∷ bs) x.1). subst (λ d. Value n x.0 (d ∷ bs) x.1) (sym ((Decides-eqb b c).0 e)) v in
    ⊎_elim (λ p. let a = bind_ok (after_word (codes "ull") bs) (λ rest. Ok (null, rest)) x p.1 in
    at 110 p.0 (subst (λ y. Value n y.0 (110 ∷ bs) y.1) (ok_same (null, a.0) x a.2) (subst (λ r. Value n null (110 ∷ r) a.0) (sym (word_is (codes "ull") bs a.0 a.1)) null_here)))
    (λ p. ⊎_elim (λ p. let a = bind_ok (after_word (codes "rue") bs) (λ rest. Ok (truth true, rest)) x p.1 in
    at 116 p.0 (subst (λ y. Value n y.0 (116 ∷ bs) y.1) (ok_same (truth true, a.0) x a.2) (subst (λ r. Value n (truth true) (116 ∷ r) a.0) (sym (word_is (codes "rue") bs a.0 a.1)) true_here)))
    (λ p. ⊎_elim (λ p. let a = bind_ok (after_word (codes "alse") bs) (λ rest. Ok (truth false, rest)) x p.1 in
    at 102 p.0 (subst (λ y. Value n y.0 (102 ∷ bs) y.1) (ok_same (truth false, a.0) x a.2) (subst (λ r. Value n (truth false) (102 ∷ r) a.0) (sym (word_is (codes "alse") bs a.0 a.1)) false_here)))
    (λ p. ⊎_elim (λ p. let a = bind_ok (chars_at bs) (λ x. Ok (text x.0, x.1)) x p.1 in
    let chars = chars_are bs a.0 a.1 in
    at 34 p.0 (subst (λ y. Value n y.0 (34 ∷ bs) y.1) (ok_same (text a.0.0, a.0.1) x a.2) (text_here chars.0 chars.1 (ap (λ xs. text xs) chars.2))))
    (λ p. ⊎_elim (λ p. let a = bind_ok (items bs) (λ x. Ok (list (trees_of x.0), x.1)) x p.1 in
    at 91 p.0 (subst (λ y. Value n y.0 (91 ∷ bs) y.1) (ok_same (list (trees_of a.0.0), a.0.1) x a.2) (li bs a.0 a.1)))
    (λ p. ⊎_elim (λ p. let a = bind_ok (members bs) (λ x. Ok (object (fields_of x.0), x.1)) x p.1 in
    at 123 p.0 (subst (λ y. Value n y.0 (123 ∷ bs) y.1) (ok_same (object (fields_of a.0.0), a.0.1) x a.2) (oi bs a.0 a.1)))
    (λ p. let a = bind_ok (digits_at (b ∷ bs)) (λ x. Ok (number x.0, x.1)) x p.1 in
    let whole = number_is (b ∷ bs) a.0 a.1 in
    subst (λ y. Value n y.0 (b ∷ bs) y.1) (ok_same (number a.0.0, a.0.1) x a.2) (number_here a.0.0 whole.0 whole.1))
    (chosen _ _ _ _ p.1)) (chosen _ _ _ _ p.1)) (chosen _ _ _ _ p.1)) (chosen _ _ _ _ p.1)) (chosen _ _ _ _ p.1)) (chosen _ _ _ _ h)

-- what is read is a value
pub value_is : (n : ℕ) (bs : List ℕ) (x : Tree × List ℕ) → value_at n bs ≡ Ok x → Value n x.0 bs x.1
unfolding value_at
value_is zero = with_is zero too_deep_at too_deep_at (λ bs x h. absurd (cc)) (λ bs x h. absurd (cc))
value_is (suc n) = with_is (suc n) (list_at (value_at n)) (object_at (value_at n)) (list_is n (value_at n) (value_is n)) (λ bs x h. object_from n (value_at n) (value_is n) bs (skip bs) x (blanks bs) h)

end_is : (t u : Tree) (bs : List ℕ) → end_of t bs ≡ Ok u → (t ≡ u) × (bs ≡ [])
end_is t u [] h = (ok_same t u h, refl)
end_is t u (b ∷ bs) h = absurd (cc)

-- what is read is a JSON text of that tree
pub text_is : (n : ℕ) (bs : List ℕ) (t : Tree) → text_of n bs ≡ Ok t → IsJson n bs t
text_is n bs t h =
    let a = bind_ok (value_at n (skip bs)) (λ x. end_of x.0 (skip x.1)) t h in
    let e = end_is a.0.0 t (skip a.0.1) a.2 in
    subst (λ u. Spaced n u bs []) e.0 (spaced (skip bs) a.0.1 (blanks bs) (value_is n (skip bs) a.0 a.1) (subst (Blanks a.0.1) e.1 (blanks a.0.1)))
