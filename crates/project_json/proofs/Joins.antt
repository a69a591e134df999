-- Steps of the loops over parts, and the pieces of a number.
use Rattle.std.proofs.Common.{◌≡◌, ℕ, suc, ◌+◌, List, [], ◌++◌, length, take, drop, Option, None, Some, Ok, Err, refl, sym, ap, ◌∙◌, arith, append_assoc}
use Rattle.std.proofs.Math.Seq.{take-add, drop-drop}
use Rattle.project_json.proofs.Joined.{joined_is}
use Rattle.project_json.specs.declared.stop.Stop.{Stop}
use Rattle.project_json.specs.declared.stop.Stop.TheVariants as stop
use Rattle.project_json.specs.Strings.{Piece, joined}
use Rattle.project_json.specs.Joining.{flushed, added, waiting, joined_from}
use Rattle.project_json.specs.Reading.{Fault, syntax, too_deep, Fails, Read, ◌>>=◌, piece_at, pieces_then, pieces_at, chars_at, with_piece, int_at, fraction_at, exponent_at, unsigned_at, with_front}

-- the text so far, and then what is left
abbrev pub joins : List ℕ → Option ℕ → Read (List Piece) → Read (List ℕ)
joins front h read = read >>= (λ x. Ok (front ++ joined_from h x.0, x.1))

turn : (n k : ℕ) (bs : List ℕ) → k ≡ suc n → pieces_at k bs ≡ piece_at bs >>= (λ x. pieces_then (pieces_at n) x.0 x.1)
unfolding pieces_at
turn n k bs e = ap (λ j. pieces_at j bs) e

joins_piece : (front : List ℕ) (h : Option ℕ) (p : Piece) (read : Read (List Piece)) → joins front h (with_piece p read) ≡ joins (front ++ added h p) (waiting h p) read
joins_piece front h p (Ok x) = ap (λ (xs : List ℕ). Ok (xs, x.1)) (sym (append_assoc front (added h p) (joined_from (waiting h p) x.0)))
joins_piece front h p (Err e) = refl

pub joins_more : (front : List ℕ) (h : Option ℕ) (n k : ℕ) (bs : List ℕ) (p : Piece) (rest : List ℕ) → k ≡ suc n → piece_at bs ≡ Ok (Some p, rest) → joins (front ++ added h p) (waiting h p) (pieces_at n rest) ≡ joins front h (pieces_at k bs)
joins_more front h n k bs p rest e g = sym (ap (joins front h) (turn n k bs e ∙ ap (λ r. r >>= (λ x. pieces_then (pieces_at n) x.0 x.1)) g) ∙ joins_piece front h p (pieces_at n rest))

pub joins_end : (front : List ℕ) (h : Option ℕ) (n k : ℕ) (bs : List ℕ) (rest : List ℕ) → k ≡ suc n → piece_at bs ≡ Ok (None, rest) → joins front h (pieces_at k bs) ≡ Ok (front ++ flushed h, rest)
joins_end front h n k bs rest e g = ap (joins front h) (turn n k bs e ∙ ap (λ r. r >>= (λ x. pieces_then (pieces_at n) x.0 x.1)) g)

pub joins_fail : (front : List ℕ) (h : Option ℕ) (n k : ℕ) (bs : List ℕ) (f : Fault) → k ≡ suc n → piece_at bs ≡ Err f → joins front h (pieces_at k bs) ≡ Err f
joins_fail front h n k bs f e g = ap (joins front h) (turn n k bs e ∙ ap (λ r. r >>= (λ x. pieces_then (pieces_at n) x.0 x.1)) g)

pub joins_over : (front : List ℕ) (h : Option ℕ) (k : ℕ) (bs : List ℕ) → k ≡ 0 → joins front h (pieces_at k bs) ≡ Err (syntax (length bs))
unfolding pieces_at
joins_over front h k bs e = ap (λ j. joins front h (pieces_at j bs)) e

pub joins_start : (read : Read (List Piece)) → joins [] None read ≡ read >>= (λ x. Ok (joined x.0, x.1))
joins_start (Ok x) = ap (λ (xs : List ℕ). Ok (xs, x.1)) (sym (joined_is x.0))
joins_start (Err e) = refl

pub ruleset joins_rules = (joins_more, joins_end, joins_fail, joins_over, joins_start)

pub chars_joins : (bs : List ℕ) → chars_at bs ≡ joins [] None (pieces_at (length bs) bs)
unfolding chars_at
chars_joins bs = sym (joins_start (pieces_at (length bs) bs))

-- a fault of a part is the fault of the text
pub chars_stop : (e : Stop) (front : List ℕ) (h : Option ℕ) (n k : ℕ) (rest bs : List ℕ) → k ≡ suc n → Fails e (piece_at rest) → joins front h (pieces_at k rest) ≡ joins [] None (pieces_at (length bs) bs) → Fails e (chars_at bs)
chars_stop stop.NoMemory front h n k rest bs e f g = tt
chars_stop (stop.Syntax left) front h n k rest bs e f g = chars_joins bs ∙ sym g ∙ joins_fail front h n k rest (syntax left) e f
chars_stop (stop.TooDeep left) front h n k rest bs e f g = chars_joins bs ∙ sym g ∙ joins_fail front h n k rest (too_deep left) e f

pub unsigned_is : (bs : List ℕ) (w f e : ℕ) → int_at bs ≡ Ok (take w bs, drop w bs) → fraction_at (drop w bs) ≡ Ok (take f (drop w bs), drop f (drop w bs)) → exponent_at (drop f (drop w bs)) ≡ Ok (take e (drop f (drop w bs)), drop e (drop f (drop w bs))) → unsigned_at bs ≡ Ok (take (w + f + e) bs, drop (w + f + e) bs)
unsigned_is bs w f e h k l =
    let sum : w + f + e ≡ w + (f + e) = omega arith in
    let all : take (w + f + e) bs ≡ take w bs ++ (take f (drop w bs) ++ take e (drop f (drop w bs))) = ap (λ n. take n bs) sum ∙ take-add w (f + e) bs ∙ ap (λ xs. take w bs ++ xs) (take-add f e (drop w bs)) in
    let rest : drop (w + f + e) bs ≡ drop e (drop f (drop w bs)) = ap (λ n. drop n bs) sum ∙ sym (drop-drop (f + e) w bs) ∙ sym (drop-drop e f (drop w bs)) in
    ap (λ r. r >>= (λ w. with_front w.0 (fraction_at w.1 >>= (λ f. with_front f.0 (exponent_at f.1))))) h
    ∙ ap (λ r. with_front (take w bs) (r >>= (λ f. with_front f.0 (exponent_at f.1)))) k
    ∙ ap (λ r. with_front (take w bs) (with_front (take f (drop w bs)) r)) l
    ∙ ap (λ (xs : List ℕ). Ok (xs, drop e (drop f (drop w bs)))) (sym all)
    ∙ ap (λ (xs : List ℕ). Ok (take (w + f + e) bs, xs)) (sym rest)
