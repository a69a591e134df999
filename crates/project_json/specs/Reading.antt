-- How the reader goes, as functions on lists: a part and the bytes after it, or the first fault and how many bytes are left there.
-- Private functions alone cite these. What `read` promises is said by the grammar.
use Rattle.std.specs.Prelude.{◌≡◌, ℕ, zero, suc, List, [], ◌∷◌, ◌++◌, length, Bool, true, false, ◌==◌, if◌then◌else◌, Option, None, Some, Result, Ok, Err, codes}
use Rattle.std.specs.Str.{IsUtf8}
use Rattle.project_json.specs.Tree.{Tree, null, truth, number, text, list, object, trees_of, fields_of}
use Rattle.project_json.specs.Bytes.{is_blank, is_digit}
use Rattle.project_json.specs.Numbers.{is_nonzero_digit, is_e, is_sign}
use Rattle.project_json.specs.Strings.{Piece, byte, unit, unit_of, is_unescaped, is_escape, escaped, is_hex, joined}
use Rattle.project_json.specs.Grammar.{put}
use Rattle.project_json.specs.declared.stop.Stop.{Stop}
use Rattle.project_json.specs.declared.stop.Stop.TheVariants as stop

-- UTF-8, as one word that no tactic opens
unfoldable pub Utf8 : List ℕ → Type 0
Utf8 bs = IsUtf8 bs

pub data Fault : Type 0 where
  syntax : ℕ → Fault
  too_deep : ℕ → Fault

-- a part of type A and the bytes after it, or the fault
abbrev pub Read : Type 0 → Type 0
Read A = Result (A × List ℕ) Fault

infixl 10 ◌>>=◌
abbrev pub ◌>>=◌ : {A B : Type 0} → Result A Fault → (A → Result B Fault) → Result B Fault
(Ok x) >>= f = f x
(Err e) >>= f = Err e

abbrev pub Fails : {Y : Type 0} → Stop → Result Y Fault → Type 0
Fails stop.NoMemory read = Unit {0}
Fails (stop.Syntax left) read = read ≡ Err (syntax left)
Fails (stop.TooDeep left) read = read ≡ Err (too_deep left)

-- what a function returned, seen by view, is what reading gives, unless memory ran out
abbrev pub Gives : {X Y : Type 0} → (X → Y) → Result X Stop → Result Y Fault → Type 0
Gives view (Ok x) read = read ≡ Ok (view x)
Gives view (Err e) read = Fails e read

abbrev pub skip : List ℕ → List ℕ
skip [] = []
skip (b ∷ bs) = if is_blank b then skip bs else b ∷ bs

-- the bytes after a word
abbrev pub after_word : List ℕ → List ℕ → Result (List ℕ) Fault
after_word [] bs = Ok bs
after_word (w ∷ ws) [] = Err (syntax 0)
after_word (w ∷ ws) (b ∷ bs) = if b == w then after_word ws bs else Err (syntax (length (b ∷ bs)))

-- the bytes after this one
abbrev pub after_byte : ℕ → List ℕ → Result (List ℕ) Fault
after_byte w bs = after_word (w ∷ []) bs

abbrev pub digits : List ℕ → List ℕ
digits [] = []
digits (b ∷ bs) = if is_digit b then b ∷ digits bs else []

abbrev pub after_digits : List ℕ → List ℕ
after_digits [] = []
after_digits (b ∷ bs) = if is_digit b then after_digits bs else b ∷ bs

abbrev pub with_front : List ℕ → Read (List ℕ) → Read (List ℕ)
with_front front read = read >>= λ x. Ok (front ++ x.0, x.1)

abbrev pub int_at : List ℕ → Read (List ℕ)
int_at [] = Err (syntax 0)
int_at (b ∷ bs) =
    if b == 48 then Ok (48 ∷ [], bs)
    else if is_nonzero_digit b then Ok (b ∷ digits bs, after_digits bs)
    else Err (syntax (length (b ∷ bs)))

abbrev pub some_digits_at : List ℕ → Read (List ℕ)
some_digits_at [] = Err (syntax 0)
some_digits_at (b ∷ bs) = if is_digit b then Ok (b ∷ digits bs, after_digits bs) else Err (syntax (length (b ∷ bs)))

abbrev pub fraction_at : List ℕ → Read (List ℕ)
fraction_at [] = Ok ([], [])
fraction_at (b ∷ bs) = if b == 46 then with_front (46 ∷ []) (some_digits_at bs) else Ok ([], b ∷ bs)

-- what stands behind the letter of an exponent
abbrev pub signed_digits_at : List ℕ → Read (List ℕ)
signed_digits_at [] = Err (syntax 0)
signed_digits_at (b ∷ bs) = if is_sign b then with_front (b ∷ []) (some_digits_at bs) else some_digits_at (b ∷ bs)

abbrev pub exponent_at : List ℕ → Read (List ℕ)
exponent_at [] = Ok ([], [])
exponent_at (b ∷ bs) = if is_e b then with_front (b ∷ []) (signed_digits_at bs) else Ok ([], b ∷ bs)

abbrev pub unsigned_at : List ℕ → Read (List ℕ)
unsigned_at bs = int_at bs >>= (λ w. with_front w.0 (fraction_at w.1 >>= (λ f. with_front f.0 (exponent_at f.1))))

-- a number's own text
abbrev pub digits_at : List ℕ → Read (List ℕ)
digits_at [] = Err (syntax 0)
digits_at (b ∷ bs) = if b == 45 then with_front (45 ∷ []) (unsigned_at bs) else unsigned_at (b ∷ bs)

unfoldable pub number_at : List ℕ → Read Tree
number_at bs = digits_at bs >>= (λ x. Ok (number x.0, x.1))

abbrev pub hex_at : List ℕ → Read ℕ
hex_at [] = Err (syntax 0)
hex_at (b ∷ bs) = if is_hex b then Ok (b, bs) else Err (syntax (length (b ∷ bs)))

abbrev pub unit_at : List ℕ → Read Piece
unit_at bs = hex_at bs >>= (λ a. hex_at a.1 >>= (λ b. hex_at b.1 >>= (λ c. hex_at c.1 >>= (λ d. Ok (unit (unit_of a.0 b.0 c.0 d.0), d.1)))))

-- what stands behind a backslash
abbrev pub escape_at : List ℕ → Read Piece
escape_at [] = Err (syntax 0)
escape_at (b ∷ bs) = if b == 117 then unit_at bs else if is_escape b then Ok (byte (escaped b), bs) else Err (syntax (length (b ∷ bs)))

-- a piece, or the quotation mark
abbrev pub piece_at : List ℕ → Read (Option Piece)
piece_at [] = Err (syntax 0)
piece_at (b ∷ bs) =
    if b == 34 then Ok (None, bs)
    else if b == 92 then escape_at bs >>= (λ x. Ok (Some x.0, x.1))
    else if is_unescaped b then Ok (Some (byte b), bs)
    else Err (syntax (length (b ∷ bs)))

abbrev pub with_piece : Piece → Read (List Piece) → Read (List Piece)
with_piece p read = read >>= (λ x. Ok (p ∷ x.0, x.1))

abbrev pub pieces_then : (List ℕ → Read (List Piece)) → Option Piece → List ℕ → Read (List Piece)
pieces_then more None bs = Ok ([], bs)
pieces_then more (Some p) bs = with_piece p (more bs)

-- The pieces up to the quotation mark. The number bounds the turns: the length of the bytes is always enough.
unfoldable pub pieces_at : ℕ → List ℕ → Read (List Piece)
pieces_at zero bs = Err (syntax (length bs))
pieces_at (suc n) bs = piece_at bs >>= (λ x. pieces_then (pieces_at n) x.0 x.1)

-- the text up to the quotation mark, and what follows it
unfoldable pub chars_at : List ℕ → Read (List ℕ)
chars_at bs = pieces_at (length bs) bs >>= (λ x. Ok (joined x.0, x.1))

-- a name, and the colon behind it
abbrev pub name_at : List ℕ → Read (List ℕ)
name_at bs = after_byte 34 bs >>= (λ rest. chars_at rest >>= (λ x. after_byte 58 (skip x.1) >>= (λ rest. Ok (x.0, rest))))

-- whether a comma stands here, or else what closes
abbrev pub mark_at : ℕ → List ℕ → Read Bool
mark_at close [] = Err (syntax 0)
mark_at close (b ∷ bs) =
    if b == 44 then Ok (true, bs)
    else if b == close then Ok (false, bs)
    else Err (syntax (length (b ∷ bs)))

-- one layer of a value, given how what stands behind a bracket and behind a brace is read
abbrev pub value_with : (List ℕ → Read (List Tree)) → (List ℕ → Read (List (List ℕ × Tree))) → List ℕ → Read Tree
value_with items members [] = Err (syntax 0)
value_with items members (b ∷ bs) =
    if b == 110 then after_word (codes "ull") bs >>= (λ rest. Ok (null, rest))
    else if b == 116 then after_word (codes "rue") bs >>= (λ rest. Ok (truth true, rest))
    else if b == 102 then after_word (codes "alse") bs >>= (λ rest. Ok (truth false, rest))
    else if b == 34 then chars_at bs >>= (λ x. Ok (text x.0, x.1))
    else if b == 91 then items bs >>= (λ x. Ok (list (trees_of x.0), x.1))
    else if b == 123 then members bs >>= (λ x. Ok (object (fields_of x.0), x.1))
    else number_at (b ∷ bs)

-- an item, and whether another follows
unfoldable pub item_at : (List ℕ → Read Tree) → List ℕ → Read (Tree × Bool)
item_at value bs = value (skip bs) >>= (λ x. mark_at 93 (skip x.1) >>= (λ y. Ok ((x.0, y.0), y.1)))

abbrev pub with_items : List Tree → Read (List Tree) → Read (List Tree)
with_items front read = read >>= (λ x. Ok (front ++ x.0, x.1))

abbrev pub items_then : (List ℕ → Read (List Tree)) → (Tree × Bool) × List ℕ → Read (List Tree)
items_then more x = if x.0.1 then with_items (x.0.0 ∷ []) (more x.1) else Ok (x.0.0 ∷ [], x.1)

-- One item or more. The number bounds the turns: the length of the bytes is always enough.
unfoldable pub items_at : (List ℕ → Read Tree) → ℕ → List ℕ → Read (List Tree)
items_at value zero bs = Err (syntax (length bs))
items_at value (suc n) bs = item_at value bs >>= items_then (items_at value n)

abbrev pub list_of : (List ℕ → Read Tree) → List ℕ → Read (List Tree)
list_of value [] = Err (syntax 0)
list_of value (b ∷ rest) = if b == 93 then Ok ([], rest) else items_at value (length (b ∷ rest)) (b ∷ rest)

-- what stands behind a bracket
abbrev pub list_at : (List ℕ → Read Tree) → List ℕ → Read (List Tree)
list_at value bs = list_of value (skip bs)

-- a member, and whether another follows
unfoldable pub member_at : (List ℕ → Read Tree) → List ℕ → Read ((List ℕ × Tree) × Bool)
member_at value bs =
    name_at (skip bs) >>= (λ x. value (skip x.1) >>= (λ y. mark_at 125 (skip y.1) >>= (λ z. Ok (((x.0, y.0), z.0), z.1))))

abbrev pub members_then : (List (List ℕ × Tree) → List ℕ → Read (List (List ℕ × Tree))) → List (List ℕ × Tree) → ((List ℕ × Tree) × Bool) × List ℕ → Read (List (List ℕ × Tree))
members_then more before x =
    if x.0.1 then more (put x.0.0.0 x.0.0.1 before) x.1 else Ok (put x.0.0.0 x.0.0.1 before, x.1)

-- one member or more after those before, in at most so many turns
unfoldable pub members_at : (List ℕ → Read Tree) → ℕ → List (List ℕ × Tree) → List ℕ → Read (List (List ℕ × Tree))
members_at value zero before bs = Err (syntax (length bs))
members_at value (suc n) before bs = member_at value bs >>= members_then (members_at value n) before

abbrev pub object_of : (List ℕ → Read Tree) → List ℕ → Read (List (List ℕ × Tree))
object_of value [] = Err (syntax 0)
object_of value (b ∷ rest) = if b == 125 then Ok ([], rest) else members_at value (length (b ∷ rest)) [] (b ∷ rest)

-- what stands behind a brace
abbrev pub object_at : (List ℕ → Read Tree) → List ℕ → Read (List (List ℕ × Tree))
object_at value bs = object_of value (skip bs)

-- the bracket before these bytes is one too many
abbrev pub too_deep_at : {A : Type 0} → List ℕ → Read A
too_deep_at bs = Err (too_deep (suc (length bs)))

-- a value, with at most so many brackets open at once
unfoldable pub value_at : ℕ → List ℕ → Read Tree
value_at zero = value_with too_deep_at too_deep_at
value_at (suc n) = value_with (list_at (value_at n)) (object_at (value_at n))

-- whether the bytes begin with this closing bracket, and the bytes after it, else all of them
abbrev pub opened_of : ℕ → List ℕ → Read Bool
opened_of close [] = Err (syntax 0)
opened_of close (b ∷ rest) = if b == close then Ok (true, rest) else Ok (false, b ∷ rest)

-- the same behind a bracket that is the first of at most so many
abbrev pub opened_at : ℕ → ℕ → List ℕ → Read Bool
opened_at zero close bs = too_deep_at bs
opened_at (suc n) close bs = opened_of close (skip bs)

-- what stands behind a bracket that is the first of at most so many
abbrev pub list_below : ℕ → List ℕ → Read (List Tree)
list_below zero = too_deep_at
list_below (suc n) = list_at (value_at n)

abbrev pub object_below : ℕ → List ℕ → Read (List (List ℕ × Tree))
object_below zero = too_deep_at
object_below (suc n) = object_at (value_at n)

abbrev pub end_of : Tree → List ℕ → Result Tree Fault
end_of t [] = Ok t
end_of t (b ∷ bs) = Err (syntax (length (b ∷ bs)))

-- the whole bytes
abbrev pub text_of : ℕ → List ℕ → Result Tree Fault
text_of n bs = value_at n (skip bs) >>= (λ x. end_of x.0 (skip x.1))
