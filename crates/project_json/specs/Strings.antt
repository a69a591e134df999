-- The strings of JSON texts (RFC 8259 section 7), and the texts that they stand for.
use Rattle.std.specs.Prelude.{◌≡◌, ℕ, ◌+◌, ◌-◌, ◌*◌, List, [], ◌∷◌, ◌++◌, Bool, true, ◌||◌, ◌&&◌, ◌==◌, nat_le, nat_lt, not, if◌then◌else◌}
use Rattle.std.specs.Char.{encode_utf8}
use Rattle.std.specs.Char.Utf16.{surrogate_pair_char}
use Rattle.project_json.specs.Bytes.{is_digit, AllTrue}

-- A piece of a string: a byte of its text, or a UTF-16 code unit that an escape names.
pub data Piece : Type 0 where
  byte : ℕ → Piece
  unit : ℕ → Piece

-- unescaped: no byte below 32, no quotation mark, no backslash. Of a character from U+0080 on each byte is one.
abbrev pub is_unescaped : ℕ → Bool
is_unescaped b = nat_le 32 b && not (b == 34 || b == 92)

-- what may stand behind a backslash: " \ / b f n r t
abbrev pub is_escape : ℕ → Bool
is_escape b = b == 34 || b == 92 || b == 47 || b == 98 || b == 102 || b == 110 || b == 114 || b == 116

-- what it stands for: backspace, form feed, line feed, carriage return, tab, or itself
abbrev pub escaped : ℕ → ℕ
escaped b = if b == 98 then 8 else if b == 102 then 12 else if b == 110 then 10 else if b == 114 then 13 else if b == 116 then 9 else b

-- HEXDIG, of either case
abbrev pub is_hex : ℕ → Bool
is_hex b = is_digit b || (nat_le 65 b && nat_le b 70) || (nat_le 97 b && nat_le b 102)

abbrev pub hex_value : ℕ → ℕ
hex_value b = if nat_le b 57 then b - 48 else if nat_le b 70 then b - 55 else b - 87

-- the number that four hexadecimal digits write
abbrev pub unit_of : ℕ → ℕ → ℕ → ℕ → ℕ
unit_of a b c d = ((hex_value a * 16 + hex_value b) * 16 + hex_value c) * 16 + hex_value d

-- `PieceAt p old new`: old begins with the piece, and new follows it.
-- It is an unescaped byte, or a backslash and an escape, or a backslash, u and four hexadecimal digits.
pub data PieceAt : Piece → List ℕ → List ℕ → Type 0 where
  unescaped_here : {b : ℕ} {new : List ℕ} → is_unescaped b ≡ true → PieceAt (byte b) (b ∷ new) new
  escape_here : {c : ℕ} {new : List ℕ} → is_escape c ≡ true → PieceAt (byte (escaped c)) (92 ∷ c ∷ new) new
  unit_here : {a b c d : ℕ} {new : List ℕ} → AllTrue is_hex (a ∷ b ∷ c ∷ d ∷ []) → PieceAt (unit (unit_of a b c d)) (92 ∷ 117 ∷ a ∷ b ∷ c ∷ d ∷ new) new

-- the pieces of a string and the quotation mark that ends it, and then new
pub data Pieces : List Piece → List ℕ → List ℕ → Type 0 where
  no_pieces : {new : List ℕ} → Pieces [] (34 ∷ new) new
  piece_and : {p : Piece} {ps : List Piece} {old new : List ℕ} (mid : List ℕ) → PieceAt p old mid → Pieces ps mid new → Pieces (p ∷ ps) old new

-- a high surrogate, U+D800 to U+DBFF
abbrev pub is_high : ℕ → Bool
is_high u = nat_le 55296 u && nat_lt u 56320

-- a low surrogate, U+DC00 to U+DFFF
abbrev pub is_low : ℕ → Bool
is_low u = nat_le 56320 u && nat_lt u 57344

-- the bytes of a code unit in no pair: a surrogate is U+FFFD
abbrev pub lone : ℕ → List ℕ
lone u = if is_high u || is_low u then encode_utf8 65533 else encode_utf8 u

-- The text of pieces, in UTF-8. An escaped high surrogate and an escaped low one just behind it are one character.
abbrev pub joined : List Piece → List ℕ
joined [] = []
joined (byte b ∷ ps) = b ∷ joined ps
joined (unit u ∷ []) = lone u
joined (unit u ∷ byte b ∷ ps) = lone u ++ b ∷ joined ps
joined (unit u ∷ unit v ∷ ps) =
    if is_high u && is_low v then encode_utf8 (surrogate_pair_char u v) ++ joined ps else lone u ++ joined (unit v ∷ ps)
