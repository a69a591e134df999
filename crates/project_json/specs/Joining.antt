-- How the pieces of a string are joined one by one, where an escaped high surrogate waits for its partner.
-- Private functions alone cite these. What the joined text is, `joined` says.
use Rattle.std.specs.Prelude.{◌≡◌, ℕ, List, [], ◌∷◌, ◌++◌, true, Option, None, Some, if◌then◌else◌}
use Rattle.std.specs.Char.{encode_utf8}
use Rattle.std.specs.Char.Utf16.{surrogate_pair_char}
use Rattle.project_json.specs.Strings.{Piece, byte, unit, is_high, is_low}

-- only a high surrogate waits
abbrev pub IsWaiting : Option ℕ → Type 0
IsWaiting None = Unit {0}
IsWaiting (Some u) = is_high u ≡ true

-- the text of a unit that waits in vain
abbrev pub flushed : Option ℕ → List ℕ
flushed None = []
flushed (Some u) = encode_utf8 65533

-- the text of a unit that is no high surrogate and in no pair
abbrev pub single : ℕ → List ℕ
single v = if is_low v then encode_utf8 65533 else encode_utf8 v

-- what a piece adds to the text
abbrev pub added : Option ℕ → Piece → List ℕ
added h (byte b) = flushed h ++ b ∷ []
added None (unit v) = if is_high v then [] else single v
added (Some u) (unit v) =
    if is_low v then encode_utf8 (surrogate_pair_char u v)
    else if is_high v then encode_utf8 65533
    else encode_utf8 65533 ++ single v

-- what waits then
abbrev pub waiting : Option ℕ → Piece → Option ℕ
waiting h (byte b) = None
waiting None (unit v) = if is_high v then Some v else None
waiting (Some u) (unit v) = if is_low v then None else if is_high v then Some v else None

-- the text of the pieces that are left
abbrev pub joined_from : Option ℕ → List Piece → List ℕ
joined_from h [] = flushed h
joined_from h (p ∷ ps) = added h p ++ joined_from (waiting h p) ps
