-- Bytes of JSON texts, by what they may stand for.
use Rattle.std.specs.Prelude.{◌≡◌, ℕ, List, [], ◌∷◌, ◌++◌, Bool, true, ◌||◌, ◌&&◌, ◌==◌, nat_le}

-- ws (RFC 8259 section 2): space, tab, line feed, carriage return
abbrev pub is_blank : ℕ → Bool
is_blank b = b == 32 || b == 9 || b == 10 || b == 13

-- DIGIT (RFC 8259 section 6)
abbrev pub is_digit : ℕ → Bool
is_digit b = nat_le 48 b && nat_le b 57

-- each byte passes the test
abbrev pub AllTrue : (ℕ → Bool) → List ℕ → Type 0
AllTrue p [] = Unit {0}
AllTrue p (b ∷ bs) = (p b ≡ true) × AllTrue p bs

-- old is blanks, and then new
abbrev pub Blanks : List ℕ → List ℕ → Type 0
Blanks old new = (front : List ℕ) × AllTrue is_blank front × (old ≡ front ++ new)
