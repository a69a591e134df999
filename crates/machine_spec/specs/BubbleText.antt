-- How long the text of a bubble may be (after scratch-vm, blocks/scratch3_looks.js, SAY_BUBBLE_LIMIT).
use Rattle.std.specs.Prelude.{ℕ, ◌≤◌, List}
use Rattle.std.specs.Fmt.{char_count, take_chars}

-- the most characters
abbrev pub most_characters : ℕ
most_characters = 330

abbrev pub IsShort : List ℕ → Type 0
IsShort t = char_count t ≤ most_characters

-- the first characters of a text, as many as a bubble has
abbrev pub cut : List ℕ → List ℕ
cut t = take_chars most_characters t
