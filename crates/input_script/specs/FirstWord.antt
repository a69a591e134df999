-- A line by its first word and what follows the first space; private functions alone cite it.
use Rattle.std.specs.Prelude.{ℕ, if◌then◌else◌, List, ◌∷◌, bytes_eq, codes}
use Rattle.machine_spec.specs.declared.lines.Line.TheVariants as line
use Rattle.machine_spec.specs.ScriptText.{Reading, key_line, key_of_rest, answer_line, by_words, words_of}

-- a key and an answer take the rest as it is
abbrev pub by_rest : (n last : ℕ) → (word rest : List ℕ) → Reading
by_rest n last word rest =
    if bytes_eq word (codes "down") then key_line line.KeyDown n (key_of_rest rest)
    else (if bytes_eq word (codes "up") then key_line line.KeyUp n (key_of_rest rest)
    else (if bytes_eq word (codes "answer") then answer_line n rest
    else by_words n last (word ∷ words_of rest)))
