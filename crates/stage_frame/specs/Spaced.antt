-- Helper of private functions: words, each with a space in front.
use Rattle.std.specs.Prelude.{ℕ, List, ◌∷◌, flat_map}

abbrev pub spaced : List (List ℕ) → List ℕ
spaced words = flat_map (λ word. 32 ∷ word) words
