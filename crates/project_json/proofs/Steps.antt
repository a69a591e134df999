-- Steps of the loop over a word.
use Rattle.std.proofs.Common.{◌≡◌, ℕ, ◌+◌, ◌<◌, List, [], ◌∷◌, length, drop, get_or, Err, refl, ◌∙◌, arith}
use Rattle.std.proofs.lemmas.List.{at_drop_more}
use Rattle.project_json.specs.Reading.{syntax, after_word}

word_short_here : (word rest : List ℕ) → 0 < length word → length rest < 1 → after_word word rest ≡ Err (syntax 0)
word_short_here [] rest h k = absurd (omega arith)
word_short_here (w ∷ ws) [] h k = refl
word_short_here (w ∷ ws) (b ∷ bs) h k = absurd (omega arith)

-- the bytes end before the word does
pub word_short : (word rest : List ℕ) (i : ℕ) → i < length word → length rest < 1 → after_word (drop i word) rest ≡ Err (syntax 0)
word_short word rest i h k = at_drop_more (λ ws. after_word ws rest) word i 0 h ∙ word_short_here (get_or word i 0 ∷ drop (i + 1) word) rest (omega arith) k
