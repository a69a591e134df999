-- Laws of the random words of a run, as statements that public functions with empty bodies prove.
use Rattle.std.specs.Prelude.{◌≡◌, ℕ, ◌<◌, ◌^◌}
use Rattle.rand_core.specs.Stream.{next_u32}
use Rattle.machine_spec.specs.Words.{Words, words_after}
use Rattle.laws_of_words.specs.Words.{IsOfSeed}

-- before the first is drawn the words are those of the seed
abbrev pub FirstAreOfSeed : Type 0
FirstAreOfSeed = (seed : ℕ) → IsOfSeed seed (words_after seed 0)

-- how many were drawn tells which words are left
abbrev pub ToldByNumber : Type 0
ToldByNumber = (seed : ℕ) (w : Words) → IsOfSeed seed w → w ≡ words_after seed w.drawn

-- the next word of a seed is below 2^32
abbrev pub WordsAreSmall : Type 0
WordsAreSmall = (seed : ℕ) (w : Words) → IsOfSeed seed w → (next_u32 w.stream).0 < 2 ^ 32
