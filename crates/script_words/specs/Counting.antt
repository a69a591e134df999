-- What is seen of a source of words that counts them.
use Rattle.std.specs.Prelude.{ℕ}
use Rattle.script_words.specs.declared.counter.Counted.{Counted}

-- the source in its present state
abbrev pub source_of : {R : Type 0} → Counted R → R
source_of c = c.source

-- how many words were drawn
abbrev pub drawn_of : {R : Type 0} → Counted R → ℕ
drawn_of c = c.drawn
