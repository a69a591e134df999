-- The random words of a run, and what takes some of them.
use Rattle.std.specs.Prelude.{ℕ, ◌+◌}
use Rattle.rand_core.specs.Stream.{Stream, next_u32}
use Rattle.script_words.specs.declared.counter.Counted.{Counted}
use Rattle.script_words.specs.declared.stops.CounterKind.TheVariants as counter
use Rattle.script_words.specs.Counting.{source_of, drawn_of}
use Rattle.script_words.specs.Words.{answers, seeded, without}
use Rattle.machine_spec.specs.Outcome.{Outcome, Goes, with_number}

-- the words that are left, and how many were drawn before
pub record Words : Type 0 where
  pub stream : Stream
  pub drawn : ℕ

-- the random words of a seed, behind those that were drawn
abbrev pub words_after : (seed drawn : ℕ) → Words
words_after seed drawn = record { stream = without drawn (answers (seeded seed)); drawn = drawn }

-- what was made of words, and the words after it
pub record Drawn (A : Type 0) : Type 0 where
  pub value : A
  pub words : Words

-- a value that took no word
abbrev pub undrawn : {A : Type 0} → Words → A → Outcome (Drawn A)
undrawn w value = Goes (record { value = value; words = w })

-- the same words, and something else made of the value
abbrev pub made_of : {A B : Type 0} → (A → B) → Drawn A → Outcome (Drawn B)
made_of f d = Goes (record { value = f d.value; words = d.words })

-- the next word
abbrev pub draw : Words → Outcome (Drawn ℕ)
draw ws =
    with_number counter.Words ws.drawn
    (Goes (record { value = (next_u32 ws.stream).0; words = record { stream = (next_u32 ws.stream).1; drawn = ws.drawn + 1 } }))

-- the words that a counted source has left
abbrev pub seen_words : {R : Type 0} → (R → Stream) → Counted R → Words
seen_words stream c = record { stream = stream (source_of c); drawn = drawn_of c }
