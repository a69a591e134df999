-- How a block of looks may stop.
use Rattle.script_words.specs.declared.stops.CounterKind.{CounterKind}
use Rattle.script_words.specs.declared.stops.CounterKind.TheVariants.{Bubble, Words}
use Rattle.script_words.specs.declared.stops.Stop.{Stop}
use Rattle.script_words.specs.declared.stops.Stop.TheVariants.{Stack, Text, Counter, NoMemory}

-- the counter of bubbles or that of words
abbrev pub IsOfLooks : CounterKind → Type 0
IsOfLooks Bubble = Unit {0}
IsOfLooks Words = Unit {0}
IsOfLooks _ = ⊥

-- no number of a bubble update or no word is left, or memory ran out
abbrev pub IsOfCountersOrMemory : Stop → Type 0
IsOfCountersOrMemory Stack = ⊥
IsOfCountersOrMemory (Text n) = ⊥
IsOfCountersOrMemory (Counter which) = IsOfLooks which
IsOfCountersOrMemory NoMemory = Unit {0}
