-- How a line that is no frame may stop.
use Rattle.script_words.specs.declared.stops.CounterKind.{CounterKind}
use Rattle.script_words.specs.declared.stops.CounterKind.TheVariants.{Thread, Bubble}
use Rattle.script_words.specs.declared.stops.Stop.{Stop}
use Rattle.script_words.specs.declared.stops.Stop.TheVariants.{Stack, Text, Counter, NoMemory}

-- the counter of threads or that of bubbles
abbrev pub IsOfLines : CounterKind → Type 0
IsOfLines Thread = Unit {0}
IsOfLines Bubble = Unit {0}
IsOfLines _ = ⊥

-- the most levels are open, a thread or an update of a bubble has no number, or memory ran out
abbrev pub IsOfLinesOrMemory : Stop → Type 0
IsOfLinesOrMemory Stack = Unit {0}
IsOfLinesOrMemory (Text n) = ⊥
IsOfLinesOrMemory (Counter which) = IsOfLines which
IsOfLinesOrMemory NoMemory = Unit {0}
