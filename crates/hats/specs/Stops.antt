-- How a start of hats may stop.
use Rattle.std.specs.Prelude.{◌≡◌}
use Rattle.script_words.specs.declared.stops.CounterKind.TheVariants.{Thread}
use Rattle.script_words.specs.declared.stops.Stop.{Stop}
use Rattle.script_words.specs.declared.stops.Stop.TheVariants.{Stack, Text, Counter, NoMemory}

-- the most levels are open, no number of a thread is left, or memory ran out
abbrev pub IsOfThreadsOrMemory : Stop → Type 0
IsOfThreadsOrMemory Stack = Unit {0}
IsOfThreadsOrMemory (Text n) = ⊥
IsOfThreadsOrMemory (Counter which) = which ≡ Thread
IsOfThreadsOrMemory NoMemory = Unit {0}
