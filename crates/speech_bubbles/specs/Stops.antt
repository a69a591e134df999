-- How an update of a bubble may stop.
use Rattle.std.specs.Prelude.{◌≡◌}
use Rattle.script_words.specs.declared.stops.CounterKind.TheVariants.{Bubble}
use Rattle.script_words.specs.declared.stops.Stop.{Stop}
use Rattle.script_words.specs.declared.stops.Stop.TheVariants.{Stack, Text, Counter, NoMemory}

-- no number of a bubble update is left
abbrev pub IsOfBubbles : Stop → Type 0
IsOfBubbles stop = stop ≡ Counter Bubble

-- no number of a bubble update is left, or memory ran out
abbrev pub IsOfBubblesOrMemory : Stop → Type 0
IsOfBubblesOrMemory Stack = ⊥
IsOfBubblesOrMemory (Text n) = ⊥
IsOfBubblesOrMemory (Counter which) = which ≡ Bubble
IsOfBubblesOrMemory NoMemory = Unit {0}
