-- How an evaluation may stop.
use Rattle.std.specs.Prelude.{◌≡◌}
use Rattle.script_words.specs.declared.stops.CounterKind.TheVariants.{Words}
use Rattle.script_words.specs.declared.stops.Stop.{Stop}
use Rattle.script_words.specs.declared.stops.Stop.TheVariants.{Stack, Text, Counter, NoMemory}

-- a text is too long, no word is left, or memory ran out
abbrev pub IsOfValuesOrMemory : Stop → Type 0
IsOfValuesOrMemory Stack = ⊥
IsOfValuesOrMemory (Text n) = Unit {0}
IsOfValuesOrMemory (Counter which) = which ≡ Words
IsOfValuesOrMemory NoMemory = Unit {0}
