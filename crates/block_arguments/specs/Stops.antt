-- How a block that draws random words may stop.
use Rattle.std.specs.Prelude.{◌≡◌}
use Rattle.script_words.specs.declared.stops.CounterKind.TheVariants.{Words}
use Rattle.script_words.specs.declared.stops.Stop.{Stop}
use Rattle.script_words.specs.declared.stops.Stop.TheVariants.{Stack, Text, Counter, NoMemory}

-- no word is left, or memory ran out
abbrev pub IsOfWordsOrMemory : Stop → Type 0
IsOfWordsOrMemory Stack = ⊥
IsOfWordsOrMemory (Text n) = ⊥
IsOfWordsOrMemory (Counter which) = which ≡ Words
IsOfWordsOrMemory NoMemory = Unit {0}
