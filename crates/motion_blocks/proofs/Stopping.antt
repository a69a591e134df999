-- How drawing a word stops.
use Rattle.std.proofs.Common.{Bool, true, false, cond}
use Rattle.std.specs.Prelude.{◌==◌, Result, Ok, Err, IfErr}
use Rattle.script_words.specs.declared.stops.CounterKind.TheVariants as counter
use Rattle.script_words.specs.declared.stops.Stop.{Stop}
use Rattle.script_words.specs.declared.stops.Stop.TheVariants.{Stack, Text, Counter, NoMemory}
use Rattle.machine_spec.specs.Outcome.{Goes, Spent, StopIs, last_number}
use Rattle.machine_spec.specs.Words.{Words, draw}
use Rattle.block_arguments.specs.Stops.{IsOfWordsOrMemory}

by_room : {T A : Type 0} (b : Bool) (r : Result T Stop) (a : A) → StopIs r (cond b (Spent counter.Words) (Goes a)) → IfErr r IsOfWordsOrMemory
by_room b (Ok t) a h = tt
by_room true (Err Stack) a h = absurd (cc h)
by_room false (Err Stack) a h = absurd (cc h)
by_room true (Err (Text n)) a h = absurd (cc h)
by_room false (Err (Text n)) a h = absurd (cc h)
by_room true (Err (Counter which)) a h = cc h
by_room false (Err (Counter which)) a h = absurd (cc h)
by_room b (Err NoMemory) a h = tt

-- no word is left, or memory ran out
pub draw_stops : {T : Type 0} (r : Result T Stop) (w : Words) → StopIs r (draw w) → IfErr r IsOfWordsOrMemory
draw_stops r w h = by_room (w.drawn == last_number) r _ h
