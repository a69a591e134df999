-- Stops on the way of an execution.
use Rattle.std.proofs.Common.{◌≡◌, ◌∙◌, Err, ap}
use Rattle.script_words.specs.declared.stops.Stop.{Stop}
use Rattle.script_words.specs.declared.stops.Stop.TheVariants.{Stack, Text, Counter, NoMemory}
use Rattle.machine_spec.specs.Outcome.{Outcome, then_do, StopIs}

-- nothing goes on behind one
pub stop-then : (T U : Type 0) {A B : Type 0} (stop : Stop) (o : Outcome A) (f : A → Outcome B) → StopIs {T = T} (Err stop) o → StopIs {T = U} (Err stop) (then_do o f)
stop-then T U Stack o f h = ap (λ p. then_do p f) h
stop-then T U (Text n) o f h = ap (λ p. then_do p f) h
stop-then T U (Counter which) o f h = ap (λ p. then_do p f) h
stop-then T U NoMemory o f h = tt

-- the same stop of the same meaning
pub stop-same : (T U : Type 0) {A : Type 0} (stop : Stop) (o other : Outcome A) → other ≡ o → StopIs {T = T} (Err stop) o → StopIs {T = U} (Err stop) other
stop-same T U Stack o other e h = e ∙ h
stop-same T U (Text n) o other e h = e ∙ h
stop-same T U (Counter which) o other e h = e ∙ h
stop-same T U NoMemory o other e h = tt
