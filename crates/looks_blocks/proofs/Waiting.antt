-- A backdrop that is switched for the first time.
use Rattle.std.proofs.Common.{◌≡◌, ℕ, List, refl, ap}
use Rattle.std.specs.Prelude.{true, Err}
use Rattle.scratch_values.specs.declared.value.Value.{Value}
use Rattle.script_words.specs.declared.stops.Stop.{Stop}
use Rattle.script_words.specs.declared.stops.Stop.TheVariants.{Stack, Text, Counter, NoMemory}
use Rattle.machine_spec.specs.declared.threads.Context.{Context}
use Rattle.machine_spec.specs.declared.threads.Context.TheVariants.{Fresh, Repeat, Wait, Glide, Started, Asked, Spoken, Called}
use Rattle.machine_spec.specs.Looks.{backdrop_and_wait, backdrop_switched, switched_to}
use Rattle.machine_spec.specs.Outcome.{Outcome, StopIs, then_do}
use Rattle.machine_spec.specs.Parts.{LooksParts}
use Rattle.machine_spec.specs.Program.{Records, stage_number}
use Rattle.machine_spec.specs.Stores.{instance_at}
use Rattle.machine_spec.specs.Threads.{Listed}

-- a context of another kind than that of waiting
first_time : (c : Context) (v : Value) (records : Records) (threads : List Listed) (p : LooksParts) → ((serials : List ℕ) → c ≡ Started serials → ⊥) → backdrop_and_wait c v records threads p ≡ backdrop_switched true v records p
first_time Fresh v records threads p h = refl
first_time (Repeat n) v records threads p h = refl
first_time (Wait state) v records threads p h = refl
first_time (Glide state) v records threads p h = refl
first_time (Started serials) v records threads p h = absurd (h serials refl)
first_time Asked v records threads p h = refl
first_time Spoken v records threads p h = refl
first_time Called v records threads p h = refl

-- a stop is the same whatever would have followed
stops_then : {A B : Type 0} (T U : Type 0) (stop : Stop) (o : Outcome A) (f : A → Outcome B) → StopIs {T = T} (Err stop) o → StopIs {T = U} (Err stop) (then_do o f)
stops_then T U Stack o f h = ap (λ x. then_do x f) h
stops_then T U (Text n) o f h = ap (λ x. then_do x f) h
stops_then T U (Counter which) o f h = ap (λ x. then_do x f) h
stops_then T U NoMemory o f h = h

pub stops_first : (T U : Type 0) (stop : Stop) (c : Context) (v : Value) (records : Records) (threads : List Listed) (p : LooksParts) → ((serials : List ℕ) → c ≡ Started serials → ⊥)
    → StopIs {T = T} (Err stop) (switched_to true v records (instance_at (stage_number records) p.scene.targets) p.words) → StopIs {T = U} (Err stop) (backdrop_and_wait c v records threads p)
stops_first T U stop c v records threads p h s =
    rw (first_time c v records threads p h) (stops_then T U stop (switched_to true v records (instance_at (stage_number records) p.scene.targets) p.words) _ s)
