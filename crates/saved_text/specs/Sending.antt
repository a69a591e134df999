-- Helpers of private functions: what the events of a member of an object are, and of some items of a list.
use Rattle.std.specs.Prelude.{ℕ, List}
use Rattle.serde.specs.Event.{Log, Logs, WritesEach, field_key}
use Rattle.serde.specs.declared.name.Case.TheVariants.{AsIs}
use Rattle.serde_json.specs.Data.{Data}
use Rattle.serde_json.specs.Events.{SendsValue}

-- its name, and then its value
abbrev pub SendsMember : List ℕ → Data → Log → Log → Type 0
SendsMember name d old new = (named : Log) × Logs old named (field_key name AsIs) × SendsValue d named new

-- the value of each, in order
abbrev pub SendsEach : {A : Type 0} → (A → Data) → List A → Log → Log → Type 0
SendsEach f = WritesEach (λ x. SendsValue (f x))
