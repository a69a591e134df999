-- What the code that reads a mutation answers, beside what the mutation says.
use Rattle.std.specs.Prelude.{◌≡◌, Result, Ok, Err}
use Rattle.project_json.specs.declared.refusal.JsonRefusal.{JsonRefusal}
use Rattle.project_json.specs.declared.refusal.JsonRefusal.TheVariants as json
use Rattle.project_spec.specs.declared.refusals.MutationRefusal.{MutationRefusal}
use Rattle.project_spec.specs.declared.refusals.MutationRefusal.TheVariants.{Missing, BadText, LengthsDiffer, NoMemory}

-- What was returned, seen by view, is what the mutation says, and a refusal is the one that it says. Where memory ran out
-- nothing is claimed.
abbrev pub Says : {A B : Type 0} → (A → B) → Result A MutationRefusal → Result B MutationRefusal → Type 0
Says view (Ok a) told = told ≡ Ok (view a)
Says view (Err Missing) told = told ≡ Err Missing
Says view (Err BadText) told = told ≡ Err BadText
Says view (Err LengthsDiffer) told = told ≡ Err LengthsDiffer
Says view (Err NoMemory) told = Unit {0}

-- the refusal of a text that is not read as JSON
abbrev pub of_json : JsonRefusal → MutationRefusal
of_json (json.NotUtf8 at) = BadText
of_json (json.Syntax at) = BadText
of_json (json.TooDeep at) = BadText
of_json json.NoMemory = NoMemory
