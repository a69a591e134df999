-- Names of parameters, one after another; for private functions.
use Rattle.std.specs.Prelude.{Bool, false, Option, Some, None}

-- there is one, and it passes
abbrev pub has_at : {A : Type 0} → (A → Bool) → Option A → Bool
has_at test None = false
has_at test (Some a) = test a
