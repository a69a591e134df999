-- What was read of a list so far, and what is left: what loops over items keep.
use Rattle.std.proofs.Common.{List, ◌++◌, Option, None, Some}

-- what was read so far, before what the rest says
abbrev pub joined : {A : Type 0} → List A → Option (List A) → Option (List A)
joined front None = None
joined front (Some rest) = Some (front ++ rest)
