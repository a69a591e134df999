-- The parts that were read so far, and those that are left: what loops over parts of one shape keep.
-- Proofs alone cite it.
use Rattle.std.specs.Prelude.{ℕ, List, ◌++◌, Result, Ok, Err}

-- what was read so far, before what the rest tells
abbrev pub after : {A : Type 0} → List A → Result (List A) (List ℕ) → Result (List A) (List ℕ)
after front (Ok rest) = Ok (front ++ rest)
after front (Err fault) = Err fault
