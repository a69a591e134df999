-- Where a value stands in a document, and the path that tells it.
use Rattle.std.specs.Prelude.{ℕ, List, [], ◌∷◌, ◌++◌}

-- a path joins the member names and list places on the way to a value by `/`; the last step stands first here
abbrev pub path : List (List ℕ) → List ℕ
path [] = []
path (step ∷ []) = step
path (step ∷ outer ∷ more) = path (outer ∷ more) ++ 47 ∷ step

-- what stands before a step at the place; a private function alone cites it
abbrev pub before : List (List ℕ) → List ℕ
before [] = []
before (outer ∷ more) = path (outer ∷ more) ++ 47 ∷ []
