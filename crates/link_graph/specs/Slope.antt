-- How numbers of blocks go along links, for private functions: no clause of a public function cites this file.
use Rattle.std.specs.Prelude.{◌≡◌, ℕ, ◌<◌, ◌≤◌, List, Some, slice_get, slice_index}
use Rattle.link_graph.specs.Links.{links_of}

-- numbers that rise along no link
abbrev pub NeverRises : List (List ℕ) → List ℕ → Type 0
NeverRises g numbers = (b k c : ℕ) → slice_get (links_of g b) k ≡ Some c → slice_index numbers c ≤ slice_index numbers b

-- numbers that fall along each link of the block
abbrev pub FallsAt : List (List ℕ) → List ℕ → ℕ → Type 0
FallsAt g numbers b = (k c : ℕ) → slice_get (links_of g b) k ≡ Some c → slice_index numbers c < slice_index numbers b
