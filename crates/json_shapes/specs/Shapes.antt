-- Readers of documents: each gives what a value tells, or the path of the first value that has not its shape.
use Rattle.std.specs.Prelude.{ℕ, ◌+◌, List, [], ◌∷◌, Bool, Option, None, Some, Result, Ok, Err, ok_or, slice_get, if◌then◌else◌}
use Rattle.std.specs.Fmt.{decimal}
use Rattle.project_json.specs.Tree.{Tree}
use Rattle.project_json.specs.Parts.{value_named, members_in, items_in, text_in, digits_in, truth_in, is_null}
use Rattle.json_shapes.specs.Places.{path}

-- reads what stands at a place: a value, or the parts of one
abbrev pub Reader : Type 0 → Type 0 → Type 0
Reader X A = List (List ℕ) → X → Result A (List ℕ)

-- goes on with what was read; the first fault stays
infixl 10 ◌>>=◌
abbrev pub ◌>>=◌ : {A B : Type 0} → Result A (List ℕ) → (A → Result B (List ℕ)) → Result B (List ℕ)
(Ok a) >>= next = next a
(Err fault) >>= next = Err fault

-- Values

-- what was found at a place, or its path
abbrev pub found : {A : Type 0} → List (List ℕ) → Option A → Result A (List ℕ)
found at a = ok_or a (path at)

-- a text
abbrev pub text : Reader Tree (List ℕ)
text at t = found at (text_in t)

-- a number, as its own text
abbrev pub digits : Reader Tree (List ℕ)
digits at t = found at (digits_in t)

-- a truth
abbrev pub truth : Reader Tree Bool
truth at t = found at (truth_in t)

-- a list: its items
abbrev pub items : Reader Tree (List Tree)
items at t = found at (items_in t)

-- an object: its members, in the order of the document
abbrev pub members : Reader Tree (List (List ℕ × Tree))
members at t = found at (members_in t)

-- Members of an object, by their names

-- a member that has to be there
abbrev pub named : List ℕ → Reader (List (List ℕ × Tree)) Tree
named name at ms = found (name ∷ at) (value_named name ms)

-- what a member tells that has to be there
abbrev pub required : {A : Type 0} → Reader Tree A → List ℕ → Reader (List (List ℕ × Tree)) A
required read name at ms = named name at ms >>= read (name ∷ at)

-- what a value tells that may be absent
abbrev pub absent_or : {A : Type 0} → A → Reader Tree A → Reader (Option Tree) A
absent_or default read at None = Ok default
absent_or default read at (Some t) = read at t

-- a null is as no member
abbrev pub present : Option Tree → Option Tree
present None = None
present (Some t) = if is_null t then None else Some t

-- what a member tells, with a default where it is absent or null
abbrev pub defaulted : {A : Type 0} → Reader Tree A → A → List ℕ → Reader (List (List ℕ × Tree)) A
defaulted read default name at ms = absent_or default read (name ∷ at) (present (value_named name ms))

-- what a member tells; nothing where it is absent or null
abbrev pub optional : {A : Type 0} → Reader Tree A → List ℕ → Reader (List (List ℕ × Tree)) (Option A)
optional read name at ms = defaulted (λ at t. read at t >>= (λ a. Ok (Some a))) None name at ms

-- what a member tells, with a default where it is absent; a null is no shape
abbrev pub given : {A : Type 0} → Reader Tree A → A → List ℕ → Reader (List (List ℕ × Tree)) A
given read default name at ms = absent_or default read (name ∷ at) (value_named name ms)

-- Items of a list, by their places, and parts that have one shape

-- an item that has to be there
abbrev pub item : ℕ → Reader (List Tree) Tree
item i at ts = found (decimal i ∷ at) (slice_get ts i)

-- what an item tells that has to be there
abbrev pub required_item : {A : Type 0} → Reader Tree A → ℕ → Reader (List Tree) A
required_item read i at ts = item i at ts >>= read (decimal i ∷ at)

-- each item from a place on, in order
abbrev pub each_from : {A : Type 0} → ℕ → Reader Tree A → Reader (List Tree) (List A)
each_from i read at [] = Ok []
each_from i read at (t ∷ ts) = read (decimal i ∷ at) t >>= (λ a. each_from (i + 1) read at ts >>= (λ more. Ok (a ∷ more)))

-- each item, in order
abbrev pub each : {A : Type 0} → Reader Tree A → Reader (List Tree) (List A)
each read at ts = each_from 0 read at ts

-- each member, in order; a member is read at the place of its object
abbrev pub each_member : {A : Type 0} → Reader (List ℕ × Tree) A → Reader (List (List ℕ × Tree)) (List A)
each_member read at [] = Ok []
each_member read at (m ∷ ms) = read at m >>= (λ a. each_member read at ms >>= (λ more. Ok (a ∷ more)))
