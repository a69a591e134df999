-- What readers of documents give, by what the parts of the document have.
use Rattle.std.proofs.Common.{◌≡◌, ℕ, ◌+◌, Bool, true, false, cond, List, [], ◌∷◌, length, refl, subst, arith}
use Rattle.std.specs.Prelude.{Option, None, Some, IfSome, Result, Ok, Err, bytes_eq, slice_get, zero, suc}
use Rattle.std.specs.Fmt.{decimal}
use Rattle.project_json.specs.Tree.{Tree}
use Rattle.project_json.specs.Parts.{value_named, is_null}
use Rattle.json_shapes.specs.Shapes.{Reader, ◌>>=◌, found, named, required, absent_or, present, defaulted, given, item, required_item, each_from, each, each_member}
use Rattle.laws_of_threads.specs.Lists.{Each}

-- what is given has the fact
abbrev pub Gives : {A : Type 0} → (A → Type 0) → Result A (List ℕ) → Type 0
Gives P (Ok a) = P a
Gives P (Err fault) = Unit {0}

pub given_is : {A : Type 0} (P : A → Type 0) (r : Result A (List ℕ)) (a : A) → r ≡ Ok a → Gives P r → P a
given_is P (Ok b) a e h = let s : b ≡ a = cc in subst P s h
given_is P (Err fault) a e h = absurd (cc e)

pub goes_on : {A B : Type 0} (P : A → Type 0) (Q : B → Type 0) (r : Result A (List ℕ)) (next : A → Result B (List ℕ)) → Gives P r → ((a : A) → P a → Gives Q (next a)) → Gives Q (r >>= next)
goes_on P Q (Ok a) next h f = f a h
goes_on P Q (Err fault) next h f = tt

pub goes_any : {A B : Type 0} (Q : B → Type 0) (r : Result A (List ℕ)) (next : A → Result B (List ℕ)) → ((a : A) → Gives Q (next a)) → Gives Q (r >>= next)
goes_any Q (Ok a) next f = f a
goes_any Q (Err fault) next f = tt

pub gives_more : {A : Type 0} (P Q : A → Type 0) (r : Result A (List ℕ)) → Gives P r → ((a : A) → P a → Q a) → Gives Q r
gives_more P Q (Ok a) h f = f a h
gives_more P Q (Err fault) h f = tt

pub each_all : {A : Type 0} (P : A → Type 0) (xs : List A) → ((x : A) → P x) → Each P xs
each_all P [] f = tt
each_all P (x ∷ xs) f = (f x, each_all P xs f)

-- Members

pub found_gives : {A : Type 0} (P : A → Type 0) (at : List (List ℕ)) (o : Option A) → IfSome o P → Gives P (found at o)
found_gives P at None h = tt
found_gives P at (Some a) h = h

value_by : (P : Tree → Type 0) (c : Bool) (t : Tree) (o : Option Tree) → P t → IfSome o P → IfSome (cond c (Some t) o) P
value_by P true t o h g = h
value_by P false t o h g = g

pub value_has : (P : Tree → Type 0) (name : List ℕ) (ms : List (List ℕ × Tree)) → Each (λ m. P m.1) ms → IfSome (value_named name ms) P
value_has P name [] h = tt
value_has P name (m ∷ ms) h = value_by P (bytes_eq m.0 name) m.1 (value_named name ms) h.0 (value_has P name ms h.1)

present_by : (P : Tree → Type 0) (c : Bool) (t : Tree) → P t → IfSome (cond c None (Some t)) P
present_by P true t h = tt
present_by P false t h = h

pub present_has : (P : Tree → Type 0) (o : Option Tree) → IfSome o P → IfSome (present o) P
present_has P None h = tt
present_has P (Some t) h = present_by P (is_null t) t h

absent_gives : {A : Type 0} (P : Tree → Type 0) (Q : A → Type 0) (default : A) (read : Reader Tree A) (at : List (List ℕ)) (o : Option Tree) → IfSome o P → Q default → ((place : List (List ℕ)) (t : Tree) → P t → Gives Q (read place t)) → Gives Q (absent_or default read at o)
absent_gives P Q default read at None h d f = d
absent_gives P Q default read at (Some t) h d f = f at t h

module _ {A : Type 0} (P : Tree → Type 0) (Q : A → Type 0) (read : Reader Tree A) (f : (place : List (List ℕ)) (t : Tree) → P t → Gives Q (read place t)) where
  pub required_gives : (name : List ℕ) (at : List (List ℕ)) (ms : List (List ℕ × Tree)) → Each (λ m. P m.1) ms → Gives Q (required read name at ms)
  required_gives name at ms h = goes_on P Q (named name at ms) (read (name ∷ at)) (found_gives P (name ∷ at) (value_named name ms) (value_has P name ms h)) (f (name ∷ at))

  pub defaulted_gives : (default : A) (name : List ℕ) (at : List (List ℕ)) (ms : List (List ℕ × Tree)) → Each (λ m. P m.1) ms → Q default → Gives Q (defaulted read default name at ms)
  defaulted_gives default name at ms h d = absent_gives P Q default read (name ∷ at) (present (value_named name ms)) (present_has P (value_named name ms) (value_has P name ms h)) d f

  pub given_gives : (default : A) (name : List ℕ) (at : List (List ℕ)) (ms : List (List ℕ × Tree)) → Each (λ m. P m.1) ms → Q default → Gives Q (given read default name at ms)
  given_gives default name at ms h d = absent_gives P Q default read (name ∷ at) (value_named name ms) (value_has P name ms h) d f

  -- Items

  item_has : (i : ℕ) (ts : List Tree) → Each P ts → IfSome (slice_get ts i) P
  item_has i [] h = tt
  item_has zero (t ∷ ts) h = h.0
  item_has (suc i) (t ∷ ts) h = item_has i ts h.1

  pub required_item_gives : (i : ℕ) (at : List (List ℕ)) (ts : List Tree) → Each P ts → Gives Q (required_item read i at ts)
  required_item_gives i at ts h = goes_on P Q (item i at ts) (read (decimal i ∷ at)) (found_gives P (decimal i ∷ at) (slice_get ts i) (item_has i ts h)) (f (decimal i ∷ at))

  pub each_from_gives : (i : ℕ) (at : List (List ℕ)) (ts : List Tree) → Each P ts → Gives (λ xs. Each Q xs × (length xs ≡ length ts)) (each_from i read at ts)
  each_from_gives i at [] h = (tt, refl)
  each_from_gives i at (t ∷ ts) h =
      goes_on Q (λ xs. Each Q xs × (length xs ≡ length (t ∷ ts))) (read (decimal i ∷ at) t) (λ a. each_from (i + 1) read at ts >>= (λ more. Ok (a ∷ more))) (f (decimal i ∷ at) t h.0) (λ a q.
      goes_on (λ xs. Each Q xs × (length xs ≡ length ts)) (λ xs. Each Q xs × (length xs ≡ length (t ∷ ts))) (each_from (i + 1) read at ts) (λ more. Ok (a ∷ more)) (each_from_gives (i + 1) at ts h.1) (λ more g. ((q, g.0), omega (arith, g.1))))

  pub each_gives : (at : List (List ℕ)) (ts : List Tree) → Each P ts → Gives (λ xs. Each Q xs × (length xs ≡ length ts)) (each read at ts)
  each_gives at ts h = each_from_gives 0 at ts h

-- each member
pub each_member_gives : {A : Type 0} (P : List ℕ × Tree → Type 0) (Q : A → Type 0) (read : Reader (List ℕ × Tree) A) (at : List (List ℕ)) (ms : List (List ℕ × Tree)) → ((place : List (List ℕ)) (m : List ℕ × Tree) → P m → Gives Q (read place m)) → Each P ms → Gives (λ xs. Each Q xs × (length xs ≡ length ms)) (each_member read at ms)
each_member_gives P Q read at [] f h = (tt, refl)
each_member_gives P Q read at (m ∷ ms) f h =
    goes_on Q (λ xs. Each Q xs × (length xs ≡ length (m ∷ ms))) (read at m) (λ a. each_member read at ms >>= (λ more. Ok (a ∷ more))) (f at m h.0) (λ a q.
    goes_on (λ xs. Each Q xs × (length xs ≡ length ms)) (λ xs. Each Q xs × (length xs ≡ length (m ∷ ms))) (each_member read at ms) (λ more. Ok (a ∷ more)) (each_member_gives P Q read at ms f h.1) (λ more g. ((q, g.0), omega (arith, g.1))))

abbrev pub Anything : {A : Type 0} → A → Type 0
Anything a = Unit {0}

pub gives_any : {A : Type 0} (r : Result A (List ℕ)) → Gives Anything r
gives_any (Ok a) = tt
gives_any (Err fault) = tt
