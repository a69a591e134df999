-- What readers give: a fact of what was read, from the facts of its parts.
use Rattle.std.proofs.Common.{◌≡◌, ℕ, ◌+◌, ◌==◌, Bool, true, false, List, [], ◌∷◌, length, Option, Some, None, option_and_then, slice_get, Result, Ok, Err, if◌then◌else◌, bytes_eq, refl, ap, subst}
use Rattle.std.specs.Fmt.{decimal}
use Rattle.std.specs.Option.{option_or}
use Rattle.std.proofs.lemmas.Bool.Decides.{Decides-eqb}
use Rattle.serde_json.specs.Data.{Data}
use Rattle.serde_json.specs.Find.{get, as_str}
use Rattle.scratch_values.specs.Named.{item_named}
use Rattle.json_shapes.specs.Shapes.{Reader, found, ◌>>=◌}
use Rattle.laws_of_threads.specs.Lists.{Each}
use Rattle.saved_spec.specs.Shapes.{each, each_from, items, member, part, row, sized, word}

-- what the reader gives has the fact
abbrev pub Gives : {X A : Type 0} → (A → Type 0) → Reader X A → Type 0
Gives {X} {A} F read = (at : List (List ℕ)) (d : X) (a : A) → read at d ≡ Ok a → F a

-- the first part was read, and the rest goes on with it
pub goes_on : {A B : Type 0} {b : B} (r : Result A (List ℕ)) (next : A → Result B (List ℕ)) (G : Type 0) → r >>= next ≡ Ok b
    → ((a : A) → r ≡ Ok a → next a ≡ Ok b → G) → G
goes_on (Ok a) next G h k = k a refl h
goes_on (Err e) next G h k = absurd (cc h)

abbrev ok : {A : Type 0} → A → Result A (List ℕ)
ok a = Ok a

pub same_ok : {A : Type 0} (a b : A) → ok a ≡ Ok b → a ≡ b
same_ok a b h = cc

pub same_some : {A : Type 0} (a b : A) → Some a ≡ Some b → a ≡ b
same_some a b h = cc

-- with a fact of what was made
pub made : {A : Type 0} (F : A → Type 0) (a b : A) → ok a ≡ Ok b → F a → F b
made F a b h f = subst F (same_ok a b h) f

pub found_some : {A : Type 0} (at : List (List ℕ)) (o : Option A) (a : A) → found at o ≡ Ok a → o ≡ Some a
found_some at (Some x) a h = ap Some (same_ok x a h)
found_some at None a h = absurd (cc h)

pub and_then : {A B : Type 0} {b : B} (f : A → Option B) (o : Option A) (G : Type 0) → option_and_then f o ≡ Some b → ((a : A) → o ≡ Some a → f a ≡ Some b → G) → G
and_then f (Some a) G h k = k a refl h
and_then f None G h k = absurd (cc h)

pub one_of : {A : Type 0} {a : A} (o p : Option A) (G : Type 0) → option_or o p ≡ Some a → (o ≡ Some a → G) → (p ≡ Some a → G) → G
one_of (Some x) p G h k l = k h
one_of None p G h k l = l h

-- one of the words

named_by : {A : Type 0} (F : A → Type 0) (c : Bool) (x a : A) (o : Option A) → F x → (o ≡ Some a → F a) → (if c then Some x else o) ≡ Some a → F a
named_by F true x a o f rest h = subst F (same_some x a h) f
named_by F false x a o f rest h = rest h

pub named_gives : {A : Type 0} (F : A → Type 0) (t : List ℕ) (words : List (List ℕ × A)) (a : A) → Each (λ p. F p.1) words → item_named t words ≡ Some a → F a
named_gives F t [] a all h = absurd (cc h)
named_gives F t (p ∷ words) a all h = named_by F (bytes_eq p.0 t) p.1 a (item_named t words) all.0 (named_gives F t words a all.1) h

pub word_gives : {A : Type 0} (F : A → Type 0) (words : List (List ℕ × A)) → Each (λ p. F p.1) words → Gives F (word words)
word_gives F words all at d a h = and_then (λ t. item_named t words) (as_str d) (F a) (found_some at _ a h) (λ t _ e. named_gives F t words a all e)

-- parts and members

pub part_gives : {A : Type 0} (F : A → Type 0) (i : ℕ) (read : Reader Data A) → Gives F read → Gives F (part i read)
part_gives F i read g at ds a h = goes_on (found (decimal i ∷ at) (slice_get ds i)) (read (decimal i ∷ at)) (F a) h (λ d _ e. g (decimal i ∷ at) d a e)

pub member_gives : {A : Type 0} (F : A → Type 0) (name : List ℕ) (read : Reader Data A) → Gives F read → Gives F (member name read)
member_gives F name read g at d a h = goes_on (found (name ∷ at) (get name d)) (read (name ∷ at)) (F a) h (λ d _ e. g (name ∷ at) d a e)

pub each_from_gives : {A : Type 0} (F : A → Type 0) (read : Reader Data A) → Gives F read → (i : ℕ) → Gives (Each F) (each_from i read)
each_from_gives F read g i at [] xs h = made (Each F) [] xs h tt
each_from_gives F read g i at (d ∷ ds) xs h =
    goes_on (read (decimal i ∷ at) d) _ (Each F xs) h (λ a e h. goes_on (each_from (i + 1) read at ds) _ (Each F xs) h (λ more f h.
    made (Each F) (a ∷ more) xs h (g (decimal i ∷ at) d a e, each_from_gives F read g (i + 1) at ds more f)))

pub each_gives : {A : Type 0} (F : A → Type 0) (read : Reader Data A) → Gives F read → Gives (Each F) (each read)
each_gives F read g at d xs h = goes_on (items at d) (each_from 0 read at) (Each F xs) h (λ ds _ e. each_from_gives F read g 0 at ds xs e)

pub each_from_length : {A : Type 0} (read : Reader Data A) (i : ℕ) (at : List (List ℕ)) (ds : List Data) (xs : List A) → each_from i read at ds ≡ Ok xs → length xs ≡ length ds
each_from_length read i at [] xs h = made (λ xs. length xs ≡ 0) [] xs h refl
each_from_length read i at (d ∷ ds) xs h =
    goes_on (read (decimal i ∷ at) d) _ (length xs ≡ length (d ∷ ds)) h (λ a _ h. goes_on (each_from (i + 1) read at ds) _ (length xs ≡ length (d ∷ ds)) h (λ more f h.
    made (λ xs. length xs ≡ length (d ∷ ds)) (a ∷ more) xs h (cc (each_from_length read (i + 1) at ds more f))))

sized_by : (c : Bool) (at : List (List ℕ)) (n : ℕ) (ds es : List Data) → (c ≡ true → length ds ≡ n) → found at (if c then Some ds else None) ≡ Ok es → length es ≡ n
sized_by true at n ds es e h = made (λ es. length es ≡ n) ds es h (e refl)
sized_by false at n ds es e h = absurd (cc h)

pub row_length : (n : ℕ) (at : List (List ℕ)) (d : Data) (ds : List Data) → row n at d ≡ Ok ds → length ds ≡ n
row_length n at d ds h = goes_on (items at d) (sized n at) (length ds ≡ n) h (λ es _ e. sized_by (length es == n) at n es ds (Decides-eqb (length es) n).0 e)
