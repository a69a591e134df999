-- A value that is recorded at its place.
use Rattle.std.proofs.Common.{◌≡◌, ℕ, zero, suc, ◌<◌, List, [], ◌∷◌, ◌++◌, length, get_or, set, Option, Some, None, Bool, true, false, cond, refl, ap, ◌∙◌, arith}
use Rattle.std.specs.Prelude.{◌==◌, nat_le, nat_lt, unwrap_or}
use Rattle.std.specs.List.{position, insert, find}
use Rattle.std.proofs.lemmas.List.Quantifiers.{position-Some}
use Rattle.std.proofs.lemmas.Bool.Decides.{nat_tests}
use Rattle.machine_spec.specs.Frame.{with_edge, recorded}
use Rattle.targets.specs.Edges.{edge_of}
use Rattle.targets.proofs.Places.{find_none}

abbrev Edge : Type 0
Edge = ℕ × Bool

is_past : ℕ → Edge → Bool
is_past b x = nat_le b x.0

-- the three cases of one element
over : (b : ℕ) (v : Bool) (x : Edge) (xs : List Edge) → (x.0 == b) ≡ true → with_edge b v (x ∷ xs) ≡ (b, v) ∷ xs
over b v x xs e = rw e refl

before : (b : ℕ) (v : Bool) (x : Edge) (xs : List Edge) → (x.0 == b) ≡ false → nat_le b x.0 ≡ true → with_edge b v (x ∷ xs) ≡ (b, v) ∷ (x ∷ xs)
before b v x xs e le =
    let lt : nat_lt b x.0 ≡ true = grind (arith, nat_tests) in
    rw (e, lt) refl

behind : (b : ℕ) (v : Bool) (x : Edge) (xs : List Edge) → nat_le b x.0 ≡ false → with_edge b v (x ∷ xs) ≡ x ∷ with_edge b v xs
behind b v x xs e =
    let other : (x.0 == b) ≡ false = grind (arith, nat_tests) in
    let less : nat_lt b x.0 ≡ false = grind (arith, nat_tests) in
    rw (other, less) refl

set_at : (b : ℕ) (v : Bool) (xs : List Edge) (k : ℕ) (d : Edge) → k < length xs → ((j : ℕ) → j < k → nat_le b (get_or xs j d).0 ≡ false) → ((get_or xs k d).0 == b) ≡ true → with_edge b v xs ≡ set xs k (b, v)
set_at b v [] k d lt not_before e = absurd (omega arith)
set_at b v (x ∷ xs) zero d lt not_before e = over b v x xs e
set_at b v (x ∷ xs) (suc k) d lt not_before e =
    behind b v x xs (not_before 0 (omega arith)) ∙ ap (λ (l : List Edge). x ∷ l) (set_at b v xs k d (omega arith) (λ j h. not_before (suc j) (omega arith)) e)

insert_at : (b : ℕ) (v : Bool) (xs : List Edge) (k : ℕ) (d : Edge) → k < length xs → nat_le b (get_or xs k d).0 ≡ true → ((j : ℕ) → j < k → nat_le b (get_or xs j d).0 ≡ false) → ((get_or xs k d).0 == b) ≡ false → with_edge b v xs ≡ insert xs k (b, v)
insert_at b v [] k d lt le not_before e = absurd (omega arith)
insert_at b v (x ∷ xs) zero d lt le not_before e = before b v x xs e le
insert_at b v (x ∷ xs) (suc k) d lt le not_before e =
    behind b v x xs (not_before 0 (omega arith)) ∙ ap (λ (l : List Edge). x ∷ l) (insert_at b v xs k d (omega arith) le (λ j h. not_before (suc j) (omega arith)) e)

-- at the first place that is not below the block, where it is the block's
pub with_edge-over : (b : ℕ) (v : Bool) (xs : List Edge) (k : ℕ) (d : Edge) → position (λ x. nat_le b x.0) xs ≡ Some k → ((get_or xs k d).0 == b) ≡ true → with_edge b v xs ≡ set xs k (b, v)
with_edge-over b v xs k d p e =
    let at = position-Some (λ (x : Edge). nat_le b x.0) xs k d p in
    set_at b v xs k d at.0 at.2 e

-- and where it is another's
pub with_edge-before : (b : ℕ) (v : Bool) (xs : List Edge) (k : ℕ) (d : Edge) → position (λ x. nat_le b x.0) xs ≡ Some k → ((get_or xs k d).0 == b) ≡ false → with_edge b v xs ≡ insert xs k (b, v)
with_edge-before b v xs k d p e =
    let at = position-Some (λ (x : Edge). nat_le b x.0) xs k d p in
    insert_at b v xs k d at.0 at.1 at.2 e

push_one : (b : ℕ) (v : Bool) (x : Edge) (xs : List Edge) (c : Bool) → nat_le b x.0 ≡ c → (find (λ y. nat_le b y.0) xs ≡ None → with_edge b v xs ≡ xs ++ (b, v) ∷ []) → find (λ y. nat_le b y.0) (x ∷ xs) ≡ None → with_edge b v (x ∷ xs) ≡ (x ∷ xs) ++ (b, v) ∷ []
push_one b v x xs true c h f = absurd (let g = rw c at f in cc)
push_one b v x xs false c h f = behind b v x xs c ∙ ap (λ (l : List Edge). x ∷ l) (h (rw c at f))

push_by : (b : ℕ) (v : Bool) (xs : List Edge) → find (λ y. nat_le b y.0) xs ≡ None → with_edge b v xs ≡ xs ++ (b, v) ∷ []
push_by b v [] e = refl
push_by b v (x ∷ xs) e = push_one b v x xs (nat_le b x.0) refl (push_by b v xs) e

-- where all are below the block
pub with_edge-push : (b : ℕ) (v : Bool) (xs : List Edge) → position (λ x. nat_le b x.0) xs ≡ None → with_edge b v xs ≡ xs ++ (b, v) ∷ []
with_edge-push b v xs e = push_by b v xs (find_none (λ (x : Edge). nat_le b x.0) xs e)

recorded_one : (b : Bool) (v : Bool) (o : Option Bool) (w : Bool) → unwrap_or o false ≡ w → unwrap_or (cond b (Some v) o) false ≡ cond b v w
recorded_one true v o w e = refl
recorded_one false v o w e = e

-- a value that is not recorded counts as false
pub recorded_is : (hat : ℕ) (es : List Edge) → unwrap_or (edge_of hat es) false ≡ recorded hat es
recorded_is hat [] = refl
recorded_is hat (x ∷ xs) = recorded_one (x.0 == hat) x.1 (edge_of hat xs) (recorded hat xs) (recorded_is hat xs)
