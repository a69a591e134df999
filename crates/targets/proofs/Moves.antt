-- Instances that are put in, taken out and moved, and their numbers.
use Rattle.std.proofs.Common.{◌≡◌, ◌≢◌, ℕ, zero, suc, ◌<◌, min, List, [], ◌∷◌, ◌++◌, length, get_or, take, drop, map, Option, Some, None, IsSome, Bool, true, false, not, cond, refl, sym, ap, ap₂, ◌∙◌, arith}
use Rattle.std.specs.Prelude.{◌==◌}
use Rattle.std.specs.List.{position, find, filter, insert, remove}
use Rattle.std.specs.Option.{option_or}
use Rattle.std.proofs.lemmas.List.{map-append, take-map, drop-map, take_min, drop_min}
use Rattle.std.proofs.lemmas.List.Folds.{find-append}
use Rattle.std.proofs.lemmas.List.Quantifiers.{position-Some}
use Rattle.std.proofs.lemmas.Bool.{eqb-true}
use Rattle.std.proofs.lemmas.Bool.Decides.{nat_tests}
use Rattle.machine_spec.specs.declared.instance.Instance.{Instance}
use Rattle.machine_spec.specs.Stores.{live}
use Rattle.machine_spec.specs.Stopping.{inserted_behind}
use Rattle.targets.specs.Live.{IsLive, numbers}
use Rattle.targets.proofs.Places.{find_none}

pub numbers-insert : (is : List Instance) (k : ℕ) (x : Instance) → numbers (insert is k x) ≡ insert (numbers is) k x.number
numbers-insert is k x =
    map-append (λ (i : Instance). i.number) (take k is) (x ∷ drop k is)
    ∙ ap₂ (λ (ms ns : List ℕ). ms ++ x.number ∷ ns) (sym (take-map (λ (i : Instance). i.number) k is)) (sym (drop-map (λ (i : Instance). i.number) k is))

pub numbers-remove : (is : List Instance) (k : ℕ) → numbers (remove is k) ≡ remove (numbers is) k
numbers-remove is k =
    map-append (λ (i : Instance). i.number) (take k is) (drop (suc k) is)
    ∙ ap₂ ◌++◌ (sym (take-map (λ (i : Instance). i.number) k is)) (sym (drop-map (λ (i : Instance). i.number) (suc k) is))

pub get_or-numbers : (is : List Instance) (k d : ℕ) (e : Instance) → k < length is → get_or (numbers is) k d ≡ (get_or is k e).number
get_or-numbers [] k d e lt = absurd (omega arith)
get_or-numbers (i ∷ is) zero d e lt = refl
get_or-numbers (i ∷ is) (suc k) d e lt = get_or-numbers is k d e (omega arith)

filter_one : (b : Bool) (i : Instance) (ns : List ℕ) (is : List Instance) → ns ≡ numbers is → cond b (i.number ∷ ns) ns ≡ numbers (cond b (i ∷ is) is)
filter_one true i ns is e = ap (λ (l : List ℕ). i.number ∷ l) e
filter_one false i ns is e = e

pub numbers-filter : (p : ℕ → Bool) (is : List Instance) → filter p (numbers is) ≡ numbers (filter (λ i. p i.number) is)
numbers-filter p [] = refl
numbers-filter p (i ∷ is) = filter_one (p i.number) i (filter p (numbers is)) (filter (λ j. p j.number) is) (numbers-filter p is)

behind_at : (x : Instance) (n : ℕ) (is : List Instance) (k : ℕ) (d : Instance) → k < length is → ((get_or is k d).number == n) ≡ true → ((j : ℕ) → j < k → ((get_or is j d).number == n) ≡ false) → inserted_behind x n is ≡ insert is k x
behind_at x n [] k d lt e before = absurd (omega arith)
behind_at x n (i ∷ is) zero d lt e before = rw e refl
behind_at x n (i ∷ is) (suc k) d lt e before =
    rw (before 0 (omega arith)) (ap (λ (l : List Instance). i ∷ l) (behind_at x n is k d (omega arith) e (λ j h. before (suc j) (omega arith))))

-- the first instance of the number is at the place
pub inserted_behind_is : (x : Instance) (n : ℕ) (is : List Instance) (k : ℕ) → position (λ i. i.number == n) is ≡ Some k → inserted_behind x n is ≡ insert is k x
inserted_behind_is x n is k p =
    let at = position-Some (λ (i : Instance). i.number == n) is k x p in
    behind_at x n is k x at.0 at.1 at.2

behind_one : (b : Bool) (x i : Instance) (n : ℕ) (is : List Instance) → (i.number == n) ≡ b → (find (λ j. j.number == n) is ≡ None → inserted_behind x n is ≡ is) → find (λ j. j.number == n) (i ∷ is) ≡ None → inserted_behind x n (i ∷ is) ≡ i ∷ is
behind_one true x i n is e h f = absurd (let g = rw e at f in cc)
behind_one false x i n is e h f = rw e (ap (λ (l : List Instance). i ∷ l) (h (rw e at f)))

behind_by : (x : Instance) (n : ℕ) (is : List Instance) → find (λ j. j.number == n) is ≡ None → inserted_behind x n is ≡ is
behind_by x n [] f = refl
behind_by x n (i ∷ is) f = behind_one (i.number == n) x i n is refl (behind_by x n is) f

pub inserted_behind_none : (x : Instance) (n : ℕ) (is : List Instance) → position (λ i. i.number == n) is ≡ None → inserted_behind x n is ≡ is
inserted_behind_none x n is p = behind_by x n is (find_none (λ (i : Instance). i.number == n) is p)

-- a place past the end is the end
pub insert_kept : (xs : List Instance) (k n : ℕ) (x : Instance) → n ≡ length xs → insert xs (min k n) x ≡ insert xs k x
insert_kept xs k n x e =
    ap (λ m. insert xs (min k m) x) e ∙ ap₂ (λ (ys zs : List Instance). ys ++ x ∷ zs) (take_min k xs) (drop_min k xs)

or_none : (o : Option Instance) → option_or o None ≡ o
or_none None = refl
or_none (Some s) = refl

or_first : (o q : Option Instance) → IsSome o → option_or o q ≡ o
or_first (Some i) q h = refl
or_first None q h = absurd (cc h)

-- an instance that is live stays the one that is found
pub live-pushed : (n : ℕ) (is : List Instance) (x : Instance) → IsLive n is → live n (is ++ x ∷ []) ≡ live n is
live-pushed n is x h = find-append (λ (i : Instance). i.number == n) is (x ∷ []) ∙ or_first (live n is) (live n (x ∷ [])) h

find_behind : (b : Bool) (s : Instance) (o : Option Instance) → b ≡ false → o ≡ cond b (Some s) o
find_behind b s o e = sym (ap (λ c. cond c (Some s) o) e)

find-remove : (n : ℕ) (is : List Instance) (k : ℕ) (d : Instance) → k < length is → ((get_or is k d).number == n) ≡ false → live n (remove is k) ≡ live n is
find-remove n [] k d lt e = absurd (omega arith)
find-remove n (i ∷ is) zero d lt e = find_behind (i.number == n) i (live n is) e
find-remove n (i ∷ is) (suc k) d lt e = ap (λ o. cond (i.number == n) (Some i) o) (find-remove n is k d (omega arith) e)

-- the first instance of a number is taken out
pub live-removed : (n id : ℕ) (is : List Instance) (k : ℕ) (d : Instance) → position (λ i. i.number == id) is ≡ Some k → n ≢ id → live n (remove is k) ≡ live n is
live-removed n id is k d p ne =
    let at = position-Some (λ (i : Instance). i.number == id) is k d p in
    let own : (get_or is k d).number ≡ id = eqb-true _ id at.1 in
    find-remove n is k d at.0 (grind (arith, nat_tests))

-- the code's instances, as a list whose items were all changed in place
pub numbers-map : (f : Instance → Instance) (is : List Instance) → ((i : Instance) → (f i).number ≡ i.number) → numbers (map f is) ≡ numbers is
numbers-map f [] h = refl
numbers-map f (i ∷ is) h = ap₂ (λ (n : ℕ) (ns : List ℕ). n ∷ ns) (h i) (numbers-map f is h)

twice : (b : Bool) → b ≡ not (not b)
twice true = refl
twice false = refl

pub kept_twice : (p : Instance → Bool) (is : List Instance) → filter p is ≡ filter (λ i. not (not (p i))) is
kept_twice p [] = refl
kept_twice p (i ∷ is) =
    ap (λ l. cond (p i) (i ∷ l) l) (kept_twice p is) ∙ ap (λ b. cond b (i ∷ filter (λ x. not (not (p x))) is) (filter (λ x. not (not (p x))) is)) (twice (p i))
