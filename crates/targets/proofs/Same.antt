-- Instances in another order are the same for every test.
use Rattle.std.proofs.Common.{◌≡◌, ℕ, suc, ◌<◌, List, [], ◌∷◌, ◌++◌, length, get_or, take, drop, map, Option, Some, None, Bool, true, false, cond, inl, inr, refl, sym, ap, ap₂, ◌∙◌}
use Rattle.std.specs.Prelude.{◌==◌, ◌||◌}
use Rattle.std.specs.List.{position, list_any, filter, insert, remove}
use Rattle.std.proofs.lemmas.List.{take-append-drop, set-get_or, set_split}
use Rattle.std.proofs.lemmas.List.Folds.{list_any-append}
use Rattle.std.proofs.lemmas.List.Quantifiers.{position-Some}
use Rattle.std.specs.Prelude.{option_map}
use Rattle.std.proofs.lemmas.Bool.{cases_Bool, eqb-true}
use Rattle.machine_spec.specs.declared.instance.Instance.{Instance}
use Rattle.machine_spec.specs.Lists.{first_removed, removed_at}
use Rattle.machine_spec.specs.Stopping.{inserted_behind, placed_behind}
use Rattle.machine_spec.specs.Stores.{live, instance_at}
use Rattle.targets.specs.Live.{IsLive}
use Rattle.targets.proofs.Cast.{live_is_placed, instance_at_is}
use Rattle.targets.proofs.Moves.{inserted_behind_is}

swap : (a b c : Bool) → (a || (b || c)) ≡ (b || (a || c))
swap true true c = refl
swap true false c = refl
swap false b c = refl

any-mid : (p : Instance → Bool) (xs ys : List Instance) (x : Instance) → list_any p (xs ++ x ∷ ys) ≡ (p x || list_any p (xs ++ ys))
any-mid p xs ys x =
    list_any-append p xs (x ∷ ys) ∙ swap (list_any p xs) (p x) (list_any p ys) ∙ ap (λ b. p x || b) (sym (list_any-append p xs ys))

any-insert : (p : Instance → Bool) (xs : List Instance) (k : ℕ) (x : Instance) → list_any p (insert xs k x) ≡ (p x || list_any p xs)
any-insert p xs k x = any-mid p (take k xs) (drop k xs) x ∙ ap (λ l. p x || list_any p l) (take-append-drop k xs)

any-remove : (p : Instance → Bool) (xs : List Instance) (k : ℕ) (d : Instance) → k < length xs → list_any p xs ≡ (p (get_or xs k d) || list_any p (remove xs k))
any-remove p xs k d lt =
    ap (list_any p) (sym (set-get_or xs k d) ∙ set_split xs k (get_or xs k d) lt)
    ∙ any-mid p (take k xs) (drop (suc k) xs) (get_or xs k d)

-- one is taken out and put at another place
pub any-moved : (p : Instance → Bool) (xs : List Instance) (k j : ℕ) (d : Instance) → k < length xs → list_any p (insert (remove xs k) j (get_or xs k d)) ≡ list_any p xs
any-moved p xs k j d lt = any-insert p (remove xs k) j (get_or xs k d) ∙ sym (any-remove p xs k d lt)

behind_at : (test : Instance → Bool) (clone original : ℕ) (is rest : List Instance) (k : ℕ) (d : Instance) → position (λ i. i.number == clone) is ≡ Some k → rest ≡ remove is k → (o : Option ℕ) → position (λ i. i.number == original) rest ≡ o → IsLive original rest
    → list_any test (inserted_behind (instance_at clone is) original rest) ≡ list_any test is
behind_at test clone original is rest k d p e (Some j) q h =
    let at = position-Some (λ (i : Instance). i.number == clone) is k d p in
    ap (list_any test) (inserted_behind_is (instance_at clone is) original rest j q)
    ∙ ap₂ (λ (l : List Instance) (x : Instance). list_any test (insert l j x)) e (instance_at_is clone is k d p)
    ∙ any-moved test is k j d at.0
behind_at test clone original is rest k d p e None q h = absurd (live_is_placed original rest h q)

-- a clone is put behind an instance that is live among the others
pub any-behind : (test : Instance → Bool) (clone original : ℕ) (is : List Instance) (k : ℕ) (d : Instance) → position (λ i. i.number == clone) is ≡ Some k → IsLive original (first_removed (λ i. i.number == clone) is)
    → list_any test (placed_behind clone original is) ≡ list_any test is
any-behind test clone original is k d p h =
    let rest = first_removed (λ (i : Instance). i.number == clone) is in
    behind_at test clone original is (first_removed (λ (i : Instance). i.number == clone) is) k d p (ap (λ o. removed_at o is) p)
    (position (λ (i : Instance). i.number == original) (first_removed (λ (i : Instance). i.number == clone) is)) refl h

map_one : (b : Bool) (f : Instance → Instance) (i : Instance) (o q : Option Instance) → o ≡ option_map f q → cond b (Some (f i)) o ≡ option_map f (cond b (Some i) q)
map_one true f i o q e = refl
map_one false f i o q e = e

-- an instance is found changed where all are changed and keep their numbers
pub live-map : (f : Instance → Instance) → ((i : Instance) → (f i).number ≡ i.number) → (n : ℕ) (is : List Instance) → live n (map f is) ≡ option_map f (live n is)
live-map f h n [] = refl
live-map f h n (i ∷ is) =
    ap (λ m. cond (m == n) (Some (f i)) (live n (map f is))) (h i)
    ∙ map_one (i.number == n) f i (live n (map f is)) (live n is) (live-map f h n is)

-- the instances that are kept have all of the number
pub live-filter : (n : ℕ) (p : Instance → Bool) (is : List Instance) → ((i : Instance) → i.number ≡ n → p i ≡ true) → live n (filter p is) ≡ live n is
live-filter n p [] h = refl
live-filter n p (i ∷ is) h = elim (cases_Bool (i.number == n)) [
  | inl t ↦ rw (h i (eqb-true i.number n t), t) refl
  | inr f ↦ elim (cases_Bool (p i)) [
    | inl t ↦ rw (t, f) (live-filter n p is h)
    | inr g ↦ rw (g, f) (live-filter n p is h)
  ]
]
