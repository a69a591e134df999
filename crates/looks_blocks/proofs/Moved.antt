-- Instances of which each number stands at most once: some of them changed, or one put at another place.
use Rattle.std.proofs.Common.{◌≡◌, ℕ, suc, ◌+◌, ◌-◌, ◌<◌, ◌≤◌, List, [], ◌∷◌, ◌++◌, length, get_or, take, drop, map, Option, Some, None, Bool, true, false, cond, refl, sym, ap, ap₂, ◌∙◌, arith}
use Rattle.std.specs.Prelude.{◌==◌, option_map}
use Rattle.std.specs.List.{count_by, find, fold, insert, position, remove}
use Rattle.std.specs.Option.{option_or}
use Rattle.std.proofs.lemmas.List.{set-get_or, set_split, take-append-drop}
use Rattle.std.proofs.lemmas.List.Folds.{find-append}
use Rattle.std.proofs.lemmas.List.Sums.{sum_by-append, sum_by-cons, sum_by-insert, sum_by-remove, sum_by-take-le}
use Rattle.machine_spec.specs.declared.instance.Instance.{Instance}
use Rattle.machine_spec.specs.Looks.{at_layer, layer}
use Rattle.machine_spec.specs.Stores.{instance_at, no_instance}
use Rattle.targets.specs.Layers.{layer_to}
use Rattle.targets.specs.Live.{IsLive, IsSameCast, numbers, target_of, HasOneEach}
use Rattle.targets.specs.declared.layers.Place.{Place}
use Rattle.targets.proofs.Cast.{instance_at_is, live_is_placed}
use Rattle.targets.proofs.Places.{position_is}

module _ {X : Type 0} (p : X → Bool) where
  none_of : (b : Bool) (x : X) (n : ℕ) (o : Option X) → cond b 1 0 + n ≡ 0 → (n ≡ 0 → o ≡ None) → cond b (Some x) o ≡ None
  none_of true x n o e h = absurd (omega arith)
  none_of false x n o e h = h (omega arith)

  find-none_counted : (xs : List X) → count_by p xs ≡ 0 → find p xs ≡ None
  find-none_counted [] e = refl
  find-none_counted (x ∷ xs) e =
      none_of (p x) x (count_by p xs) (find p xs) (sym (sum_by-cons (λ y. cond (p y) 1 0) x xs) ∙ e) (find-none_counted xs)

  -- one between others that does not pass, and one that alone does
  find-passed : (us vs : List X) (x : X) → p x ≡ false → find p (us ++ x ∷ vs) ≡ find p (us ++ vs)
  find-passed us vs x e =
      find-append p us (x ∷ vs) ∙ ap (λ b. option_or (find p us) (cond b (Some x) (find p vs))) e ∙ sym (find-append p us vs)

  find-alone : (us vs : List X) (x : X) → p x ≡ true → count_by p us ≡ 0 → find p (us ++ x ∷ vs) ≡ Some x
  find-alone us vs x e none =
      find-append p us (x ∷ vs) ∙ ap₂ (λ (o : Option X) (b : Bool). option_or o (cond b (Some x) (find p vs))) (find-none_counted us none) e

  count-moved : (xs : List X) (j k : ℕ) (d : X) → j < length xs → count_by p (insert (remove xs j) k (get_or xs j d)) ≡ count_by p xs
  count-moved xs j k d lt =
      sum_by-insert (λ x. cond (p x) 1 0) (remove xs j) k (get_or xs j d) ∙ sum_by-remove (λ x. cond (p x) 1 0) xs j d lt

  parted : (xs : List X) (j : ℕ) (d : X) → j < length xs → xs ≡ take j xs ++ get_or xs j d ∷ drop (suc j) xs
  parted xs j d lt = sym (set-get_or xs j d) ∙ set_split xs j (get_or xs j d) lt

  found_by : (b : Bool) (xs : List X) (j k : ℕ) (d : X) → p (get_or xs j d) ≡ b → j < length xs → count_by p xs ≤ 1 → find p (insert (remove xs j) k (get_or xs j d)) ≡ find p xs
  found_by false xs j k d e lt one =
      find-passed (take k (remove xs j)) (drop k (remove xs j)) (get_or xs j d) e
      ∙ ap (find p) (take-append-drop k (remove xs j))
      ∙ sym (ap (find p) (parted xs j d lt) ∙ find-passed (take j xs) (drop (suc j) xs) (get_or xs j d) e)
  found_by true xs j k d e lt one =
      let counted : count_by p (remove xs j) + 1 ≡ count_by p xs = ap (λ b. count_by p (remove xs j) + cond b 1 0) (sym e) ∙ sum_by-remove (λ x. cond (p x) 1 0) xs j d lt in
      let before : count_by p (take k (remove xs j)) ≤ count_by p (remove xs j) = sum_by-take-le (λ x. cond (p x) 1 0) (remove xs j) k in
      let parts : count_by p (remove xs j) ≡ count_by p (take j xs) + count_by p (drop (suc j) xs) = sum_by-append (λ x. cond (p x) 1 0) (take j xs) (drop (suc j) xs) in
      find-alone (take k (remove xs j)) (drop k (remove xs j)) (get_or xs j d) e (omega arith)
      ∙ sym (ap (find p) (parted xs j d lt) ∙ find-alone (take j xs) (drop (suc j) xs) (get_or xs j d) e (omega arith))

  -- what is found stays where at most one passes
  find-moved : (xs : List X) (j k : ℕ) (d : X) → j < length xs → count_by p xs ≤ 1 → find p (insert (remove xs j) k (get_or xs j d)) ≡ find p xs
  find-moved xs j k d lt one = found_by (p (get_or xs j d)) xs j k d refl lt one

-- where an instance that is live stands
record StandsAt (n : ℕ) (is : List Instance) (k : ℕ) : Type 0 where
  place : layer n is ≡ k
  within : k < length is
  own : instance_at n is ≡ get_or is k no_instance

standing : (n : ℕ) (is : List Instance) (o : Option ℕ) → position (λ i. i.number == n) is ≡ o → IsLive n is → (k : ℕ) × StandsAt n is k
standing n is None e h = absurd (live_is_placed n is h e)
standing n is (Some k) e h =
    let at = position_is (λ (i : Instance). i.number == n) is k no_instance e in
    (k, record { place = at.0; within = at.1; own = instance_at_is n is k no_instance e })

layer_is : (n place : ℕ) (is : List Instance) (k : ℕ) → StandsAt n is k → at_layer n place is ≡ insert (remove is k) place (get_or is k no_instance)
layer_is n place is k s = ap₂ (λ (j : ℕ) (i : Instance). insert (remove is j) place i) s.place s.own

target_at : (m n place : ℕ) (is : List Instance) (k : ℕ) → StandsAt n is k → HasOneEach is → target_of m (at_layer n place is) ≡ target_of m is
target_at m n place is k s one =
    ap (target_of m) (layer_is n place is k s)
    ∙ ap (option_map (λ (i : Instance). i.of)) (find-moved (λ i. i.number == m) is k place no_instance s.within (one m))

one_at : (m n place : ℕ) (is : List Instance) (k : ℕ) → StandsAt n is k → HasOneEach is → count_by (λ i. i.number == m) (at_layer n place is) ≤ 1
one_at m n place is k s one =
    let same : count_by (λ i. i.number == m) (at_layer n place is) ≡ count_by (λ i. i.number == m) is =
    ap (count_by (λ i. i.number == m)) (layer_is n place is k s) ∙ count-moved (λ i. i.number == m) is k place no_instance s.within in
    omega (arith, one m)

-- an instance that is live is put in another layer
module _ (n : ℕ) (to : Place) (old new : List Instance) where
  pub targets_moved : IsLive n old → HasOneEach old → new ≡ at_layer n (layer_to to (layer n old) (length old - 1)) old → (m : ℕ) → target_of m new ≡ target_of m old
  targets_moved h one e m =
      let s = standing n old (position (λ (i : Instance). i.number == n) old) refl h in
      ap (target_of m) e ∙ target_at m n (layer_to to (layer n old) (length old - 1)) old s.0 s.1 one

  pub one_each_moved : IsLive n old → HasOneEach old → new ≡ at_layer n (layer_to to (layer n old) (length old - 1)) old → HasOneEach new
  one_each_moved h one e m =
      let s = standing n old (position (λ (i : Instance). i.number == n) old) refl h in
      let same = ap (count_by (λ (i : Instance). i.number == m)) e in
      omega (arith, one_at m n (layer_to to (layer n old) (length old - 1)) old s.0 s.1 one)

counted_from : {X Y : Type 0} (p : Y → Bool) (f : X → Y) (a : ℕ) (xs : List X) → fold (λ n y. n + cond (p y) 1 0) a (map f xs) ≡ fold (λ n x. n + cond (p (f x)) 1 0) a xs
counted_from p f a [] = refl
counted_from p f a (x ∷ xs) = counted_from p f (a + cond (p (f x)) 1 0) xs

count-numbers : (m : ℕ) (is : List Instance) → count_by (λ n. n == m) (numbers is) ≡ count_by (λ i. i.number == m) is
count-numbers m is = counted_from (λ n. n == m) (λ (i : Instance). i.number) 0 is

-- instances that keep their numbers
pub one_each_cast : (old new : List Instance) → IsSameCast old new → HasOneEach old → HasOneEach new
one_each_cast old new c one m =
    let same : count_by (λ i. i.number == m) new ≡ count_by (λ i. i.number == m) old =
    sym (count-numbers m new) ∙ ap (count_by (λ n. n == m)) c.order ∙ count-numbers m old in
    omega (arith, one m)
