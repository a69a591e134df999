-- Instances that are found by their number, and one of them changed.
use Rattle.std.proofs.Common.{◌≡◌, ℕ, zero, suc, ◌+◌, List, [], ◌∷◌, get_or, set, map, Option, Some, None, IsSome, Bool, true, false, not, cond, refl, sym, subst, ap, ap₂, ◌∙◌}
use Rattle.std.specs.Prelude.{◌==◌, nat_lt, unwrap_or, option_map, is_some, IsTrue}
use Rattle.std.specs.List.{position, prefix_len, find}
use Rattle.std.proofs.lemmas.List.{length-map}
use Rattle.std.proofs.Math.Seq.{map-set_same}
use Rattle.machine_spec.specs.declared.instance.Instance.{Instance}
use Rattle.machine_spec.specs.Stores.{live, instance_at, no_instance, on_instance}
use Rattle.machine_spec.specs.Lists.{changed_at_some}
use Rattle.machine_spec.specs.declared.bubble.Bubble.{Bubble}
use Rattle.targets.specs.Changes.{changed_by}
use Rattle.targets.specs.declared.changes.Change.{Change}
use Rattle.targets.specs.declared.changes.Change.TheVariants.{Place, Direction, Size, Costume, Effect, NoEffects, Visible, Style}
use Rattle.targets.specs.Live.{IsLive, IsSameCast, target_of, numbers}
use Rattle.targets.proofs.Places.{find_is, find_none, first_changed_is}

prefix_len-map : {X Y : Type 0} (p : Y → Bool) (f : X → Y) (xs : List X) → prefix_len p (map f xs) ≡ prefix_len (λ x. p (f x)) xs
prefix_len-map p f [] = refl
prefix_len-map p f (x ∷ xs) = ap (λ n. cond (p (f x)) (1 + n) 0) (prefix_len-map p f xs)

-- the place of a number among the numbers is that of its instance
pub position-numbers : (n : ℕ) (is : List Instance) → position (λ m. m == n) (numbers is) ≡ position (λ i. i.number == n) is
position-numbers n is =
    ap₂ (λ k l. cond (nat_lt k l) (Some k) None) (prefix_len-map (λ m. not (m == n)) (λ (i : Instance). i.number) is) (length-map is (λ (i : Instance). i.number))

pub instance_at_is : (n : ℕ) (is : List Instance) (k : ℕ) (d : Instance) → position (λ i. i.number == n) is ≡ Some k → instance_at n is ≡ get_or is k d
instance_at_is n is k d e = ap (λ o. unwrap_or o no_instance) (find_is (λ i. i.number == n) is k d e)

pub live_is_placed : (n : ℕ) (is : List Instance) → IsLive n is → position (λ i. i.number == n) is ≡ None → ⊥
live_is_placed n is h e = let f = find_none (λ (i : Instance). i.number == n) is e in let g = rw f at h in cc

pub on_instance_is : (n : ℕ) (f : Instance → Instance) (is : List Instance) (k : ℕ) (d : Instance) → position (λ i. i.number == n) is ≡ Some k → on_instance n f is ≡ set is k (f (get_or is k d))
on_instance_is n f is k d e = first_changed_is (λ i. i.number == n) f is k d e

-- where none is live there is no instance, and nothing is changed
pub instance_at_none : (n : ℕ) (is : List Instance) → position (λ i. i.number == n) is ≡ None → instance_at n is ≡ no_instance
instance_at_none n is e = ap (λ o. unwrap_or o no_instance) (find_none (λ i. i.number == n) is e)

pub on_instance_none : (n : ℕ) (f : Instance → Instance) (is : List Instance) → position (λ i. i.number == n) is ≡ None → on_instance n f is ≡ is
on_instance_none n f is e = ap (λ o. changed_at_some f o is) e

pub cast_same : (is : List Instance) → IsSameCast is is
cast_same is = record { order = refl; targets = λ n. refl; live = λ n l. l }

pub cast_none : (n : ℕ) (f : Instance → Instance) (is : List Instance) → position (λ i. i.number == n) is ≡ None → IsSameCast is (on_instance n f is)
cast_none n f is e = let P : List Instance → Type 0 = IsSameCast is in subst P (sym (on_instance_none n f is e)) (cast_same is)

-- the code's old and new instances, where one was changed at its place
pub changed_is : (n : ℕ) (f : Instance → Instance) (old is : List Instance) (k : ℕ) (s t : Instance) → old ≡ is → position (λ i. i.number == n) is ≡ Some k → s ≡ get_or old k s → t ≡ f s → set old k t ≡ on_instance n f is
changed_is n f old is k s t e p at to =
    ap (λ (l : List Instance). set l k t) e
    ∙ ap (λ (x : Instance). set is k x) (to ∙ ap f (at ∙ ap (λ (l : List Instance). get_or l k s) e))
    ∙ sym (on_instance_is n f is k s p)

-- an instance that is changed keeps its number and its target
pub record KeepsCast (f : Instance → Instance) : Type 0 where
  pub number : (i : Instance) → (f i).number ≡ i.number
  pub of : (i : Instance) → (f i).of ≡ i.of

same_here : (b : Bool) (s t : Instance) (o : Option Instance) → t.of ≡ s.of → option_map (λ i. i.of) (cond b (Some t) o) ≡ option_map (λ i. i.of) (cond b (Some s) o)
same_here true s t o h = ap Some h
same_here false s t o h = refl

same_behind : (b : Bool) (s : Instance) (o q : Option Instance) → option_map (λ i. i.of) o ≡ option_map (λ i. i.of) q → option_map (λ i. i.of) (cond b (Some s) o) ≡ option_map (λ i. i.of) (cond b (Some s) q)
same_behind true s o q h = refl
same_behind false s o q h = h

target-set : (m : ℕ) (is : List Instance) (k : ℕ) (t d : Instance) → t.number ≡ (get_or is k d).number → t.of ≡ (get_or is k d).of → target_of m (set is k t) ≡ target_of m is
target-set m [] zero t d e h = refl
target-set m [] (suc k) t d e h = refl
target-set m (s ∷ is) zero t d e h =
    ap (λ n. option_map (λ i. i.of) (cond (n == m) (Some t) (find (λ i. i.number == m) is))) e
    ∙ same_here (s.number == m) s t (find (λ i. i.number == m) is) h
target-set m (s ∷ is) (suc k) t d e h =
    same_behind (s.number == m) s (find (λ i. i.number == m) (set is k t)) (find (λ i. i.number == m) is) (target-set m is k t d e h)

some_target : (o q : Option Instance) → option_map (λ i. i.of) o ≡ option_map (λ i. i.of) q → IsSome q → IsSome o
some_target (Some s) (Some t) e h = refl
some_target (Some s) None e h = refl
some_target None (Some t) e h = absurd (cc e)
some_target None None e h = h

pub cast-set : (is : List Instance) (k : ℕ) (t d : Instance) → t.number ≡ (get_or is k d).number → t.of ≡ (get_or is k d).of → IsSameCast is (set is k t)
cast-set is k t d e h = record {
  order = map-set_same (λ (i : Instance). i.number) is k t d e;
  targets = λ n. target-set n is k t d e h;
  live = λ n l. some_target (live n (set is k t)) (live n is) (target-set n is k t d e h) l;
}

pub cast-on_instance : (n : ℕ) (f : Instance → Instance) (is : List Instance) (k : ℕ) (d : Instance) → position (λ i. i.number == n) is ≡ Some k → KeepsCast f → IsSameCast is (on_instance n f is)
cast-on_instance n f is k d p c =
    let P : List Instance → Type 0 = IsSameCast is in
    subst P (sym (on_instance_is n f is k d p)) (cast-set is k (f (get_or is k d)) d (c.number _) (c.of _))

-- the numbers stay where an instance is changed
pub order-set : (f : Instance → Instance) (is : List Instance) (k : ℕ) (s t : Instance) → KeepsCast f → s ≡ get_or is k s → t ≡ f s → numbers is ≡ numbers (set is k t)
order-set f is k s t c at to =
    sym (map-set_same (λ (i : Instance). i.number) is k t s (ap (λ (i : Instance). i.number) to ∙ c.number s ∙ ap (λ (i : Instance). i.number) at))

pub bubble_keeps : (b : Bubble) → KeepsCast (λ i. record i { bubble = b })
bubble_keeps b = record { number = λ i. refl; of = λ i. refl }

pub edges_keep : (es : List (ℕ × Bool)) → KeepsCast (λ i. record i { edges = es })
edges_keep es = record { number = λ i. refl; of = λ i. refl }

pub change_keeps : (c : Change) → KeepsCast (changed_by c)
change_keeps (Place x y) = record { number = λ i. refl; of = λ i. refl }
change_keeps (Direction d) = record { number = λ i. refl; of = λ i. refl }
change_keeps (Size n) = record { number = λ i. refl; of = λ i. refl }
change_keeps (Costume index costumes) = record { number = λ i. refl; of = λ i. refl }
change_keeps (Effect e n) = record { number = λ i. refl; of = λ i. refl }
change_keeps NoEffects = record { number = λ i. refl; of = λ i. refl }
change_keeps (Visible v) = record { number = λ i. refl; of = λ i. refl }
change_keeps (Style s) = record { number = λ i. refl; of = λ i. refl }

target_here : (b : Bool) (s t : Instance) (o q : Option Instance) → t.of ≡ s.of → option_map (λ i. i.of) o ≡ option_map (λ i. i.of) q → option_map (λ i. i.of) (cond b (Some t) o) ≡ option_map (λ i. i.of) (cond b (Some s) q)
target_here true s t o q h g = ap Some h
target_here false s t o q h g = g

target-map : (f : Instance → Instance) → KeepsCast f → (m : ℕ) (is : List Instance) → target_of m (map f is) ≡ target_of m is
target-map f c m [] = refl
target-map f c m (i ∷ is) =
    ap (λ n. option_map (λ j. j.of) (cond (n == m) (Some (f i)) (find (λ j. j.number == m) (map f is)))) (c.number i)
    ∙ target_here (i.number == m) i (f i) (find (λ j. j.number == m) (map f is)) (find (λ j. j.number == m) is) (c.of i) (target-map f c m is)

order-map : (f : Instance → Instance) → KeepsCast f → (is : List Instance) → numbers (map f is) ≡ numbers is
order-map f c [] = refl
order-map f c (i ∷ is) = ap₂ (λ (n : ℕ) (ns : List ℕ). n ∷ ns) (c.number i) (order-map f c is)

-- all instances are changed
pub cast-map : (f : Instance → Instance) → KeepsCast f → (is : List Instance) → IsSameCast is (map f is)
cast-map f c is = record {
  order = order-map f c is;
  targets = λ n. target-map f c n is;
  live = λ n l. some_target (live n (map f is)) (live n is) (target-map f c n is) l;
}

-- an instance is live where it has a place
pub live_by : (n : ℕ) (is : List Instance) (o : Option ℕ) → position (λ i. i.number == n) is ≡ o → (IsTrue (is_some o) → IsLive n is) × (IsLive n is → IsTrue (is_some o))
live_by n is (Some k) e =
    let P : Option Instance → Type 0 = IsSome in
    (λ t. subst P (sym (find_is (λ i. i.number == n) is k no_instance e)) refl, λ h. refl)
live_by n is None e = (λ t. absurd (cc t), λ h. absurd (live_is_placed n is h e))
