-- Which instances are live, through the changes that a run makes.
use Rattle.std.proofs.Common.{map, ◌≡◌, ℕ, ◌==◌, Bool, true, false, List, [], ◌∷◌, ◌++◌, take, drop, Option, Some, None, inl, inr, ◌⊎◌, refl, sym, ap, ◌∙◌, subst, zero, suc}
use Rattle.std.specs.Prelude.{slice_get, slice_set, insert, remove, find, position, unwrap_or, cond}
use Rattle.std.specs.List.{position_or_len}
use Rattle.std.proofs.lemmas.List.Folds.{find_at}
use Rattle.machine_spec.specs.declared.instance.Instance.{Instance}
use Rattle.machine_spec.specs.Lists.{set_some, changed_at_some}
use Rattle.machine_spec.specs.Stores.{no_instance, live, instance_at, on_instance, Devices}
use Rattle.machine_spec.specs.Looks.{layer, at_layer}
use Rattle.laws_of_threads.specs.Instances.{Hosts}
use Rattle.laws_of_threads.specs.Promises.{IsLive, AskersLive, SpeakersLive}
use Rattle.laws_of_threads.specs.Lists.{Member, Differ}
use Rattle.laws_of_threads.proofs.Numbers.{each_map, removed_differ, removed_out, insert_differ, equal, equal_true}

-- the same instances are live
pub record Faces (is js : List Instance) : Type 0 where
  pub on : (n k : ℕ) → Hosts n k is → Hosts n k js
  pub back : (n k : ℕ) → Hosts n k js → Hosts n k is
  pub differ : Differ (map (λ i. i.number) is) → Differ (map (λ i. i.number) js)

pub faces_same : (is : List Instance) → Faces is is
faces_same is = record { on = λ n k h. h; back = λ n k h. h; differ = λ d. d }

pub faces_then : (is js ks : List Instance) → Faces is js → Faces js ks → Faces is ks
faces_then is js ks a b = record { on = λ n k h. b.on n k (a.on n k h); back = λ n k h. a.back n k (b.back n k h); differ = λ d. b.differ (a.differ d) }

-- an instance of the same number and target
pub record Alike (x y : Instance) : Type 0 where
  pub number : y.number ≡ x.number
  pub of : y.of ≡ x.of

same_some : {A : Type 0} (a b : A) → Some a ≡ Some b → a ≡ b
same_some a b h = cc

set_on : (is : List Instance) (k : ℕ) (x y : Instance) → slice_get is k ≡ Some x → Alike x y → (n j : ℕ) → Hosts n j is → Hosts n j (slice_set is k y)
set_on [] k x y e a n j h = h
set_on (i ∷ is) zero x y e a n j (inl h) = let s = same_some i x e in inl (a.number ∙ sym (ap (λ z. z.number) s) ∙ h.0, a.of ∙ sym (ap (λ z. z.of) s) ∙ h.1)
set_on (i ∷ is) zero x y e a n j (inr h) = inr h
set_on (i ∷ is) (suc k) x y e a n j (inl h) = inl h
set_on (i ∷ is) (suc k) x y e a n j (inr h) = inr (set_on is k x y e a n j h)

set_back : (is : List Instance) (k : ℕ) (x y : Instance) → slice_get is k ≡ Some x → Alike x y → (n j : ℕ) → Hosts n j (slice_set is k y) → Hosts n j is
set_back [] k x y e a n j h = h
set_back (i ∷ is) zero x y e a n j (inl h) = let s = same_some i x e in inl (ap (λ z. z.number) s ∙ sym a.number ∙ h.0, ap (λ z. z.of) s ∙ sym a.of ∙ h.1)
set_back (i ∷ is) zero x y e a n j (inr h) = inr h
set_back (i ∷ is) (suc k) x y e a n j (inl h) = inl h
set_back (i ∷ is) (suc k) x y e a n j (inr h) = inr (set_back is k x y e a n j h)

set_numbers : (is : List Instance) (k : ℕ) (x y : Instance) → slice_get is k ≡ Some x → y.number ≡ x.number → map (λ i. i.number) (slice_set is k y) ≡ map (λ i. i.number) is
set_numbers [] k x y e a = refl
set_numbers (i ∷ is) zero x y e a = ap (λ n. n ∷ map (λ i. i.number) is) (a ∙ ap (λ z. z.number) (sym (same_some i x e)))
set_numbers (i ∷ is) (suc k) x y e a = ap (λ l. i.number ∷ l) (set_numbers is k x y e a)

-- what is live is of one target
pub hosts_member : (n k : ℕ) (is : List Instance) → Hosts n k is → Member n (map (λ i. i.number) is)
hosts_member n k [] h = absurd h
hosts_member n k (i ∷ is) (inl h) = inl h.0
hosts_member n k (i ∷ is) (inr h) = inr (hosts_member n k is h)

pub hosts_one : (n k j : ℕ) (is : List Instance) → Differ (map (λ i. i.number) is) → Hosts n k is → Hosts n j is → k ≡ j
hosts_one n k j [] d a b = absurd a
hosts_one n k j (i ∷ is) d (inl a) (inl b) = sym a.1 ∙ b.1
hosts_one n k j (i ∷ is) d (inl a) (inr b) = absurd (d.0 (subst (λ m. Member m (map (λ x. x.number) is)) (sym a.0) (hosts_member n j is b)))
hosts_one n k j (i ∷ is) d (inr a) (inl b) = absurd (d.0 (subst (λ m. Member m (map (λ x. x.number) is)) (sym b.0) (hosts_member n k is a)))
hosts_one n k j (i ∷ is) d (inr a) (inr b) = hosts_one n k j is d.1 a b

module _ (f : Instance → Instance) (alike : (x : Instance) → Alike x (f x)) where
  some_faces : (is : List Instance) (k : ℕ) (o : Option Instance) → slice_get is k ≡ o → Faces is (set_some o f k is)
  some_faces is k None e = faces_same is
  some_faces is k (Some x) e = record { on = set_on is k x (f x) e (alike x); back = set_back is k x (f x) e (alike x); differ = λ d. subst Differ (sym (set_numbers is k x (f x) e (alike x).number)) d }

  place_faces : (is : List Instance) (o : Option ℕ) → Faces is (changed_at_some f o is)
  place_faces is None = faces_same is
  place_faces is (Some k) = some_faces is k (slice_get is k) refl

  pub changed_faces : (n : ℕ) (is : List Instance) → Faces is (on_instance n f is)
  changed_faces n is = place_faces is (position (λ i. i.number == n) is)

-- Lists put together

pub hosts_left : (n k : ℕ) (xs ys : List Instance) → Hosts n k xs → Hosts n k (xs ++ ys)
hosts_left n k [] ys h = absurd h
hosts_left n k (x ∷ xs) ys (inl h) = inl h
hosts_left n k (x ∷ xs) ys (inr h) = inr (hosts_left n k xs ys h)

pub hosts_right : (n k : ℕ) (xs ys : List Instance) → Hosts n k ys → Hosts n k (xs ++ ys)
hosts_right n k [] ys h = h
hosts_right n k (x ∷ xs) ys h = inr (hosts_right n k xs ys h)

pub hosts_split : (n k : ℕ) (xs ys : List Instance) → Hosts n k (xs ++ ys) → Hosts n k xs ⊎ Hosts n k ys
hosts_split n k [] ys h = inr h
hosts_split n k (x ∷ xs) ys (inl h) = inl (inl h)
hosts_split n k (x ∷ xs) ys (inr h) = elim (hosts_split n k xs ys h) [ inl a ↦ inl (inr a) | inr b ↦ inr b ]

hosts_take : (n k : ℕ) (is : List Instance) (m : ℕ) → Hosts n k (take m is) → Hosts n k is
hosts_take n k [] zero h = h
hosts_take n k [] (suc m) h = h
hosts_take n k (i ∷ is) zero h = absurd h
hosts_take n k (i ∷ is) (suc m) (inl h) = inl h
hosts_take n k (i ∷ is) (suc m) (inr h) = inr (hosts_take n k is m h)

hosts_drop : (n k : ℕ) (is : List Instance) (m : ℕ) → Hosts n k (drop m is) → Hosts n k is
hosts_drop n k is zero h = h
hosts_drop n k [] (suc m) h = h
hosts_drop n k (i ∷ is) (suc m) h = inr (hosts_drop n k is m h)

hosts_cut : (n k : ℕ) (is : List Instance) (m : ℕ) → Hosts n k is → Hosts n k (take m is) ⊎ Hosts n k (drop m is)
hosts_cut n k is zero h = inr h
hosts_cut n k [] (suc m) h = inl h
hosts_cut n k (i ∷ is) (suc m) (inl h) = inl (inl h)
hosts_cut n k (i ∷ is) (suc m) (inr h) = elim (hosts_cut n k is m h) [ inl a ↦ inl (inr a) | inr b ↦ inr b ]

abbrev pub IsIt : ℕ → ℕ → Instance → Type 0
IsIt n k x = (x.number ≡ n) × (x.of ≡ k)

insert_on : (n k : ℕ) (is : List Instance) (m : ℕ) (x : Instance) → IsIt n k x ⊎ Hosts n k is → Hosts n k (insert is m x)
insert_on n k is m x (inl h) = hosts_right n k (take m is) (x ∷ drop m is) (inl h)
insert_on n k is m x (inr h) = elim (hosts_cut n k is m h) [
  | inl a ↦ hosts_left n k (take m is) (x ∷ drop m is) a
  | inr b ↦ hosts_right n k (take m is) (x ∷ drop m is) (inr b)
]

insert_back : (n k : ℕ) (is : List Instance) (m : ℕ) (x : Instance) → Hosts n k (insert is m x) → IsIt n k x ⊎ Hosts n k is
insert_back n k is m x h = elim (hosts_split n k (take m is) (x ∷ drop m is) h) [
  | inl a ↦ inr (hosts_take n k is m a)
  | inr b ↦ elim b [ inl e ↦ inl e | inr d ↦ inr (hosts_drop n k is m d) ]
]

pub remove_back : (n k : ℕ) (is : List Instance) (m : ℕ) → Hosts n k (remove is m) → Hosts n k is
remove_back n k is m h = elim (hosts_split n k (take m is) (drop (suc m) is) h) [
  | inl a ↦ hosts_take n k is m a
  | inr b ↦ hosts_drop n k is (suc m) b
]

pub remove_on : (n k : ℕ) (is : List Instance) (m : ℕ) (x : Instance) → slice_get is m ≡ Some x → Hosts n k is → IsIt n k x ⊎ Hosts n k (remove is m)
remove_on n k [] m x e h = absurd h
remove_on n k (i ∷ is) zero x e (inl h) = let s = same_some i x e in inl (sym (ap (λ z. z.number) s) ∙ h.0, sym (ap (λ z. z.of) s) ∙ h.1)
remove_on n k (i ∷ is) zero x e (inr h) = inr h
remove_on n k (i ∷ is) (suc m) x e (inl h) = inr (inl h)
remove_on n k (i ∷ is) (suc m) x e (inr h) = elim (remove_on n k is m x e h) [ inl a ↦ inl a | inr b ↦ inr (inr b) ]

-- what is taken out at one place, of another number
pub remove_other : (n k : ℕ) (is : List Instance) (m : ℕ) (x : Instance) → slice_get is m ≡ Some x → (x.number ≡ n → ⊥) → Hosts n k is → Hosts n k (remove is m)
remove_other n k is m x e none h = elim (remove_on n k is m x e h) [ inl a ↦ absurd (none a.0) | inr b ↦ b ]

get_hosts : (is : List Instance) (m : ℕ) (x : Instance) (n k : ℕ) → slice_get is m ≡ Some x → IsIt n k x → Hosts n k is
get_hosts [] m x n k e it = absurd (cc e)
get_hosts (i ∷ is) zero x n k e it = let s = same_some i x e in inl (ap (λ z. z.number) s ∙ it.0, ap (λ z. z.of) s ∙ it.1)
get_hosts (i ∷ is) (suc m) x n k e it = inr (get_hosts is m x n k e it)

-- an instance put at another place
pub shift_faces : (is : List Instance) (m place : ℕ) (x : Instance) → slice_get is m ≡ Some x → Faces is (insert (remove is m) place x)
shift_faces is m place x e = record {
  on = λ n k h. insert_on n k (remove is m) place x (remove_on n k is m x e h);
  back = λ n k h. elim (insert_back n k (remove is m) place x h) [ inl a ↦ get_hosts is m x n k e a | inr b ↦ remove_back n k is m b ];
  differ = λ d. insert_differ (λ i. i.number) (remove is m) place x (removed_out (λ i. i.number) is m x e d) (removed_differ (λ i. i.number) is m d);
}

-- The instance of a number

pub record Found (n : ℕ) (is : List Instance) (o : Option Instance) : Type 0 where
  pub x : Instance
  pub is_it : o ≡ Some x
  pub number : x.number ≡ n
  pub hosts : Hosts n x.of is

found_by : (n k : ℕ) (i : Instance) (is : List Instance) (c : Bool) → (i.number == n) ≡ c → (Hosts n k is → Found n is (find (λ i. i.number == n) is))
    → Hosts n k (i ∷ is) → Found n (i ∷ is) (cond c (Some i) (find (λ i. i.number == n) is))
found_by n k i is true e f h = record { x = i; is_it = refl; number = equal i.number n e; hosts = inl (equal i.number n e, refl) }
found_by n k i is false e f (inl h) = absurd (let t = equal_true i.number n h.0 in cc)
found_by n k i is false e f (inr h) = let r = f h in record { x = r.x; is_it = r.is_it; number = r.number; hosts = inr r.hosts }

pub found : (n k : ℕ) (is : List Instance) → Hosts n k is → Found n is (live n is)
found n k [] h = absurd h
found n k (i ∷ is) h = found_by n k i is (i.number == n) refl (found n k is) h

pub layer_faces : (n k place : ℕ) (is : List Instance) → Hosts n k is → Faces is (at_layer n place is)
layer_faces n k place is h =
    let r = found n k is h in
    let e : slice_get is (position_or_len (λ i. i.number == n) is) ≡ Some r.x = sym (find_at (λ i. i.number == n) is) ∙ r.is_it in
    let u : instance_at n is ≡ r.x = ap (λ o. unwrap_or o no_instance) r.is_it in
    subst (λ y. Faces is (insert (remove is (layer n is)) place y)) (sym u) (shift_faces is (layer n is) place r.x e)

-- what is live stays so

pub number_hosts : (n : ℕ) (is : List Instance) → IsLive is n → (k : ℕ) × Hosts n k is
number_hosts n [] h = absurd h
number_hosts n (i ∷ is) (inl e) = (i.of, inl (e, refl))
number_hosts n (i ∷ is) (inr h) = let g = number_hosts n is h in (g.0, inr g.1)

pub live_on : (is js : List Instance) (n : ℕ) → Faces is js → IsLive is n → IsLive js n
live_on is js n f h = let g = number_hosts n is h in hosts_member n g.0 js (f.on n g.0 g.1)

pub askers_on : (is js : List Instance) (d : Devices) → Faces is js → AskersLive is d → AskersLive js d
askers_on is js d f h = each_map (λ q. IsLive is q.of) (λ q. IsLive js q.of) d.questions (λ q k. live_on is js q.of f k) h

pub speakers_on : (is js : List Instance) (d : Devices) → Faces is js → SpeakersLive is d → SpeakersLive js d
speakers_on is js d f h = each_map (λ q. IsLive is q.of) (λ q. IsLive js q.of) d.timers (λ q k. live_on is js q.of f k) h
