-- Instances that are gone, and a clone that is put behind its original.
use Rattle.std.proofs.Common.{◌≡◌, ℕ, zero, suc, ◌+◌, ◌==◌, Bool, true, false, not, if◌then◌else◌, List, [], ◌∷◌, ◌++◌, map, filter, length, Option, Some, None, inl, inr, ◌⊎◌, refl, sym, ap, ◌∙◌, subst, arith, cond, get_or}
use Rattle.std.specs.Prelude.{◌<◌, nat_lt, slice_get, find, position, unwrap_or}
use Rattle.std.specs.List.{position_or_len}
use Rattle.std.proofs.lemmas.List.Folds.{find_at}
use Rattle.std.proofs.lemmas.List.Quantifiers.{position-Some}
use Rattle.std.proofs.lemmas.Bool.Decides.{Decides-ltb}
use Rattle.machine_spec.specs.declared.instance.Instance.{Instance}
use Rattle.machine_spec.specs.Lists.{removed_at, first_removed}
use Rattle.machine_spec.specs.Program.{Records}
use Rattle.machine_spec.specs.Stores.{no_instance, instance_at}
use Rattle.machine_spec.specs.Stopping.{is_clone, cleared, copied, inserted_behind, placed_behind}
use Rattle.laws_of_threads.specs.Lists.{Member, Differ}
use Rattle.laws_of_threads.specs.Instances.{Hosts, Inhabited}
use Rattle.laws_of_threads.proofs.Numbers.{clash, differ_filter, differ_last, removed_differ, removed_out, equal, equal_true}
use Rattle.laws_of_threads.proofs.Faces.{Faces, IsIt, hosts_left, hosts_right, hosts_split, remove_back, remove_on, remove_other, found}

-- The first of a number taken out

get_at : (is : List Instance) (k : ℕ) (d : Instance) → k < length is → slice_get is k ≡ Some (get_or is k d)
get_at [] k d h = absurd (omega (arith, h))
get_at (i ∷ is) zero d h = refl
get_at (i ∷ is) (suc k) d h = get_at is k d (omega (arith, h))

pub record Place (n : ℕ) (is : List Instance) (k : ℕ) : Type 0 where
  pub x : Instance
  pub at : slice_get is k ≡ Some x
  pub number : x.number ≡ n

place_of : (n : ℕ) (is : List Instance) (k : ℕ) → position (λ i. i.number == n) is ≡ Some k → Place n is k
place_of n is k e =
    let s = position-Some (λ i. i.number == n) is k no_instance e in
    record { x = get_or is k no_instance; at = get_at is k no_instance s.0; number = equal (get_or is k no_instance).number n s.1 }

removed_back_by : (n : ℕ) (is : List Instance) (o : Option ℕ) (m k : ℕ) → Hosts m k (removed_at o is) → Hosts m k is
removed_back_by n is None m k h = h
removed_back_by n is (Some j) m k h = remove_back m k is j h

pub removed_back : (n : ℕ) (is : List Instance) (m k : ℕ) → Hosts m k (first_removed (λ i. i.number == n) is) → Hosts m k is
removed_back n is m k h = removed_back_by n is (position (λ i. i.number == n) is) m k h

removed_on_by : (n : ℕ) (is : List Instance) (o : Option ℕ) (m k : ℕ) → position (λ i. i.number == n) is ≡ o → (m ≡ n → ⊥) → Hosts m k is → Hosts m k (removed_at o is)
removed_on_by n is None m k e ne h = h
removed_on_by n is (Some j) m k e ne h = let q = place_of n is j e in remove_other m k is j q.x q.at (λ f. ne (sym f ∙ q.number)) h

pub removed_on : (n : ℕ) (is : List Instance) (m k : ℕ) → (m ≡ n → ⊥) → Hosts m k is → Hosts m k (first_removed (λ i. i.number == n) is)
removed_on n is m k ne h = removed_on_by n is (position (λ i. i.number == n) is) m k refl ne h

-- Clones are not originals

below_by : (n l : ℕ) (b : Bool) → nat_lt n l ≡ b → not b ≡ true → n < l → ⊥
below_by n l true e f h = cc f
below_by n l false e f h = let t = (Decides-ltb n l).1 h in cc

pub clone_not : (records : Records) (n : ℕ) → is_clone records n ≡ true → n < length records.targets → ⊥
clone_not records n e h = below_by n (length records.targets) (nat_lt n (length records.targets)) refl e h

original_by : (n l : ℕ) (b : Bool) → nat_lt n l ≡ b → n < l → b ≡ true
original_by n l true e h = refl
original_by n l false e h = let t = (Decides-ltb n l).1 h in cc

pub original_not : (records : Records) (n : ℕ) → n < length records.targets → is_clone records n ≡ false
original_not records n h = ap not (original_by n (length records.targets) (nat_lt n (length records.targets)) refl h)

removed_numbers : (n : ℕ) (is : List Instance) (o : Option ℕ) → Differ (map (λ i. i.number) is) → Differ (map (λ i. i.number) (removed_at o is))
removed_numbers n is None d = d
removed_numbers n is (Some j) d = removed_differ (λ i. i.number) is j d

cleared_numbers : (is : List Instance) → map (λ i. i.number) (map cleared is) ≡ map (λ i. i.number) is
cleared_numbers [] = refl
cleared_numbers (i ∷ is) = ap (λ l. i.number ∷ l) (cleared_numbers is)

number_hosts : (n : ℕ) (is : List Instance) → Member n (map (λ i. i.number) is) → (k : ℕ) × Hosts n k is
number_hosts n [] h = absurd h
number_hosts n (i ∷ is) (inl e) = (i.of, inl (e, refl))
number_hosts n (i ∷ is) (inr h) = let g = number_hosts n is h in (g.0, inr g.1)

last_numbers : (is : List Instance) (x : Instance) → map (λ i. i.number) (is ++ x ∷ []) ≡ map (λ i. i.number) is ++ x.number ∷ []
last_numbers [] x = refl
last_numbers (i ∷ is) x = ap (λ l. i.number ∷ l) (last_numbers is x)

pub disposed_inhabited : (records : Records) (next n : ℕ) (is : List Instance) → is_clone records n ≡ true → Inhabited records next is → Inhabited records next (first_removed (λ i. i.number == n) is)
disposed_inhabited records next n is clone h = record {
  differ = removed_numbers n is (position (λ i. i.number == n) is) h.differ;
  given = λ m k a. h.given m k (removed_back n is m k a);
  originals = λ m below. removed_on n is m m (λ e. clone_not records n clone (subst (λ z. z < length records.targets) e below)) (h.originals m below);
}

-- All clones are gone

kept_back_by : (c : Bool) (i : Instance) (js : List Instance) (m k : ℕ) (is : List Instance) → (Hosts m k (map cleared js) → Hosts m k is) → Hosts m k (map cleared (cond c (i ∷ js) js)) → Hosts m k (i ∷ is)
kept_back_by true i js m k is f (inl h) = inl h
kept_back_by true i js m k is f (inr h) = inr (f h)
kept_back_by false i js m k is f h = inr (f h)

kept_back : (test : Instance → Bool) (m k : ℕ) (is : List Instance) → Hosts m k (map cleared (filter test is)) → Hosts m k is
kept_back test m k [] h = h
kept_back test m k (i ∷ is) h = kept_back_by (test i) i (filter test is) m k is (kept_back test m k is) h

kept_on_by : (c : Bool) (i : Instance) (js : List Instance) (m k : ℕ) → Hosts m k (map cleared js) → Hosts m k (map cleared (cond c (i ∷ js) js))
kept_on_by true i js m k h = inr h
kept_on_by false i js m k h = h

kept_it : (c : Bool) (i : Instance) (js : List Instance) (m k : ℕ) → c ≡ true → IsIt m k i → Hosts m k (map cleared (cond c (i ∷ js) js))
kept_it true i js m k e h = inl h
kept_it false i js m k e h = absurd (cc e)

kept_on : (records : Records) (m k : ℕ) (is : List Instance) → m < length records.targets → Hosts m k is → Hosts m k (map cleared (filter (λ i. not (is_clone records i.number)) is))
kept_on records m k [] below h = h
kept_on records m k (i ∷ is) below (inl h) =
    kept_it (not (is_clone records i.number)) i (filter (λ i. not (is_clone records i.number)) is) m k (ap not (original_not records i.number (subst (λ z. z < length records.targets) (sym h.0) below))) h
kept_on records m k (i ∷ is) below (inr h) = kept_on_by (not (is_clone records i.number)) i (filter (λ i. not (is_clone records i.number)) is) m k (kept_on records m k is below h)

pub stopped_inhabited : (records : Records) (next : ℕ) (is : List Instance) → Inhabited records next is → Inhabited records next (map cleared (filter (λ i. not (is_clone records i.number)) is))
stopped_inhabited records next is h =
    let test : Instance → Bool = λ i. not (is_clone records i.number) in
    record {
      differ = subst Differ (sym (cleared_numbers (filter test is))) (differ_filter (λ i. i.number) test is h.differ);
      given = λ m k a. h.given m k (kept_back test m k is a);
      originals = λ m below. kept_on records m m is below (h.originals m below);
    }

pub faces_inhabited : (records : Records) (next : ℕ) (is js : List Instance) → Faces is js → Inhabited records next is → Inhabited records next js
faces_inhabited records next is js f h = record {
  differ = f.differ h.differ;
  given = λ n k a. h.given n k (f.back n k a);
  originals = λ n below. f.on n n (h.originals n below);
}

-- A clone

module _ (clone : Instance) (n : ℕ) where
  behind_on_by : (c : Bool) (i : Instance) (is : List Instance) (m k : ℕ) → (Hosts m k is → Hosts m k (inserted_behind clone n is)) → Hosts m k (i ∷ is)
      → Hosts m k (if c then clone ∷ i ∷ is else i ∷ inserted_behind clone n is)
  behind_on_by true i is m k f h = inr h
  behind_on_by false i is m k f (inl h) = inl h
  behind_on_by false i is m k f (inr h) = inr (f h)

  behind_on : (is : List Instance) (m k : ℕ) → Hosts m k is → Hosts m k (inserted_behind clone n is)
  behind_on [] m k h = h
  behind_on (i ∷ is) m k h = behind_on_by (i.number == n) i is m k (behind_on is m k) h

  behind_back_by : (c : Bool) (i : Instance) (is : List Instance) (m k : ℕ) → (Hosts m k (inserted_behind clone n is) → IsIt m k clone ⊎ Hosts m k is)
      → Hosts m k (if c then clone ∷ i ∷ is else i ∷ inserted_behind clone n is) → IsIt m k clone ⊎ Hosts m k (i ∷ is)
  behind_back_by true i is m k f (inl h) = inl h
  behind_back_by true i is m k f (inr h) = inr h
  behind_back_by false i is m k f (inl h) = inr (inl h)
  behind_back_by false i is m k f (inr h) = elim (f h) [ inl a ↦ inl a | inr b ↦ inr (inr b) ]

  behind_back : (is : List Instance) (m k : ℕ) → Hosts m k (inserted_behind clone n is) → IsIt m k clone ⊎ Hosts m k is
  behind_back [] m k h = inr h
  behind_back (i ∷ is) m k h = behind_back_by (i.number == n) i is m k (behind_back is m k) h

  behind_it_by : (c : Bool) (i : Instance) (is : List Instance) (j : ℕ) → (i.number == n) ≡ c → (Hosts n j is → Hosts clone.number clone.of (inserted_behind clone n is)) → Hosts n j (i ∷ is)
      → Hosts clone.number clone.of (if c then clone ∷ i ∷ is else i ∷ inserted_behind clone n is)
  behind_it_by true i is j e f h = inl (refl, refl)
  behind_it_by false i is j e f (inl h) = absurd (let t = equal_true i.number n h.0 in cc)
  behind_it_by false i is j e f (inr h) = inr (f h)

  behind_it : (is : List Instance) (j : ℕ) → Hosts n j is → Hosts clone.number clone.of (inserted_behind clone n is)
  behind_it [] j h = absurd h
  behind_it (i ∷ is) j h = behind_it_by (i.number == n) i is j refl (behind_it is j) h

position_by : (c : Bool) (a j : ℕ) → cond c (Some a) None ≡ Some j → a ≡ j
position_by true a j e = cc
position_by false a j e = absurd (cc e)

position_find : (test : Instance → Bool) (is : List Instance) (j : ℕ) → position test is ≡ Some j → slice_get is j ≡ find test is
position_find test is j e = sym (find_at test is ∙ ap (slice_get is) (position_by (nat_lt (position_or_len test is) (length is)) (position_or_len test is) j e))

none_by : (c : Bool) (a : ℕ) → cond c (Some a) None ≡ None → c ≡ false
none_by true a e = absurd (cc e)
none_by false a e = refl

get_below : (is : List Instance) (k : ℕ) (x : Instance) → slice_get is k ≡ Some x → k < length is
get_below [] k x e = absurd (cc e)
get_below (i ∷ is) zero x e = omega arith
get_below (i ∷ is) (suc k) x e = let b = get_below is k x e in omega (arith, b)

found_none : (test : Instance → Bool) (is : List Instance) (x : Instance) → position test is ≡ None → find test is ≡ Some x → ⊥
found_none test is x e f =
    let c = none_by (nat_lt (position_or_len test is) (length is)) (position_or_len test is) e in
    let b = get_below is (position_or_len test is) x (sym (find_at test is) ∙ f) in
    let t = (Decides-ltb (position_or_len test is) (length is)).1 b in
    clash (nat_lt (position_or_len test is) (length is)) t c

-- numbers still differ with the clone behind
module _ (clone : Instance) (n : ℕ) where
  behind_member_by : (c : Bool) (i : Instance) (is : List Instance) (m : ℕ) → (Member m (map (λ x. x.number) (inserted_behind clone n is)) → (clone.number ≡ m) ⊎ Member m (map (λ x. x.number) is))
      → Member m (map (λ x. x.number) (if c then clone ∷ i ∷ is else i ∷ inserted_behind clone n is)) → (clone.number ≡ m) ⊎ Member m (map (λ x. x.number) (i ∷ is))
  behind_member_by true i is m f h = h
  behind_member_by false i is m f (inl e) = inr (inl e)
  behind_member_by false i is m f (inr h) = elim (f h) [ inl a ↦ inl a | inr b ↦ inr (inr b) ]

  behind_member : (is : List Instance) (m : ℕ) → Member m (map (λ x. x.number) (inserted_behind clone n is)) → (clone.number ≡ m) ⊎ Member m (map (λ x. x.number) is)
  behind_member [] m h = inr h
  behind_member (i ∷ is) m h = behind_member_by (i.number == n) i is m (behind_member is m) h

  behind_differ_by : (c : Bool) (i : Instance) (is : List Instance) → (Member clone.number (map (λ x. x.number) (i ∷ is)) → ⊥) → Differ (map (λ x. x.number) (i ∷ is)) → Differ (map (λ x. x.number) (inserted_behind clone n is))
      → Differ (map (λ x. x.number) (if c then clone ∷ i ∷ is else i ∷ inserted_behind clone n is))
  behind_differ_by true i is none d g = (none, d)
  behind_differ_by false i is none d g = ((λ h. elim (behind_member is i.number h) [ inl e ↦ none (inl (sym e)) | inr m ↦ d.0 m ]), g)

  behind_differ : (is : List Instance) → (Member clone.number (map (λ x. x.number) is) → ⊥) → Differ (map (λ x. x.number) is) → Differ (map (λ x. x.number) (inserted_behind clone n is))
  behind_differ [] none d = tt
  behind_differ (i ∷ is) none d = behind_differ_by (i.number == n) i is none d (behind_differ is (λ h. none (inr h)) d.1)

-- the first of a number is out
out_by : (n : ℕ) (is : List Instance) (o : Option ℕ) (x : Instance) → position (λ i. i.number == n) is ≡ o → find (λ i. i.number == n) is ≡ Some x → x.number ≡ n → Differ (map (λ i. i.number) is)
    → Member x.number (map (λ i. i.number) (removed_at o is)) → ⊥
out_by n is None x e f same d h = found_none (λ i. i.number == n) is x e f
out_by n is (Some j) x e f same d h = removed_out (λ i. i.number) is j x (position_find (λ i. i.number == n) is j e ∙ f) d h

-- the first of a number taken out, or its number and target
removed_split_by : (n : ℕ) (is : List Instance) (o : Option ℕ) (x : Instance) (m k : ℕ) → ((j : ℕ) → o ≡ Some j → slice_get is j ≡ Some x) → Hosts m k is → IsIt m k x ⊎ Hosts m k (removed_at o is)
removed_split_by n is None x m k f h = inr h
removed_split_by n is (Some j) x m k f h = remove_on m k is j x (f j refl) h

pub placed_faces : (clone original c k : ℕ) (is : List Instance) → (original ≡ clone → ⊥) → Hosts clone c is → Hosts original k is → Faces is (placed_behind clone original is)
placed_faces clone original c k is ne h g =
    let f = found clone c is h in
    let u : instance_at clone is ≡ f.x = ap (λ o. unwrap_or o no_instance) f.is_it in
    let rest = first_removed (λ i. i.number == clone) is in
    let there = removed_on clone is original k ne g in
    subst (λ z. Faces is (inserted_behind z original rest)) (sym u) (record {
      on = λ m j a. elim (removed_split_by clone is (position (λ i. i.number == clone) is) f.x m j (λ q e. position_find (λ i. i.number == clone) is q e ∙ f.is_it) a) [
        | inl e ↦ subst (λ z. Hosts z j (inserted_behind f.x original rest)) e.0 (subst (λ z. Hosts f.x.number z (inserted_behind f.x original rest)) e.1 (behind_it f.x original rest k there))
        | inr b ↦ behind_on f.x original rest m j b
      ];
      back = λ m j a. elim (behind_back f.x original rest m j a) [
        | inl e ↦ subst (λ z. Hosts z j is) (sym f.number ∙ e.0) (subst (λ z. Hosts clone z is) e.1 f.hosts)
        | inr b ↦ removed_back clone is m j b
      ];
      differ = λ d. behind_differ f.x original rest (out_by clone is (position (λ i. i.number == clone) is) f.x refl f.is_it f.number d) (removed_numbers clone is (position (λ i. i.number == clone) is) d);
    })

-- the copy of an instance under the next number
module _ (records : Records) (next : ℕ) (is : List Instance) (i : Instance) (h : Inhabited records next is) where
  abbrev added : List Instance
  added = is ++ copied next i ∷ []

  given_by : (n k : ℕ) → Hosts n k is ⊎ Hosts n k (copied next i ∷ []) → n < next + 1
  given_by n k (inl a) = let g = h.given n k a in omega (arith, g)
  given_by n k (inr (inl a)) = let e : next ≡ n = a.0 in omega (arith, e)
  given_by n k (inr (inr a)) = absurd a

  pub added_inhabited : Inhabited records (next + 1) added
  added_inhabited = record {
    differ = subst Differ (sym (last_numbers is (copied next i))) (differ_last (map (λ x. x.number) is) next h.differ (λ m. let g = number_hosts next is m in let b = h.given next g.0 g.1 in omega (arith, b)));
    given = λ n k a. given_by n k (hosts_split n k is (copied next i ∷ []) a);
    originals = λ n below. hosts_left n n is (copied next i ∷ []) (h.originals n below);
  }

  pub added_it : Hosts next i.of added
  added_it = hosts_right next i.of is (copied next i ∷ []) (inl (refl, refl))
