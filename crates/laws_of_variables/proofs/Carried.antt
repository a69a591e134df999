-- Variables that stay legal where other instances stand for the same numbers, and where some are gone or one more is there.
use Rattle.std.proofs.Common.{◌≡◌, ℕ, ◌==◌, Bool, true, false, not, cond, List, [], ◌∷◌, ◌++◌, map, filter, length, Option, Some, inl, inr, ◌⊎◌, refl, sym, ap, ◌∙◌, subst, arith}
use Rattle.std.specs.Prelude.{◌<◌, ◌≤◌, find, unwrap_or}
use Rattle.machine_spec.specs.declared.instance.Instance.{Instance}
use Rattle.machine_spec.specs.declared.variables.Store.{Store}
use Rattle.machine_spec.specs.DataRows.{most_items}
use Rattle.machine_spec.specs.Lists.{first_removed}
use Rattle.machine_spec.specs.Program.{Program, Records, record_at}
use Rattle.machine_spec.specs.Stores.{Variables, no_instance, instance_at, store_at}
use Rattle.machine_spec.specs.Stopping.{copied, placed_behind}
use Rattle.laws_of_threads.specs.Instances.{Hosts, Inhabited}
use Rattle.laws_of_threads.specs.Lists.{Each, Member, Differ, Rise}
use Rattle.laws_of_threads.proofs.Calm.{map_last}
use Rattle.laws_of_threads.proofs.Disposing.{added_it, placed_faces}
use Rattle.laws_of_threads.proofs.Faces.{Faces, Alike, hosts_member, hosts_one, hosts_left, hosts_split, found, number_hosts, live_on}
use Rattle.laws_of_threads.proofs.Numbers.{each_filter, each_append, member_last}
use Rattle.laws_of_variables.specs.Variables.{IsStoreOf, IsLegalStores}
use Rattle.laws_of_variables.proofs.Numbered.{rise_differ, rise_last, rise_kept, kept_member, member_kept, find_kept, removed_only, find_front, find_last, member_left, member_right}

-- The store of a target

pub record Sized (records : Records) (k : ℕ) (s : Store) : Type 0 where
  pub values : length s.values ≡ length (record_at k records).variables
  pub lists : length s.lists ≡ length (record_at k records).lists

abbrev pub Short : Store → Type 0
Short s = Each (λ items. length items ≤ most_items) s.lists

abbrev pub empty_store : ℕ → Store
empty_store n = record { of = n; values = []; lists = [] }

short_by : (c : Bool) (n : ℕ) (x : Store) (o : Option Store) → Short x → Short (unwrap_or o (empty_store n)) → Short (unwrap_or (cond c (Some x) o) (empty_store n))
short_by true n x o h g = h
short_by false n x o h g = g

pub short_at : (n : ℕ) (xs : List Store) → Each Short xs → Short (store_at n xs)
short_at n [] h = tt
short_at n (x ∷ xs) h = short_by (x.of == n) n x (find (λ s. s.of == n) xs) h.0 (short_at n xs h.1)

-- an instance of a number is of one target
pub instance_is : (n k : ℕ) (is : List Instance) → Differ (map (λ i. i.number) is) → Hosts n k is → (instance_at n is).of ≡ k
instance_is n k is d h =
    let f = found n k is h in
    ap (λ o. (unwrap_or o no_instance).of) f.is_it ∙ hosts_one n f.x.of k is d f.hosts h

module _ (records : Records) (xs : List Store) where
  -- each live instance has its store
  pub each_hosted : (n k : ℕ) (is : List Instance) → Each (λ i. IsStoreOf records i (store_at i.number xs)) is → Hosts n k is → Sized records k (store_at n xs)
  each_hosted n k [] h g = absurd g
  each_hosted n k (i ∷ is) h (inl g) =
      let own : Sized records i.of (store_at i.number xs) = record { values = h.0.values; lists = h.0.lists } in
      subst (λ m. Sized records k (store_at m xs)) g.0 (subst (λ j. Sized records j (store_at i.number xs)) g.1 own)
  each_hosted n k (i ∷ is) h (inr g) = each_hosted n k is h.1 g

  pub hosted_each : (is : List Instance) → ((n k : ℕ) → Hosts n k is → Sized records k (store_at n xs)) → Each (λ i. IsStoreOf records i (store_at i.number xs)) is
  hosted_each [] f = tt
  hosted_each (i ∷ is) f = (
    (let own = f i.number i.of (inl (refl, refl)) in record { values = own.values; lists = own.lists }),
    hosted_each is (λ n k h. f n k (inr h)),
  )

-- The same instances are live

-- each instance in the place of another of the same number and target
module _ (f : Instance → Instance) (alike : (x : Instance) → Alike x (f x)) where
  mapped_on : (n k : ℕ) (is : List Instance) → Hosts n k is → Hosts n k (map f is)
  mapped_on n k [] h = h
  mapped_on n k (i ∷ is) (inl h) = inl ((alike i).number ∙ h.0, (alike i).of ∙ h.1)
  mapped_on n k (i ∷ is) (inr h) = inr (mapped_on n k is h)

  mapped_back : (n k : ℕ) (is : List Instance) → Hosts n k (map f is) → Hosts n k is
  mapped_back n k [] h = h
  mapped_back n k (i ∷ is) (inl h) = inl (sym (alike i).number ∙ h.0, sym (alike i).of ∙ h.1)
  mapped_back n k (i ∷ is) (inr h) = inr (mapped_back n k is h)

  mapped_numbers : (is : List Instance) → map (λ i. i.number) (map f is) ≡ map (λ i. i.number) is
  mapped_numbers [] = refl
  mapped_numbers (i ∷ is) = ap (λ n. n ∷ map (λ x. x.number) (map f is)) (alike i).number ∙ ap (λ l. i.number ∷ l) (mapped_numbers is)

  pub mapped_faces : (is : List Instance) → Faces is (map f is)
  mapped_faces is = record { on = λ n k h. mapped_on n k is h; back = λ n k h. mapped_back n k is h; differ = λ d. subst Differ (sym (mapped_numbers is)) d }

faces_back : (is js : List Instance) (n : ℕ) → Faces is js → Member n (map (λ i. i.number) js) → Member n (map (λ i. i.number) is)
faces_back is js n f h = let g = number_hosts n js h in hosts_member n g.0 is (f.back n g.0 g.1)

-- Some instances are gone

kept_hosts_by : (c : Bool) (m k : ℕ) (i : Instance) (js is : List Instance) → (Hosts m k js → Hosts m k is) → Hosts m k (cond c (i ∷ js) js) → Hosts m k (i ∷ is)
kept_hosts_by true m k i js is f (inl h) = inl h
kept_hosts_by true m k i js is f (inr h) = inr (f h)
kept_hosts_by false m k i js is f h = inr (f h)

kept_hosts : (test : Instance → Bool) (m k : ℕ) (is : List Instance) → Hosts m k (filter test is) → Hosts m k is
kept_hosts test m k [] h = h
kept_hosts test m k (i ∷ is) h = kept_hosts_by (test i) m k i (filter test is) is (kept_hosts test m k is) h

module _ (p : Program) (is : List Instance) (vs : Variables) (h : IsLegalStores p is vs) where
  pub its_store : (n k : ℕ) → Hosts n k is → Sized p.records k (store_at n vs.stores)
  its_store n k g = each_hosted p.records vs.stores n k is h.stores g

  pub carried : (js : List Instance) → Faces is js → IsLegalStores p js vs
  carried js f = record {
    rising = h.rising;
    same = λ n. ((λ m. live_on is js n f ((h.same n).0 m)), (λ m. (h.same n).1 (faces_back is js n f m)));
    stores = hosted_each p.records vs.stores js (λ n k g. its_store n k (f.back n k g));
    short = h.short;
    monitors = h.monitors;
    made = h.made;
  }

  -- those of some numbers stay
  module _ (keep : ℕ → Bool) where
    abbrev fewer_instances : List Instance
    fewer_instances = filter (λ i. keep i.number) is

    abbrev fewer_stores : List Store
    fewer_stores = filter (λ s. keep s.of) vs.stores

    kept_store : (n k : ℕ) → Hosts n k fewer_instances → Sized p.records k (store_at n fewer_stores)
    kept_store n k g =
        let there = kept_member (λ i. i.number) keep n is (hosts_member n k fewer_instances g) in
        subst (λ o. Sized p.records k (unwrap_or o (empty_store n))) (sym (find_kept (λ s. s.of) keep n vs.stores there.1)) (its_store n k (kept_hosts (λ i. keep i.number) n k is g))

    pub narrowed : IsLegalStores p fewer_instances (record vs { stores = fewer_stores })
    narrowed = record {
      rising = rise_kept (λ s. s.of) keep vs.stores h.rising;
      same = λ n. (
        (λ m. let g = kept_member (λ s. s.of) keep n vs.stores m in member_kept (λ i. i.number) keep n is g.1 ((h.same n).0 g.0)),
        (λ m. let g = kept_member (λ i. i.number) keep n is m in member_kept (λ s. s.of) keep n vs.stores g.1 ((h.same n).1 g.0)),
      );
      stores = hosted_each p.records fewer_stores fewer_instances kept_store;
      short = each_filter Short (λ s. keep s.of) vs.stores h.short;
      monitors = h.monitors;
      made = h.made;
    }

  -- the first of a number, which is the only one, is gone
  pub without_one : (n : ℕ) → Differ (map (λ i. i.number) is) → IsLegalStores p (first_removed (λ i. i.number == n) is) (record vs { stores = first_removed (λ s. s.of == n) vs.stores })
  without_one n d =
      let fewer = filter (λ (s : Store). not (s.of == n)) vs.stores in
      subst (λ js. IsLegalStores p js (record vs { stores = first_removed (λ s. s.of == n) vs.stores })) (sym (removed_only (λ i. i.number) n is d))
      (subst (λ ys. IsLegalStores p (filter (λ i. not (i.number == n)) is) (record vs { stores = ys })) (sym (removed_only (λ s. s.of) n vs.stores (rise_differ (map (λ s. s.of) vs.stores) h.rising)))
      (narrowed (λ m. not (m == n))))

  -- One more is there

  module _ (next original k : ℕ) (inhabited : Inhabited p.records next is) (hosted : Hosts original k is) where
    abbrev clone : Instance
    clone = copied next (instance_at original is)

    abbrev its_copy : Store
    its_copy = record (store_at original vs.stores) { of = next }

    abbrev more_instances : List Instance
    more_instances = is ++ clone ∷ []

    abbrev more_stores : List Store
    more_stores = vs.stores ++ its_copy ∷ []

    -- every number was given before
    below : (n : ℕ) → Member n (map (λ s. s.of) vs.stores) → n < next
    below n m = let g = number_hosts n is ((h.same n).0 m) in inhabited.given n g.0 g.1

    one_on : (n : ℕ) → Member n (map (λ s. s.of) vs.stores) ⊎ (next ≡ n) → Member n (map (λ i. i.number) is ++ next ∷ [])
    one_on n (inl m) = member_left n (map (λ i. i.number) is) (next ∷ []) ((h.same n).0 m)
    one_on n (inr e) = member_right n (map (λ i. i.number) is) (next ∷ []) (inl e)

    one_back : (n : ℕ) → Member n (map (λ i. i.number) is) ⊎ (next ≡ n) → Member n (map (λ s. s.of) vs.stores ++ next ∷ [])
    one_back n (inl m) = member_left n (map (λ s. s.of) vs.stores) (next ∷ []) ((h.same n).1 m)
    one_back n (inr e) = member_right n (map (λ s. s.of) vs.stores) (next ∷ []) (inl e)

    abbrev store_numbers : map (λ s. s.of) more_stores ≡ map (λ s. s.of) vs.stores ++ next ∷ []
    store_numbers = map_last (λ s. s.of) vs.stores its_copy

    abbrev instance_numbers : map (λ i. i.number) more_instances ≡ map (λ i. i.number) is ++ next ∷ []
    instance_numbers = map_last (λ i. i.number) is clone

    copy_sized : Sized p.records (instance_at original is).of its_copy
    copy_sized =
        let s = its_store original k hosted in
        subst (λ j. Sized p.records j its_copy) (sym (instance_is original k is inhabited.differ hosted)) (record { values = s.values; lists = s.lists })

    more_by : (n j : ℕ) → Hosts n j is ⊎ Hosts n j (clone ∷ []) → Sized p.records j (store_at n more_stores)
    more_by n j (inl g) = subst (λ o. Sized p.records j (unwrap_or o (empty_store n))) (sym (find_front (λ s. s.of) n vs.stores its_copy ((h.same n).1 (hosts_member n j is g)))) (its_store n j g)
    more_by n j (inr (inl e)) =
        subst (λ o. Sized p.records j (unwrap_or o (empty_store n))) (sym (find_last (λ s. s.of) n vs.stores its_copy e.0 (λ m. let b = below n m in let same = e.0 in omega (arith, b, same))))
        (subst (λ z. Sized p.records z its_copy) e.1 copy_sized)
    more_by n j (inr (inr e)) = absurd e

    more : IsLegalStores p more_instances (record vs { stores = more_stores })
    more = record {
      rising = subst Rise (sym store_numbers) (rise_last next (map (λ s. s.of) vs.stores) h.rising below);
      same = λ n. (
        (λ m. subst (Member n) (sym instance_numbers) (one_on n (member_last n next (map (λ s. s.of) vs.stores) (subst (Member n) store_numbers m)))),
        (λ m. subst (Member n) (sym store_numbers) (one_back n (member_last n next (map (λ i. i.number) is) (subst (Member n) instance_numbers m)))),
      );
      stores = hosted_each p.records more_stores more_instances (λ n j g. more_by n j (hosts_split n j is (clone ∷ []) g));
      short = each_append Short vs.stores (its_copy ∷ []) h.short (short_at original vs.stores h.short, tt);
      monitors = h.monitors;
      made = h.made;
    }

-- a clone stands directly behind its original
pub cloned : (p : Program) (is : List Instance) (vs : Variables) (next original k : ℕ) → IsLegalStores p is vs → Inhabited p.records next is → Hosts original k is
    → IsLegalStores p (placed_behind next original (is ++ copied next (instance_at original is) ∷ [])) (record vs { stores = vs.stores ++ (record (store_at original vs.stores) { of = next }) ∷ [] })
cloned p is vs next original k h inhabited hosted =
    let clone = copied next (instance_at original is) in
    let js = is ++ clone ∷ [] in
    let ws : Variables = record vs { stores = vs.stores ++ (record (store_at original vs.stores) { of = next }) ∷ [] } in
    let less = inhabited.given original k hosted in
    carried p js ws (more p is vs h next original k inhabited hosted) (placed_behind next original js)
    (placed_faces next original clone.of k js (λ e. omega (arith, e, less)) (added_it p.records next is (instance_at original is) inhabited) (hosts_left original k is (clone ∷ []) hosted))
