-- The variables, lists and monitors of an accepted saved run are legal.
use Rattle.std.proofs.Common.{◌≡◌, ◌⊎◌, inl, inr, ℕ, ◌<◌, ◌≤◌, ◌==◌, Bool, true, false, nat_lt, nat_le, List, [], ◌∷◌, map, length, if◌then◌else◌, refl, sym, ap, ◌∙◌, subst, arith}
use Rattle.std.specs.List.{list_all}
use Rattle.std.proofs.lemmas.Bool.Decides.{nat_tests}
use Rattle.machine_spec.specs.DataRows.{most_items}
use Rattle.machine_spec.specs.Program.{record_at}
use Rattle.machine_spec.specs.Stores.{record_of, store_at}
use Rattle.machine_spec.specs.declared.instance.Instance.{Instance}
use Rattle.machine_spec.specs.declared.variables.Shown.{Shown}
use Rattle.machine_spec.specs.declared.variables.Shown.TheVariants.{Variable, List as Items}
use Rattle.machine_spec.specs.declared.variables.Store.{Store}
use Rattle.laws_of_threads.specs.Lists.{Each, Member, Differ, Rise, RiseAbove}
use Rattle.laws_of_variables.specs.Variables.{IsStoreOf, IsThere, IsLegalStores}
use Rattle.project_spec.specs.Basis.{Basis}
use Rattle.saved_spec.specs.InstanceShapes.{Standing}
use Rattle.saved_spec.specs.Rules.{differ, has_values, is_shown}
use Rattle.saved_spec.specs.RunShapes.{Told, store_among, stores_in_order}
use Rattle.laws_of_loading.proofs.Shaped.{IsShaped, IsShapedStanding}
use Rattle.laws_of_loading.proofs.Accepting.{Rules}
use Rattle.laws_of_loading.proofs.Tests.{both, below, up_to, equal, all_have, numbers_differ}

-- the numbers of stores
abbrev pub of_stores : List Store → List ℕ
of_stores ss = map (λ s. s.of) ss

-- A store among others

above_by : (c : Bool) (n : ℕ) (s t : Store) (ts : List Store) → nat_lt t.of s.of ≡ c → n < s.of → RiseAbove n (of_stores (t ∷ ts)) → (Member s.of (of_stores (t ∷ ts)) → ⊥)
    → (t.of < s.of → RiseAbove t.of (of_stores (store_among s ts))) → RiseAbove n (of_stores (if c then t ∷ store_among s ts else s ∷ t ∷ ts))
above_by true n s t ts e less rise out rest = (rise.0, rest (below t.of s.of e))
above_by false n s t ts e less rise out rest = (less, (after, rise.1))
  where
    apart : t.of ≡ s.of → ⊥
    apart same = out (inl same)

    after : s.of < t.of
    after = let not_below : nat_lt t.of s.of ≡ false = e in grind (arith, nat_tests, not_below, apart)

above : (n : ℕ) (s : Store) (ts : List Store) → n < s.of → RiseAbove n (of_stores ts) → (Member s.of (of_stores ts) → ⊥) → RiseAbove n (of_stores (store_among s ts))
above n s [] less rise out = (less, tt)
above n s (t ∷ ts) less rise out = above_by (nat_lt t.of s.of) n s t ts refl less rise out (λ under. above t.of s ts under rise.1 (λ m. out (inr m)))

rise_by : (c : Bool) (s t : Store) (ts : List Store) → nat_lt t.of s.of ≡ c → RiseAbove t.of (of_stores ts) → (Member s.of (of_stores (t ∷ ts)) → ⊥)
    → Rise (of_stores (if c then t ∷ store_among s ts else s ∷ t ∷ ts))
rise_by true s t ts e rise out = above t.of s ts (below t.of s.of e) rise (λ m. out (inr m))
rise_by false s t ts e rise out = (after, rise)
  where
    apart : t.of ≡ s.of → ⊥
    apart same = out (inl same)

    after : s.of < t.of
    after = let not_below : nat_lt t.of s.of ≡ false = e in grind (arith, nat_tests, not_below, apart)

rises_among : (s : Store) (ts : List Store) → Rise (of_stores ts) → (Member s.of (of_stores ts) → ⊥) → Rise (of_stores (store_among s ts))
rises_among s [] rise out = tt
rises_among s (t ∷ ts) rise out = rise_by (nat_lt t.of s.of) s t ts refl rise out

among_by : (c : Bool) (n : ℕ) (s t : Store) (ts : List Store) → (Member n (of_stores (store_among s ts)) → (s.of ≡ n) ⊎ Member n (of_stores ts))
    → Member n (of_stores (if c then t ∷ store_among s ts else s ∷ t ∷ ts)) → (s.of ≡ n) ⊎ Member n (of_stores (t ∷ ts))
among_by true n s t ts rest (inl e) = inr (inl e)
among_by true n s t ts rest (inr m) = elim (rest m) [ inl e ↦ inl e | inr k ↦ inr (inr k) ]
among_by false n s t ts rest (inl e) = inl e
among_by false n s t ts rest (inr m) = inr m

among : (n : ℕ) (s : Store) (ts : List Store) → Member n (of_stores (store_among s ts)) → (s.of ≡ n) ⊎ Member n (of_stores ts)
among n s [] (inl e) = inl e
among n s [] (inr m) = absurd m
among n s (t ∷ ts) m = among_by (nat_lt t.of s.of) n s t ts (among n s ts) m

itself_by : (c : Bool) (s t : Store) (ts : List Store) → Member s.of (of_stores (store_among s ts)) → Member s.of (of_stores (if c then t ∷ store_among s ts else s ∷ t ∷ ts))
itself_by true s t ts m = inr m
itself_by false s t ts m = inl refl

itself : (s : Store) (ts : List Store) → Member s.of (of_stores (store_among s ts))
itself s [] = inl refl
itself s (t ∷ ts) = itself_by (nat_lt t.of s.of) s t ts (itself s ts)

stays_by : (c : Bool) (n : ℕ) (s t : Store) (ts : List Store) → (Member n (of_stores ts) → Member n (of_stores (store_among s ts))) → Member n (of_stores (t ∷ ts))
    → Member n (of_stores (if c then t ∷ store_among s ts else s ∷ t ∷ ts))
stays_by true n s t ts rest (inl e) = inl e
stays_by true n s t ts rest (inr m) = inr (rest m)
stays_by false n s t ts rest m = inr m

stays : (n : ℕ) (s : Store) (ts : List Store) → Member n (of_stores ts) → Member n (of_stores (store_among s ts))
stays n s [] m = absurd m
stays n s (t ∷ ts) m = stays_by (nat_lt t.of s.of) n s t ts (stays n s ts) m

each_by : (P : Store → Type 0) (c : Bool) (s t : Store) (ts : List Store) → P s → Each P (t ∷ ts) → Each P (store_among s ts) → Each P (if c then t ∷ store_among s ts else s ∷ t ∷ ts)
each_by P true s t ts p all rest = (all.0, rest)
each_by P false s t ts p all rest = (p, all)

each_among : (P : Store → Type 0) (s : Store) (ts : List Store) → P s → Each P ts → Each P (store_among s ts)
each_among P s [] p all = (p, tt)
each_among P s (t ∷ ts) p all = each_by P (nat_lt t.of s.of) s t ts p all (each_among P s ts p all.1)

-- Stores in order

in_order : (n : ℕ) (ss : List Store) → Member n (of_stores (stores_in_order ss)) → Member n (of_stores ss)
in_order n [] m = m
in_order n (s ∷ ss) m = elim (among n s (stores_in_order ss) m) [ inl e ↦ inl e | inr k ↦ inr (in_order n ss k) ]

kept_in_order : (n : ℕ) (ss : List Store) → Member n (of_stores ss) → Member n (of_stores (stores_in_order ss))
kept_in_order n [] m = m
kept_in_order n (s ∷ ss) (inl e) = subst (λ k. Member k (of_stores (store_among s (stores_in_order ss)))) e (itself s (stores_in_order ss))
kept_in_order n (s ∷ ss) (inr m) = stays n s (stores_in_order ss) (kept_in_order n ss m)

rises_in_order : (ss : List Store) → Differ (of_stores ss) → Rise (of_stores (stores_in_order ss))
rises_in_order [] d = tt
rises_in_order (s ∷ ss) d = rises_among s (stores_in_order ss) (rises_in_order ss d.1) (λ m. d.0 (in_order s.of ss m))

pub each_in_order : (P : Store → Type 0) (ss : List Store) → Each P ss → Each P (stores_in_order ss)
each_in_order P [] all = tt
each_in_order P (s ∷ ss) all = each_among P s (stores_in_order ss) all.0 (each_in_order P ss all.1)

-- the stores of instances have their numbers
same_numbers : (xs : List Standing) → Each IsShapedStanding xs → of_stores (map (λ s. s.store) xs) ≡ map (λ i. i.number) (map (λ s. s.instance) xs)
same_numbers [] all = refl
same_numbers (x ∷ xs) all = let one = all.0.same in let rest = same_numbers xs all.1 in cc

module _ (b : Basis) (t : Told) (s : IsShaped t) (r : Rules b t) where
  numbers : of_stores (map (λ x. x.store) s.standings) ≡ map (λ i. i.number) t.run.targets
  numbers = same_numbers s.standings s.shaped ∙ ap (map (λ i. i.number)) (sym s.targets)

  pub apart : Differ (map (λ i. i.number) t.run.targets)
  apart = numbers_differ (map (λ i. i.number) t.run.targets) (both _ (differ (map (λ i. i.number) t.run.targets)) r.clones).1

  has : (i : Instance) → has_values b t i ≡ true → IsStoreOf b.program.records i (store_at i.number t.run.variables.stores)
  has i h =
      let p = both (length (store_at i.number t.run.variables.stores).values == length (record_of i b.program.records).variables) _ h in
      record { values = equal _ _ p.0; lists = equal _ _ p.1 }

  shows : (what : Shown) → is_shown b what ≡ true → IsThere b.program.records what
  shows (Variable target index) h = below index (length (record_at target b.program.records).variables) h
  shows (Items target index) h = below index (length (record_at target b.program.records).lists) h

  pub stored : IsLegalStores b.program t.run.targets t.run.variables
  stored = record {
    rising = subst (λ ss. Rise (of_stores ss)) (sym s.stores) (rises_in_order (map (λ x. x.store) s.standings) (subst Differ (sym numbers) apart));
    same = λ n. (
      λ m. subst (Member n) numbers (in_order n (map (λ x. x.store) s.standings) (subst (λ ss. Member n (of_stores ss)) s.stores m)),
      λ m. subst (λ ss. Member n (of_stores ss)) (sym s.stores) (kept_in_order n (map (λ x. x.store) s.standings) (subst (Member n) (sym numbers) m)),
    );
    stores = all_have (has_values b t) (λ i. IsStoreOf b.program.records i (store_at i.number t.run.variables.stores)) t.run.targets has r.variables;
    short = all_have (λ x. list_all (λ items. nat_le (length items) 200000) x.lists) (λ x. Each (λ items. length items ≤ most_items) x.lists) t.run.variables.stores
        (λ x e. all_have (λ items. nat_le (length items) 200000) (λ items. length items ≤ most_items) x.lists (λ items f. up_to (length items) 200000 f) e) r.lists;
    monitors = equal (length t.run.variables.file_monitors) (length b.program.records.monitors) r.monitors;
    made = all_have (λ m. is_shown b m.what) (λ m. IsThere b.program.records m.what) t.run.variables.made (λ m e. shows m.what e) r.made;
  }
