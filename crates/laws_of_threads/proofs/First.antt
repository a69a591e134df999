-- The first world of a run is legal.
use Rattle.std.proofs.Common.{ap, ◌≡◌, ℕ, zero, suc, ◌+◌, Bool, true, false, ◌||◌, if◌then◌else◌, List, [], ◌∷◌, map, length, inl, inr, ◌⊎◌, refl, sym, ◌∙◌, subst, arith}
use Rattle.std.specs.Prelude.{◌≤◌, ◌<◌}
use Rattle.std.specs.List.{enumerate_from}
use Rattle.machine_spec.specs.declared.records.TargetRecord.{TargetRecord}
use Rattle.machine_spec.specs.Words.{Words}
use Rattle.machine_spec.specs.Program.{Program}
use Rattle.machine_spec.specs.Stores.{less}
use Rattle.machine_spec.specs.First.{original, layered, in_order, first_world}
use Rattle.laws_of_threads.specs.Lists.{Member, Differ}
use Rattle.laws_of_threads.specs.Instances.{Hosts}
use Rattle.laws_of_threads.specs.Worlds.{IsLegalWorld}

abbrev Numbered : Type 0
Numbered = List (ℕ × TargetRecord)

abbrev firsts : Numbered → List ℕ
firsts xs = map (λ x. x.0) xs

-- An original has the number of its target

record Numbers (n k : ℕ) (xs : Numbered) : Type 0 where
  member : Member n (firsts xs)
  own : k ≡ n

hosts_numbers : (n k : ℕ) (xs : Numbered) → Hosts n k (map (λ x. original x.0 x.1) xs) → Numbers n k xs
hosts_numbers n k [] h = absurd h
hosts_numbers n k (x ∷ xs) (inl h) = record { member = inl h.0; own = sym h.1 ∙ h.0 }
hosts_numbers n k (x ∷ xs) (inr h) = let g = hosts_numbers n k xs h in record { member = inr g.member; own = g.own }

member_hosts : (n : ℕ) (xs : Numbered) → Member n (firsts xs) → Hosts n n (map (λ x. original x.0 x.1) xs)
member_hosts n [] h = absurd h
member_hosts n (x ∷ xs) (inl e) = inl (e, e)
member_hosts n (x ∷ xs) (inr h) = inr (member_hosts n xs h)

-- The order has the same numbers

module _ (n : ℕ) (t : ℕ × TargetRecord) where
  layered_back_by : (b c : Bool) (x : ℕ × TargetRecord) (xs : Numbered) → (Member n (firsts (layered t xs)) → (t.0 ≡ n) ⊎ Member n (firsts xs))
      → Member n (firsts (if b then t ∷ x ∷ xs else (if c then x ∷ layered t xs else t ∷ x ∷ xs))) → (t.0 ≡ n) ⊎ Member n (firsts (x ∷ xs))
  layered_back_by true c x xs f h = h
  layered_back_by false true x xs f (inl e) = inr (inl e)
  layered_back_by false true x xs f (inr h) = elim (f h) [ inl a ↦ inl a | inr b ↦ inr (inr b) ]
  layered_back_by false false x xs f h = h

  layered_back : (xs : Numbered) → Member n (firsts (layered t xs)) → (t.0 ≡ n) ⊎ Member n (firsts xs)
  layered_back [] h = h
  layered_back (x ∷ xs) h = layered_back_by t.1.is_stage (x.1.is_stage || less x.1.layer_order t.1.layer_order) x xs (layered_back xs) h

  layered_on_by : (b c : Bool) (x : ℕ × TargetRecord) (xs : Numbered) → ((t.0 ≡ n) ⊎ Member n (firsts xs) → Member n (firsts (layered t xs)))
      → (t.0 ≡ n) ⊎ Member n (firsts (x ∷ xs)) → Member n (firsts (if b then t ∷ x ∷ xs else (if c then x ∷ layered t xs else t ∷ x ∷ xs)))
  layered_on_by true c x xs f h = h
  layered_on_by false true x xs f (inl e) = inr (f (inl e))
  layered_on_by false true x xs f (inr (inl e)) = inl e
  layered_on_by false true x xs f (inr (inr h)) = inr (f (inr h))
  layered_on_by false false x xs f h = h

  layered_on : (xs : Numbered) → (t.0 ≡ n) ⊎ Member n (firsts xs) → Member n (firsts (layered t xs))
  layered_on [] h = h
  layered_on (x ∷ xs) h = layered_on_by t.1.is_stage (x.1.is_stage || less x.1.layer_order t.1.layer_order) x xs (layered_on xs) h

order_back : (n : ℕ) (xs : Numbered) → Member n (firsts (in_order xs)) → Member n (firsts xs)
order_back n [] h = h
order_back n (x ∷ xs) h = elim (layered_back n x (in_order xs) h) [ inl e ↦ inl e | inr g ↦ inr (order_back n xs g) ]

order_on : (n : ℕ) (xs : Numbered) → Member n (firsts xs) → Member n (firsts (in_order xs))
order_on n [] h = h
order_on n (x ∷ xs) (inl e) = layered_on n x (in_order xs) (inl e)
order_on n (x ∷ xs) (inr h) = layered_on n x (in_order xs) (inr (order_on n xs h))

-- The numbers of a list

numbers_below : (m n : ℕ) (ts : List TargetRecord) → Member n (firsts (enumerate_from m ts)) → n < m + length ts
numbers_below m n [] h = absurd h
numbers_below m n (t ∷ ts) (inl e) = omega (arith, e)
numbers_below m n (t ∷ ts) (inr h) = let b = numbers_below (m + 1) n ts h in omega (arith, b)

numbers_all : (m k : ℕ) (ts : List TargetRecord) → k < length ts → Member (m + k) (firsts (enumerate_from m ts))
numbers_all m k [] h = absurd (omega (arith, h))
numbers_all m zero (t ∷ ts) h = inl (omega arith)
numbers_all m (suc k) (t ∷ ts) h = let e : m + 1 + k ≡ m + suc k = omega arith in inr (subst (λ z. Member z (firsts (enumerate_from (m + 1) ts))) e (numbers_all (m + 1) k ts (omega (arith, h))))

numbers_least : (m n : ℕ) (ts : List TargetRecord) → Member n (firsts (enumerate_from m ts)) → m ≤ n
numbers_least m n [] h = absurd h
numbers_least m n (t ∷ ts) (inl e) = omega (arith, e)
numbers_least m n (t ∷ ts) (inr h) = let b = numbers_least (m + 1) n ts h in omega (arith, b)

numbers_differ : (m : ℕ) (ts : List TargetRecord) → Differ (firsts (enumerate_from m ts))
numbers_differ m [] = tt
numbers_differ m (t ∷ ts) = ((λ h. let b = numbers_least (m + 1) m ts h in omega (arith, b)), numbers_differ (m + 1) ts)

module _ (t : ℕ × TargetRecord) where
  layered_differ_by : (b c : Bool) (x : ℕ × TargetRecord) (xs : Numbered) → (Member t.0 (firsts (x ∷ xs)) → ⊥) → Differ (firsts (x ∷ xs)) → Differ (firsts (layered t xs))
      → Differ (firsts (if b then t ∷ x ∷ xs else (if c then x ∷ layered t xs else t ∷ x ∷ xs)))
  layered_differ_by true c x xs none d g = (none, d)
  layered_differ_by false true x xs none d g = ((λ h. elim (layered_back x.0 t xs h) [ inl e ↦ none (inl (sym e)) | inr m ↦ d.0 m ]), g)
  layered_differ_by false false x xs none d g = (none, d)

  layered_differ : (xs : Numbered) → (Member t.0 (firsts xs) → ⊥) → Differ (firsts xs) → Differ (firsts (layered t xs))
  layered_differ [] none d = ((λ h. h), tt)
  layered_differ (x ∷ xs) none d = layered_differ_by t.1.is_stage (x.1.is_stage || less x.1.layer_order t.1.layer_order) x xs none d (layered_differ xs (λ h. none (inr h)) d.1)

order_differ : (xs : Numbered) → Differ (firsts xs) → Differ (firsts (in_order xs))
order_differ [] d = tt
order_differ (x ∷ xs) d = layered_differ x (in_order xs) (λ h. d.0 (order_back x.0 xs h)) (order_differ xs d.1)

original_numbers : (xs : Numbered) → map (λ i. i.number) (map (λ x. original x.0 x.1) xs) ≡ firsts xs
original_numbers [] = refl
original_numbers (x ∷ xs) = ap (λ l. x.0 ∷ l) (original_numbers xs)

pub first_legal : (p : Program) (words : Words) → IsLegalWorld p (first_world p words)
first_legal p words =
    let ts = p.records.targets in
    let xs = enumerate_from 0 ts in
    record {
      sound = record {
        inhabited = record {
          differ = subst Differ (sym (original_numbers (in_order xs))) (order_differ xs (numbers_differ 0 ts));
          given = λ n k a. let below = numbers_below 0 n ts (order_back n xs (hosts_numbers n k (in_order xs) a).member) in omega (arith, below);
          originals = λ n below. member_hosts n (in_order xs) (order_on n xs (let e : 0 + n ≡ n = omega arith in subst (λ z. Member z (firsts xs)) e (numbers_all 0 n ts below)));
        };
        asking = record { differ = tt; given = tt };
        speaking = record { differ = tt; given = tt };
        askers_live = tt;
        speakers_live = tt;
      };
      threads = tt;
      serials = record { differ = tt; given = tt };
      none_detached = refl;
      few = omega arith;
    }
