-- The stores of a legal world are those that its instances tell, in order; their texts are short.
use Rattle.std.proofs.Common.{◌≡◌, ℕ, ◌<◌, ◌≤◌, ◌==◌, ◌⊎◌, inl, inr, Bool, true, false, cond, List, [], ◌∷◌, map, Option, Some, refl, sym, ap, ◌∙◌, subst, arith}
use Rattle.std.specs.Prelude.{◌↔◌, nat_lt, find, unwrap_or}
use Rattle.std.proofs.lemmas.Bool.Decides.{nat_tests}
use Rattle.machine_spec.specs.declared.instance.Instance.{Instance}
use Rattle.machine_spec.specs.declared.variables.Store.{Store}
use Rattle.machine_spec.specs.Stores.{store_at}
use Rattle.laws_of_threads.specs.Lists.{Each, Member, Differ, RiseAbove, Rise}
use Rattle.laws_of_threads.proofs.Numbers.{equal_true, equal_false, each_map}
use Rattle.saved_spec.specs.RunShapes.{store_among, stores_in_order}
use Rattle.laws_of_reading.specs.Told.{store_told}

-- Rising numbers

abbrev pub numbers : List Store → List ℕ
numbers ss = map (λ s. s.of) ss

above_more : (m n : ℕ) (ns : List ℕ) → m < n → RiseAbove n ns → RiseAbove m ns
above_more m n [] l h = tt
above_more m n (k ∷ ks) l h = (omega (arith, h.0), h.1)

rise_rest : (n : ℕ) (ns : List ℕ) → RiseAbove n ns → Rise ns
rise_rest n [] h = tt
rise_rest n (m ∷ ms) h = h.1

rise_member : (n m : ℕ) (ns : List ℕ) → RiseAbove n ns → Member m ns → n < m
rise_member n m [] h k = absurd k
rise_member n m (x ∷ xs) h (inl e) = omega (arith, h.0, e)
rise_member n m (x ∷ xs) h (inr k) = rise_member n m xs (above_more n x xs h.0 h.1) k

-- where they have the same members, they are the same
same_rest : (n m k : ℕ) (ns ms : List ℕ) → n ≡ m → RiseAbove n ns → (Member k (n ∷ ns) → Member k (m ∷ ms)) → Member k ns → Member k ms
same_rest n m k ns ms e h f g = elim (f (inr g)) [ inl same ↦ absurd (let l = rise_member n k ns h g in omega (arith, l, same, e)) | inr there ↦ there ]

first_least : (n m : ℕ) (ns : List ℕ) → RiseAbove n ns → Member m (n ∷ ns) → n ≤ m
first_least n m ns h (inl e) = omega (arith, e)
first_least n m ns h (inr k) = let l = rise_member n m ns h k in omega (arith, l)

pub rising_same : (ns ms : List ℕ) → Rise ns → Rise ms → ((k : ℕ) → Member k ns → Member k ms) → ((k : ℕ) → Member k ms → Member k ns) → ns ≡ ms
rising_same [] [] h g to back = refl
rising_same [] (m ∷ ms) h g to back = absurd (back m (inl refl))
rising_same (n ∷ ns) [] h g to back = absurd (to n (inl refl))
rising_same (n ∷ ns) (m ∷ ms) h g to back =
    let least = first_least n m ns h (back m (inl refl)) in
    let most = first_least m n ms g (to n (inl refl)) in
    let e : n ≡ m = omega (arith, least, most) in
    let rest : ns ≡ ms = rising_same ns ms (rise_rest n ns h) (rise_rest m ms g) (λ k. same_rest n m k ns ms e h (to k)) (λ k. same_rest m n k ms ns (sym e) g (back k)) in
    cc

-- The store of a number is the one that has it

found_first : (c : Bool) (s : Store) (o : Option Store) (d : Store) → c ≡ true → unwrap_or (cond c (Some s) o) d ≡ s
found_first true s o d e = refl
found_first false s o d e = absurd (cc e)

found_later : (c : Bool) (s x : Store) (o : Option Store) (d : Store) → c ≡ false → unwrap_or o d ≡ x → unwrap_or (cond c (Some s) o) d ≡ x
found_later true s x o d e f = absurd (cc e)
found_later false s x o d e f = f

abbrev pub Own : List Store → Store → Type 0
Own ss s = store_at s.of ss ≡ s

later_own : (s x : Store) (ss : List Store) → s.of < x.of → Own ss x → Own (s ∷ ss) x
later_own s x ss l h = found_later (s.of == x.of) s x (find (λ y. y.of == x.of) ss) (record { of = x.of; values = []; lists = [] }) (equal_false s.of x.of (λ e. absurd (omega (arith, e, l)))) h

later_all : (s : Store) (ss xs : List Store) → RiseAbove s.of (numbers xs) → Each (Own ss) xs → Each (Own (s ∷ ss)) xs
later_all s ss [] r h = tt
later_all s ss (x ∷ xs) r h = (later_own s x ss r.0 h.0, later_all s ss xs (above_more s.of x.of (numbers xs) r.0 r.1) h.1)

pub each_own : (ss : List Store) → Rise (numbers ss) → Each (Own ss) ss
each_own [] r = tt
each_own (s ∷ ss) r = (
  found_first (s.of == s.of) s (find (λ y. y.of == s.of) ss) (record { of = s.of; values = []; lists = [] }) (equal_true s.of s.of refl),
  later_all s ss ss r (each_own ss (rise_rest s.of (numbers ss) r)),
)

-- Stores put in order

among_member_by : (c : Bool) (k : ℕ) (s t : Store) (us ts : List Store) → (Member k (numbers us) → (s.of ≡ k) ⊎ Member k (numbers ts)) → Member k (numbers (cond c (t ∷ us) (s ∷ t ∷ ts))) → (s.of ≡ k) ⊎ Member k (numbers (t ∷ ts))
among_member_by true k s t us ts f (inl e) = inr (inl e)
among_member_by true k s t us ts f (inr h) = elim (f h) [ inl e ↦ inl e | inr g ↦ inr (inr g) ]
among_member_by false k s t us ts f (inl e) = inl e
among_member_by false k s t us ts f (inr h) = inr h

among_member : (k : ℕ) (s : Store) (ts : List Store) → Member k (numbers (store_among s ts)) → (s.of ≡ k) ⊎ Member k (numbers ts)
among_member k s [] (inl e) = inl e
among_member k s [] (inr h) = absurd h
among_member k s (t ∷ ts) h = among_member_by (nat_lt t.of s.of) k s t (store_among s ts) ts (among_member k s ts) h

member_among_by : (c : Bool) (k : ℕ) (s t : Store) (us ts : List Store) → ((s.of ≡ k) ⊎ Member k (numbers ts) → Member k (numbers us)) → (s.of ≡ k) ⊎ Member k (numbers (t ∷ ts)) → Member k (numbers (cond c (t ∷ us) (s ∷ t ∷ ts)))
member_among_by true k s t us ts f (inl e) = inr (f (inl e))
member_among_by true k s t us ts f (inr (inl e)) = inl e
member_among_by true k s t us ts f (inr (inr h)) = inr (f (inr h))
member_among_by false k s t us ts f h = h

member_among : (k : ℕ) (s : Store) (ts : List Store) → (s.of ≡ k) ⊎ Member k (numbers ts) → Member k (numbers (store_among s ts))
member_among k s [] h = h
member_among k s (t ∷ ts) h = member_among_by (nat_lt t.of s.of) k s t (store_among s ts) ts (member_among k s ts) h

among_above_by : (c : Bool) (n : ℕ) (s t : Store) (us ts : List Store) → nat_lt t.of s.of ≡ c → (s.of ≡ t.of → ⊥) → n < s.of → n < t.of → (t.of < s.of → RiseAbove t.of (numbers us)) → RiseAbove t.of (numbers ts) → RiseAbove n (numbers (cond c (t ∷ us) (s ∷ t ∷ ts)))
among_above_by true n s t us ts e ne a b f h = (b, f (grind (arith, nat_tests)))
among_above_by false n s t us ts e ne a b f h = (a, (let l : s.of ≤ t.of = grind (arith, nat_tests) in omega arith, h))

among_above : (n : ℕ) (s : Store) (ts : List Store) → n < s.of → (Member s.of (numbers ts) → ⊥) → RiseAbove n (numbers ts) → RiseAbove n (numbers (store_among s ts))
among_above n s [] l none h = (l, tt)
among_above n s (t ∷ ts) l none h = among_above_by (nat_lt t.of s.of) n s t (store_among s ts) ts refl (λ e. none (inl (sym e))) l h.0 (λ less. among_above t.of s ts less (λ m. none (inr m)) h.1) h.1

among_rises_by : (c : Bool) (s t : Store) (us ts : List Store) → nat_lt t.of s.of ≡ c → (s.of ≡ t.of → ⊥) → (t.of < s.of → RiseAbove t.of (numbers us)) → RiseAbove t.of (numbers ts) → Rise (numbers (cond c (t ∷ us) (s ∷ t ∷ ts)))
among_rises_by true s t us ts e ne f h = f (grind (arith, nat_tests))
among_rises_by false s t us ts e ne f h = (let l : s.of ≤ t.of = grind (arith, nat_tests) in omega arith, h)

among_rises : (s : Store) (ts : List Store) → (Member s.of (numbers ts) → ⊥) → Rise (numbers ts) → Rise (numbers (store_among s ts))
among_rises s [] none h = tt
among_rises s (t ∷ ts) none h = among_rises_by (nat_lt t.of s.of) s t (store_among s ts) ts refl (λ e. none (inl (sym e))) (λ less. among_above t.of s ts less (λ m. none (inr m)) h) h

ordered_member : (k : ℕ) (ss : List Store) → Member k (numbers (stores_in_order ss)) → Member k (numbers ss)
ordered_member k [] h = h
ordered_member k (s ∷ ss) h = elim (among_member k s (stores_in_order ss) h) [ inl e ↦ inl e | inr g ↦ inr (ordered_member k ss g) ]

member_ordered : (k : ℕ) (ss : List Store) → Member k (numbers ss) → Member k (numbers (stores_in_order ss))
member_ordered k [] h = h
member_ordered k (s ∷ ss) (inl e) = member_among k s (stores_in_order ss) (inl e)
member_ordered k (s ∷ ss) (inr h) = member_among k s (stores_in_order ss) (inr (member_ordered k ss h))

ordered_rises : (ss : List Store) → Differ (numbers ss) → Rise (numbers (stores_in_order ss))
ordered_rises [] d = tt
ordered_rises (s ∷ ss) d = among_rises s (stores_in_order ss) (λ m. d.0 (ordered_member s.of ss m)) (ordered_rises ss d.1)

among_each_by : (P : Store → Type 0) (c : Bool) (s t : Store) (us ts : List Store) → P s → P t → Each P us → Each P ts → Each P (cond c (t ∷ us) (s ∷ t ∷ ts))
among_each_by P true s t us ts p q u v = (q, u)
among_each_by P false s t us ts p q u v = (p, (q, v))

among_each : (P : Store → Type 0) (s : Store) (ts : List Store) → P s → Each P ts → Each P (store_among s ts)
among_each P s [] p h = (p, tt)
among_each P s (t ∷ ts) p h = among_each_by P (nat_lt t.of s.of) s t (store_among s ts) ts p h.0 (among_each P s ts p h.1) h.1

ordered_each : (P : Store → Type 0) (ss : List Store) → Each P ss → Each P (stores_in_order ss)
ordered_each P [] h = tt
ordered_each P (s ∷ ss) h = among_each P s (stores_in_order ss) h.0 (ordered_each P ss h.1)

-- The stores that instances tell

module _ (stores : List Store) where
  abbrev told_at : ℕ → Store
  told_at n = record { of = n; values = (store_at n stores).values; lists = (store_at n stores).lists }

  abbrev IsTold : Store → Type 0
  IsTold s = s ≡ told_at s.of

  all_told : (ss : List Store) → Each IsTold ss → ss ≡ map told_at (numbers ss)
  all_told [] h = refl
  all_told (s ∷ ss) h = let e = h.0 in let f = all_told ss h.1 in cc (e, f)

  each_told : (is : List Instance) → Each IsTold (map (store_told stores) is)
  each_told [] = tt
  each_told (i ∷ is) = (refl, each_told is)

  told_numbers : (is : List Instance) → numbers (map (store_told stores) is) ≡ map (λ i. i.number) is
  told_numbers [] = refl
  told_numbers (i ∷ is) = ap (λ ns. i.number ∷ ns) (told_numbers is)

  own_told : (s : Store) → Own stores s → IsTold s
  own_told s e = subst (λ x. s ≡ record { of = s.of; values = x.values; lists = x.lists }) (sym e) refl

  pub in_order : (is : List Instance) → Differ (map (λ i. i.number) is) → Rise (numbers stores) → ((n : ℕ) → Member n (numbers stores) ↔ Member n (map (λ i. i.number) is)) → stores_in_order (map (store_told stores) is) ≡ stores
  in_order is d r same =
      let xs = map (store_told stores) is in
      let e = told_numbers is in
      let ns : numbers (stores_in_order xs) ≡ numbers stores = rising_same (numbers (stores_in_order xs)) (numbers stores) (ordered_rises xs (subst Differ (sym e) d)) r
      (λ k m. (same k).1 (subst (Member k) e (ordered_member k xs m)))
      (λ k m. member_ordered k xs (subst (Member k) (sym e) ((same k).0 m))) in
      let a = all_told (stores_in_order xs) (ordered_each IsTold xs (each_told is)) in
      let b = all_told stores (each_map (Own stores) IsTold stores own_told (each_own stores r)) in
      a ∙ ap (map told_at) ns ∙ sym b
