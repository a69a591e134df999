-- The first world has legal variables.
use Rattle.std.proofs.Common.{◌≡◌, ℕ, zero, suc, ◌+◌, ◌==◌, Bool, true, false, cond, List, [], ◌∷◌, map, length, Option, Some, inl, inr, sym, subst, arith}
use Rattle.std.specs.Prelude.{◌<◌, ◌≤◌, find, slice_get, unwrap_or}
use Rattle.std.specs.List.{enumerate_from}
use Rattle.std.proofs.lemmas.List.{length-map}
use Rattle.machine_spec.specs.declared.records.ListRecord.{ListRecord}
use Rattle.machine_spec.specs.declared.records.TargetRecord.{TargetRecord}
use Rattle.machine_spec.specs.declared.variables.Store.{Store}
use Rattle.machine_spec.specs.DataRows.{most_items}
use Rattle.machine_spec.specs.First.{store, first_world}
use Rattle.machine_spec.specs.Program.{Program, no_target}
use Rattle.machine_spec.specs.Stores.{store_at}
use Rattle.machine_spec.specs.Words.{Words}
use Rattle.laws_of_threads.specs.Lists.{Each, Member, RiseAbove, Rise}
use Rattle.laws_of_threads.specs.Playable.{IsTarget, IsPlayable}
use Rattle.laws_of_threads.proofs.Faces.{hosts_member, hosts_one, number_hosts}
use Rattle.laws_of_threads.proofs.First.{first_legal}
use Rattle.laws_of_threads.proofs.Numbers.{equal_true, equal_false}
use Rattle.laws_of_variables.specs.Variables.{IsLegalVariables}
use Rattle.laws_of_variables.proofs.Carried.{Sized, Short, empty_store, hosted_each}

-- the stores of targets, numbered from m
abbrev stores_from : ℕ → List TargetRecord → List Store
stores_from m ts = map (λ x. store x.0 x.1) (enumerate_from m ts)

abbrev numbers : List Store → List ℕ
numbers xs = map (λ s. s.of) xs

above : (n m : ℕ) (ts : List TargetRecord) → n < m → RiseAbove n (numbers (stores_from m ts))
above n m [] less = tt
above n m (t ∷ ts) less = (less, above m (m + 1) ts (omega arith))

rising : (m : ℕ) (ts : List TargetRecord) → Rise (numbers (stores_from m ts))
rising m [] = tt
rising m (t ∷ ts) = above m (m + 1) ts (omega arith)

below : (m n : ℕ) (ts : List TargetRecord) → Member n (numbers (stores_from m ts)) → n < m + length ts
below m n [] h = absurd h
below m n (t ∷ ts) (inl e) = omega (arith, e)
below m n (t ∷ ts) (inr h) = let b = below (m + 1) n ts h in omega (arith, b)

there : (m n k : ℕ) (ts : List TargetRecord) → m + k ≡ n → k < length ts → Member n (numbers (stores_from m ts))
there m n k [] e h = absurd (omega (arith, h))
there m n zero (t ∷ ts) e h = inl (omega (arith, e))
there m n (suc k) (t ∷ ts) e h = inr (there (m + 1) n k ts (omega (arith, e)) (omega (arith, h)))

-- the store of each target has its variables and lists
record IsOf (t : TargetRecord) (s : Store) : Type 0 where
  values : length s.values ≡ length t.variables
  lists : length s.lists ≡ length t.lists

found_by : (c b : Bool) (n : ℕ) (u : TargetRecord) (x : Store) (o : Option Store) → c ≡ b → IsOf u (unwrap_or (cond b (Some x) o) (empty_store n)) → IsOf u (unwrap_or (cond c (Some x) o) (empty_store n))
found_by c b n u x o e h = subst (λ z. IsOf u (unwrap_or (cond z (Some x) o) (empty_store n))) (sym e) h

found : (m n k : ℕ) (ts : List TargetRecord) → m + k ≡ n → k < length ts → IsOf (unwrap_or (slice_get ts k) no_target) (store_at n (stores_from m ts))
found m n k [] e h = absurd (omega (arith, h))
found m n zero (t ∷ ts) e h = found_by (m == n) true n t (store m t) (find (λ s. s.of == n) (stores_from (m + 1) ts)) (equal_true m n (omega (arith, e)))
    (record { values = length-map t.variables (λ v. v.value); lists = length-map t.lists (λ l. l.items) })
found m n (suc k) (t ∷ ts) e h = found_by (m == n) false n (unwrap_or (slice_get ts k) no_target) (store m t) (find (λ s. s.of == n) (stores_from (m + 1) ts)) (equal_false m n (λ same. omega (arith, e, same)))
    (found (m + 1) n k ts (omega (arith, e)) (omega (arith, h)))

short_lists : (ls : List ListRecord) → Each (λ l. length l.items ≤ most_items) ls → Each (λ items. length items ≤ most_items) (map (λ l. l.items) ls)
short_lists [] h = tt
short_lists (l ∷ ls) h = (h.0, short_lists ls h.1)

short : (m : ℕ) (ts : List TargetRecord) → Each IsTarget ts → Each Short (stores_from m ts)
short m [] h = tt
short m (t ∷ ts) h = (short_lists t.lists h.0.lists, short (m + 1) ts h.1)

pub first_variables : (p : Program) (words : Words) → IsPlayable p → IsLegalVariables p (first_world p words)
first_variables p words playable =
    let ts = p.records.targets in
    let w = first_world p words in
    let inhabited = (first_legal p words).sound.inhabited in
    let xs = stores_from 0 ts in
    record {
      rising = rising 0 ts;
      same = λ n. (
        (λ m. let less : n < length ts = (let b = below 0 n ts m in omega (arith, b)) in hosts_member n n w.targets (inhabited.originals n less)),
        (λ m. let g = number_hosts n w.targets m in there 0 n n ts (omega arith) (inhabited.given n g.0 g.1)),
      );
      stores = hosted_each p.records xs w.targets (λ n k h.
          let less : n < length ts = inhabited.given n k h in
          let own : n ≡ k = hosts_one n n k w.targets inhabited.differ (inhabited.originals n less) h in
          let s = found 0 n n ts (omega arith) less in
          subst (λ j. Sized p.records j (store_at n xs)) own (record { values = s.values; lists = s.lists }));
      short = short 0 ts playable.targets;
      monitors = length-map p.records.monitors (λ m. m.visible);
      made = tt;
    }
