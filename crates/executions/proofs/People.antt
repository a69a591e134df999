-- What is kept of the instances of a run, and of who has variables.
use Rattle.std.proofs.Common.{◌≡◌, ◌≢◌, ℕ, zero, suc, ◌+◌, ◌≤◌, ◌<◌, ◌^◌, Bool, true, false, not, cond, List, [], ◌∷◌, ◌++◌, length, map, Option, Some, None, refl, sym, ap, ◌∙◌, subst, arith}
use Rattle.std.specs.Prelude.{◌==◌, ◌||◌, is_some, nat_lt}
use Rattle.std.specs.List.{position, find, filter, list_any, remove, enumerate_from}
use Rattle.std.specs.Option.{option_or}
use Rattle.std.proofs.lemmas.Bool.{eqb-false}
use Rattle.std.proofs.lemmas.Bool.Decides.{nat_tests}
use Rattle.std.proofs.lemmas.List.Folds.{find-append}
use Rattle.machine_spec.specs.declared.instance.Instance.{Instance}
use Rattle.machine_spec.specs.declared.records.TargetRecord.{TargetRecord}
use Rattle.machine_spec.specs.declared.variables.Store.{Store}
use Rattle.machine_spec.specs.First.{store}
use Rattle.machine_spec.specs.Lists.{first_removed, removed_at}
use Rattle.machine_spec.specs.Outcome.{last_number}
use Rattle.machine_spec.specs.Stopping.{is_clone, copied, placed_behind}
use Rattle.machine_spec.specs.Stores.{Variables, instance_at}
use Rattle.targets.specs.First.{first_instances}
use Rattle.targets.specs.Live.{IsLive, IsSameCast, HasOneEach}
use Rattle.project_check.specs.declared.project.Project.{Project}
use Rattle.project_check.specs.Loaded.{program_of, tables_of}
use Rattle.executions.specs.Ready.{HasSameTargets, ArePeopled, HasNoneFrom}
use Rattle.executions.proofs.Crew.{originals-targets, homes-targets, fresh-targets, one_each-cast, originals-first, homes-first, fresh-first, one_each-first, stopped, originals-stopped, homes-stopped, fresh-stopped, one_each-stopped, originals-without, homes-without, fresh-without, one_each-without, originals-cloned, homes-cloned, fresh-cloned, one_each-cloned, originals-behind, homes-behind, fresh-behind, one_each-behind}

-- Instances

number_left : (next : ℕ) → next < 2 ^ 62 → (next == last_number) ≡ false → next + 1 < 2 ^ 62
number_left next lt e = let ne = eqb-false next last_number e in omega (arith, lt, ne)

no_original : (count id : ℕ) → not (nat_lt id count) ≡ true → count ≤ id
no_original count id e = grind (arith, nat_tests, e)

module _ (p : Project) (next : ℕ) (is : List Instance) (people : ArePeopled p next is) where
  abbrev count : ℕ
  count = length (program_of p).records.targets

  -- the same ones are live, of the same targets
  pub people_same : (new : List Instance) → HasSameTargets is new → HasOneEach new → ArePeopled p next new
  people_same new same one = record {
    few = people.few;
    originals = originals-targets is new same count people.originals;
    homes = homes-targets is new same count people.homes;
    fresh = fresh-targets is new same next people.fresh;
    one_each = one;
  }

  pub people_cast : (new : List Instance) → IsSameCast is new → ArePeopled p next new
  people_cast new cast = people_same new cast.targets (one_each-cast is new cast people.one_each)

  -- the originals are left
  pub people_stopped : ArePeopled p next (stopped count is)
  people_stopped = record {
    few = people.few;
    originals = originals-stopped count is people.originals;
    homes = homes-stopped count is people.homes;
    fresh = fresh-stopped count is next people.fresh;
    one_each = one_each-stopped count is people.one_each;
  }

  -- a clone is taken out
  pub people_removed : (id : ℕ) → is_clone (program_of p).records id ≡ true → ArePeopled p next (first_removed (λ i. i.number == id) is)
  people_removed id clone = record {
    few = people.few;
    originals = originals-without id is people.one_each count (no_original count id clone) people.originals;
    homes = homes-without id is people.one_each count people.homes;
    fresh = fresh-without id is people.one_each next people.fresh;
    one_each = one_each-without id is people.one_each;
  }

  -- a clone is added
  pub people_added : (original : ℕ) → IsLive original is → (next == last_number) ≡ false → ArePeopled p (next + 1) (is ++ copied next (instance_at original is) ∷ [])
  people_added original here left = record {
    few = number_left next people.few left;
    originals = originals-cloned original next is here count people.originals;
    homes = homes-cloned original next is here count people.homes;
    fresh = fresh-cloned original next is here people.fresh;
    one_each = one_each-cloned original next is here people.fresh people.one_each;
  }

  -- and put behind another
  pub people_behind : (clone original : ℕ) → IsLive clone is → IsLive original is → original ≢ clone → ArePeopled p next (placed_behind clone original is)
  people_behind clone original has there apart = record {
    few = people.few;
    originals = originals-behind clone original is has people.one_each there apart count people.originals;
    homes = homes-behind clone original is has people.one_each there apart count people.homes;
    fresh = fresh-behind clone original is has people.one_each there apart next people.fresh;
    one_each = one_each-behind clone original is has people.one_each there apart;
  }

-- Who has variables

-- an element is found exactly where one passes
find_by : {A : Type 0} (b : Bool) (x : A) (o : Option A) → is_some (cond b (Some x) o) ≡ (b || is_some o)
find_by true x o = refl
find_by false x o = refl

pub find_any : {A : Type 0} (p : A → Bool) (xs : List A) → is_some (find p xs) ≡ list_any p xs
find_any p [] = refl
find_any p (x ∷ xs) = find_by (p x) x (find p xs) ∙ ap (λ b. p x || b) (find_any p xs)

-- none is found among some of the elements where none is among all
pub none_there : {A : Type 0} (b : Bool) (x : A) (o : Option A) → cond b (Some x) o ≡ None → (b ≡ false) × (o ≡ None)
none_there true x o e = absurd (cc e)
none_there false x o e = (refl, e)

pub none_behind : {A : Type 0} (b : Bool) (x : A) (o : Option A) → b ≡ false → o ≡ None → cond b (Some x) o ≡ None
none_behind true x o e h = absurd (cc e)
none_behind false x o e h = h

pub none_removed : {A : Type 0} (p : A → Bool) (xs : List A) (k : ℕ) → find p xs ≡ None → find p (remove xs k) ≡ None
none_removed p [] zero e = refl
none_removed p [] (suc k) e = refl
none_removed p (x ∷ xs) zero e = (none_there (p x) x (find p xs) e).1
none_removed p (x ∷ xs) (suc k) e =
    let h = none_there (p x) x (find p xs) e in
    none_behind (p x) x (find p (remove xs k)) h.0 (none_removed p xs k h.1)

none_removed_at : {A : Type 0} (p : A → Bool) (o : Option ℕ) (xs : List A) → find p xs ≡ None → find p (removed_at o xs) ≡ None
none_removed_at p None xs e = e
none_removed_at p (Some k) xs e = none_removed p xs k e

pub none_first_removed : {A : Type 0} (p q : A → Bool) (xs : List A) → find p xs ≡ None → find p (first_removed q xs) ≡ None
none_first_removed p q xs e = none_removed_at p (position q xs) xs e

none_kept : {A : Type 0} (p : A → Bool) (b : Bool) (x : A) (ys : List A) → p x ≡ false → find p ys ≡ None → find p (cond b (x ∷ ys) ys) ≡ None
none_kept p true x ys e h = none_behind (p x) x (find p ys) e h
none_kept p false x ys e h = h

pub none_filtered : {A : Type 0} (p q : A → Bool) (xs : List A) → find p xs ≡ None → find p (filter q xs) ≡ None
none_filtered p q [] e = refl
none_filtered p q (x ∷ xs) e =
    let h = none_there (p x) x (find p xs) e in
    none_kept p (q x) x (filter q xs) h.0 (none_filtered p q xs h.1)

or_none : {A : Type 0} (o u : Option A) → o ≡ None → u ≡ None → option_or o u ≡ None
or_none (Some x) u e h = absurd (cc e)
or_none None u e h = h

pub none_pushed : {A : Type 0} (p : A → Bool) (xs : List A) (x : A) → find p xs ≡ None → p x ≡ false → find p (xs ++ x ∷ []) ≡ None
none_pushed p xs x e h = find-append p xs (x ∷ []) ∙ or_none (find p xs) (find p (x ∷ [])) e (none_behind (p x) x None h refl)

-- the variables of the next instance are added
pub held_added : (next : ℕ) (vs : Variables) (s : Store) → HasNoneFrom next vs → s.of ≡ next → HasNoneFrom (next + 1) (record vs { stores = vs.stores ++ s ∷ [] })
held_added next vs s none of n le = none_pushed (λ (x : Store). x.of == n) vs.stores s (none n (omega (arith, le))) (ap (λ m. m == n) of ∙ other)
  where
    other : (next == n) ≡ false
    other = grind (arith, nat_tests)

-- The first stores

any_map : {A B : Type 0} (p : B → Bool) (f : A → B) (xs : List A) → list_any p (map f xs) ≡ list_any (λ x. p (f x)) xs
any_map p f [] = refl
any_map p f (x ∷ xs) = ap (λ b. p (f x) || b) (any_map p f xs)

none_passes : (n k : ℕ) (ts : List TargetRecord) → k + length ts ≤ n → list_any (λ (x : ℕ × TargetRecord). x.0 == n) (enumerate_from k ts) ≡ false
none_passes n k [] le = refl
none_passes n k (t ∷ ts) le =
    let other : (k == n) ≡ false = grind (arith, nat_tests) in
    ap (λ b. b || list_any (λ (x : ℕ × TargetRecord). x.0 == n) (enumerate_from (k + 1) ts)) other ∙ none_passes n (k + 1) ts (omega (arith, le))

not_some : {A : Type 0} (o : Option A) → is_some o ≡ false → o ≡ None
not_some None e = refl
not_some (Some x) e = absurd (cc e)

first_unheld : (n : ℕ) (ts : List TargetRecord) → length ts ≤ n → find (λ s. s.of == n) (map (λ x. store x.0 x.1) (enumerate_from 0 ts)) ≡ None
first_unheld n ts le =
    not_some (find (λ s. s.of == n) (map (λ x. store x.0 x.1) (enumerate_from 0 ts)))
    (find_any (λ (s : Store). s.of == n) (map (λ x. store x.0 x.1) (enumerate_from 0 ts)) ∙ any_map (λ (s : Store). s.of == n) (λ (x : ℕ × TargetRecord). store x.0 x.1) (enumerate_from 0 ts)
    ∙ none_passes n 0 ts (omega (arith, le)))

module _ (p : Project) (next : ℕ) (all : next ≡ length (tables_of p)) where
  targets_are : length (program_of p).records.targets ≡ next
  targets_are = p.kept.targets ∙ sym all

  pub first_people : (is : List Instance) → is ≡ first_instances (program_of p).records.targets → ArePeopled p next is
  first_people is e = subst (λ n. ArePeopled p n is) targets_are (subst (ArePeopled p (length (program_of p).records.targets)) (sym e) (record {
    few = omega (arith, p.kept.few, all, targets_are);
    originals = originals-first (program_of p).records.targets;
    homes = homes-first (program_of p).records.targets;
    fresh = fresh-first (program_of p).records.targets;
    one_each = one_each-first (program_of p).records.targets;
  }))

  pub first_none : (vs : Variables) → vs.stores ≡ map (λ x. store x.0 x.1) (enumerate_from 0 (program_of p).records.targets) → HasNoneFrom next vs
  first_none vs e n le = ap (find (λ s. s.of == n)) e ∙ first_unheld n (program_of p).records.targets (omega (arith, le, targets_are))
