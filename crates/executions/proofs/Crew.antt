-- Which instances are live, of which targets, and how many have a number, where instances are changed, taken out, added and moved.
use Rattle.std.proofs.Common.{◌≡◌, ◌≢◌, ℕ, suc, ◌+◌, ◌<◌, ◌≤◌, List, [], ◌∷◌, ◌++◌, length, get_or, take, drop, map, filter, insert, remove, position, count_by, Option, Some, None, IsSome, Bool, true, false, not, cond, is_some, inl, inr, refl, sym, ap, ◌∙◌, subst, arith}
use Rattle.std.specs.Prelude.{◌==◌, nat_lt, ◌||◌, unwrap_or, option_map}
use Rattle.std.specs.List.{enumerate_from}
use Rattle.std.specs.Option.{option_or}
use Rattle.std.proofs.lemmas.Bool.{cases_eq, cases_lt, eqb-true, eqb-false, eq-eqb, ne_eqb, lt-ltb, le-ltb}
use Rattle.std.proofs.lemmas.List.{take-append-drop}
use Rattle.std.proofs.lemmas.List.Folds.{find-append}
use Rattle.std.proofs.lemmas.List.Quantifiers.{position-Some}
use Rattle.std.proofs.lemmas.List.Sums.{sum_by-cons, sum_by_push, sum_by-remove, sum_by-insert}
use Rattle.std.proofs.lemmas.Option.{same_Some}
use Rattle.machine_spec.specs.declared.instance.Instance.{Instance}
use Rattle.machine_spec.specs.declared.records.TargetRecord.{TargetRecord}
use Rattle.machine_spec.specs.First.{original, layered, in_order}
use Rattle.machine_spec.specs.Lists.{first_removed, removed_at}
use Rattle.machine_spec.specs.Stopping.{cleared, copied, placed_behind}
use Rattle.machine_spec.specs.Stores.{live, instance_at, no_instance, less}
use Rattle.targets.specs.Live.{HasOneEach, IsLive, IsSameCast, target_of, numbers}
use Rattle.targets.specs.First.{first_instances}
use Rattle.targets.proofs.Cast.{KeepsCast, cast-map, live_is_placed}
use Rattle.targets.proofs.Moves.{inserted_behind_is, live-pushed, live-removed}
use Rattle.targets.proofs.Places.{find_none}
use Rattle.targets.proofs.Same.{live-filter}

-- What is kept of the instances

-- the original of each target is live
abbrev pub Originals : (count : ℕ) → List Instance → Type 0
Originals count is = (n : ℕ) → n < count → IsLive n is

-- each live instance is of a target
abbrev pub Homes : (count : ℕ) → List Instance → Type 0
Homes count is = (n t : ℕ) → target_of n is ≡ Some t → t < count

-- no instance has the next number or a later one
abbrev pub Fresh : (next : ℕ) → List Instance → Type 0
Fresh next is = (n : ℕ) → next ≤ n → live n is ≡ None

-- How many instances have a number, and whether one is live

abbrev counts : ℕ → List Instance → ℕ
counts m is = count_by (λ i. i.number == m) is

-- 1 where an instance has the number
abbrev one : ℕ → Instance → ℕ
one m i = cond (i.number == m) 1 0

counts-cons : (m : ℕ) (i : Instance) (is : List Instance) → counts m (i ∷ is) ≡ one m i + counts m is
counts-cons m i is = sum_by-cons (one m) i is

some_one : (b : Bool) (i : Instance) (o : Option Instance) (c k : ℕ) → c ≡ cond b 1 0 + k → (0 < k → IsSome o) → 0 < c → IsSome (cond b (Some i) o)
some_one true i o c k e h lt = refl
some_one false i o c k e h lt = h (omega arith)

live-counted : (m : ℕ) (is : List Instance) → 0 < counts m is → IsLive m is
live-counted m [] lt = absurd (omega arith)
live-counted m (i ∷ is) lt = some_one (i.number == m) i (live m is) (counts m (i ∷ is)) (counts m is) (counts-cons m i is) (live-counted m is) lt

none_one : (b : Bool) (i : Instance) (o : Option Instance) (c k : ℕ) → c ≡ cond b 1 0 + k → (k ≡ 0 → o ≡ None) → c ≡ 0 → cond b (Some i) o ≡ None
none_one true i o c k e h z = absurd (omega arith)
none_one false i o c k e h z = h (omega arith)

live-uncounted : (m : ℕ) (is : List Instance) → counts m is ≡ 0 → live m is ≡ None
live-uncounted m [] z = refl
live-uncounted m (i ∷ is) z = none_one (i.number == m) i (live m is) (counts m (i ∷ is)) (counts m is) (counts-cons m i is) (live-uncounted m is) z

zero_one : (b : Bool) (i : Instance) (o : Option Instance) (c k : ℕ) → c ≡ cond b 1 0 + k → (o ≡ None → k ≡ 0) → cond b (Some i) o ≡ None → c ≡ 0
zero_one true i o c k e h f = absurd (cc f)
zero_one false i o c k e h f = omega (arith, h f)

counts-none : (m : ℕ) (is : List Instance) → live m is ≡ None → counts m is ≡ 0
counts-none m [] f = refl
counts-none m (i ∷ is) f = zero_one (i.number == m) i (live m is) (counts m (i ∷ is)) (counts m is) (counts-cons m i is) (counts-none m is) f

-- a live instance has its number
number_one : (b : Bool) (n : ℕ) (i : Instance) (o : Option Instance) → (i.number == n) ≡ b → (IsSome o → (unwrap_or o no_instance).number ≡ n) → IsSome (cond b (Some i) o) → (unwrap_or (cond b (Some i) o) no_instance).number ≡ n
number_one true n i o e h l = eqb-true i.number n e
number_one false n i o e h l = h l

number_at : (n : ℕ) (is : List Instance) → IsLive n is → (instance_at n is).number ≡ n
number_at n [] l = absurd (cc l)
number_at n (i ∷ is) l = number_one (i.number == n) n i (live n is) refl (number_at n is) l

some_at : (o : Option Instance) → IsSome o → o ≡ Some (unwrap_or o no_instance)
some_at (Some i) l = refl
some_at None l = absurd (cc l)

-- an instance that is live has a number below the next
pub lt-from_live : (next n : ℕ) (is : List Instance) → Fresh next is → IsLive n is → n < next
lt-from_live next n is fresh l = elim (cases_lt n next) [
  | inl lt ↦ lt
  | inr le ↦ (let none : is_some (live n is) ≡ false = ap (λ o. is_some o) (fresh n le) in absurd (cc (none, l)))
]

-- The same targets

some_by : (o u : Option Instance) → option_map (λ i. i.of) o ≡ option_map (λ i. i.of) u → IsSome u → IsSome o
some_by (Some i) u e h = refl
some_by None (Some j) e h = absurd (cc e)
some_by None None e h = h

none_by : (o u : Option Instance) → option_map (λ i. i.of) o ≡ option_map (λ i. i.of) u → u ≡ None → o ≡ None
none_by None u e h = refl
none_by (Some i) None e h = absurd (cc e)
none_by (Some i) (Some j) e h = absurd (cc h)

module _ (old new : List Instance) (same : (n : ℕ) → target_of n new ≡ target_of n old) where
  pub live-targets : (n : ℕ) → IsLive n old → IsLive n new
  live-targets n l = some_by (live n new) (live n old) (same n) l

  pub originals-targets : (count : ℕ) → Originals count old → Originals count new
  originals-targets count h n lt = live-targets n (h n lt)

  pub homes-targets : (count : ℕ) → Homes count old → Homes count new
  homes-targets count h n t e = h n t (sym (same n) ∙ e)

  pub fresh-targets : (next : ℕ) → Fresh next old → Fresh next new
  fresh-targets next h n le = none_by (live n new) (live n old) (same n) (h n le)

-- The same instances, of the same targets in the same order

counts-numbers : (m : ℕ) (is : List Instance) → counts m is ≡ count_by (λ k. k == m) (numbers is)
counts-numbers m [] = refl
counts-numbers m (i ∷ is) =
    counts-cons m i is ∙ ap (λ k. one m i + k) (counts-numbers m is) ∙ sym (sum_by-cons (λ k. cond (k == m) 1 0) i.number (numbers is))

module _ (old new : List Instance) (cast : IsSameCast old new) where
  counts-cast : (m : ℕ) → counts m new ≡ counts m old
  counts-cast m = counts-numbers m new ∙ ap (count_by (λ k. k == m)) cast.order ∙ sym (counts-numbers m old)

  pub originals-cast : (count : ℕ) → Originals count old → Originals count new
  originals-cast count h = originals-targets old new cast.targets count h

  pub homes-cast : (count : ℕ) → Homes count old → Homes count new
  homes-cast count h = homes-targets old new cast.targets count h

  pub fresh-cast : (next : ℕ) → Fresh next old → Fresh next new
  fresh-cast next h = fresh-targets old new cast.targets next h

  pub one_each-cast : HasOneEach old → HasOneEach new
  one_each-cast h m = omega (arith, h m, counts-cast m)

-- The first world

abbrev Layer : Type 0
Layer = ℕ × TargetRecord

abbrev firsts : List Layer → List Instance
firsts xs = map (λ x. original x.0 x.1) xs

abbrev first_of : Layer → Instance
first_of x = original x.0 x.1

-- an order does not change how many have a number
swapped : (m : ℕ) (t x : Layer) (xs ys : List Layer) → counts m (firsts ys) ≡ counts m (firsts (t ∷ xs)) → counts m (firsts (x ∷ ys)) ≡ counts m (firsts (t ∷ x ∷ xs))
swapped m t x xs ys e =
    let a = counts-cons m (first_of x) (firsts ys) in
    let b = counts-cons m (first_of t) (firsts xs) in
    let c = counts-cons m (first_of t) (firsts (x ∷ xs)) in
    let d = counts-cons m (first_of x) (firsts xs) in
    omega arith

layered_by : (a b : Bool) (m : ℕ) (t x : Layer) (xs ys : List Layer) → counts m (firsts ys) ≡ counts m (firsts (t ∷ xs))
    → counts m (firsts (cond a (t ∷ x ∷ xs) (cond b (x ∷ ys) (t ∷ x ∷ xs)))) ≡ counts m (firsts (t ∷ x ∷ xs))
layered_by true b m t x xs ys e = refl
layered_by false true m t x xs ys e = swapped m t x xs ys e
layered_by false false m t x xs ys e = refl

counts-layered : (m : ℕ) (t : Layer) (xs : List Layer) → counts m (firsts (layered t xs)) ≡ counts m (firsts (t ∷ xs))
counts-layered m t [] = refl
counts-layered m t (x ∷ xs) = layered_by t.1.is_stage (x.1.is_stage || less x.1.layer_order t.1.layer_order) m t x xs (layered t xs) (counts-layered m t xs)

counts-in_order : (m : ℕ) (ts : List Layer) → counts m (firsts (in_order ts)) ≡ counts m (firsts ts)
counts-in_order m [] = refl
counts-in_order m (t ∷ ts) =
    counts-layered m t (in_order ts) ∙ counts-cons m (first_of t) (firsts (in_order ts)) ∙ ap (λ k. one m (first_of t) + k) (counts-in_order m ts) ∙ sym (counts-cons m (first_of t) (firsts ts))

-- c instances have the number m where there is one for each of n numbers from k on
record IsNumbered (m k n c : ℕ) : Type 0 where
  pub under : m < k → c ≡ 0
  pub within : k ≤ m → m < k + n → c ≡ 1
  pub over : k + n ≤ m → c ≡ 0

numbered_one : (m k n c d : ℕ) (b : Bool) → (k == m) ≡ b → d ≡ cond b 1 0 + c → IsNumbered m (k + 1) n c → IsNumbered m k (suc n) d
numbered_one m k n c d true e f h =
    let same : k ≡ m = eqb-true k m e in
    record { under = λ lt. absurd (omega arith); within = λ le lt. omega (arith, h.under (omega arith)); over = λ le. absurd (omega arith) }
numbered_one m k n c d false e f h =
    let other : k ≢ m = eqb-false k m e in
    record { under = λ lt. omega (arith, h.under (omega arith)); within = λ le lt. omega (arith, h.within (omega arith) (omega arith)); over = λ le. omega (arith, h.over (omega arith)) }

counts-enumerated : (m k : ℕ) (ts : List TargetRecord) → IsNumbered m k (length ts) (counts m (firsts (enumerate_from k ts)))
counts-enumerated m k [] = record { under = λ lt. refl; within = λ le lt. absurd (omega arith); over = λ le. refl }
counts-enumerated m k (t ∷ ts) =
    numbered_one m k (length ts) (counts m (firsts (enumerate_from (k + 1) ts))) (counts m (firsts ((k, t) ∷ enumerate_from (k + 1) ts))) (k == m) refl
    (counts-cons m (original k t) (firsts (enumerate_from (k + 1) ts))) (counts-enumerated m (k + 1) ts)

counts-first : (m : ℕ) (ts : List TargetRecord) → IsNumbered m 0 (length ts) (counts m (first_instances ts))
counts-first m ts = subst (IsNumbered m 0 (length ts)) (sym (counts-in_order m (enumerate_from 0 ts))) (counts-enumerated m 0 ts)

-- an original is of the target of its number
own_one : (b : Bool) (n t : ℕ) (x : Layer) (o : Option Instance) → (x.0 == n) ≡ b → (option_map (λ i. i.of) o ≡ Some t → t ≡ n) → option_map (λ i. i.of) (cond b (Some (first_of x)) o) ≡ Some t → t ≡ n
own_one true n t x o e h f = sym (same_Some x.0 t f) ∙ eqb-true x.0 n e
own_one false n t x o e h f = h f

own_target : (n t : ℕ) (xs : List Layer) → target_of n (firsts xs) ≡ Some t → t ≡ n
own_target n t [] f = absurd (cc f)
own_target n t (x ∷ xs) f = own_one (x.0 == n) n t x (live n (firsts xs)) refl (own_target n t xs) f

pub originals-first : (ts : List TargetRecord) → Originals (length ts) (first_instances ts)
originals-first ts n lt = live-counted n (first_instances ts) (omega (arith, (counts-first n ts).within (omega arith) (omega arith)))

pub fresh-first : (ts : List TargetRecord) → Fresh (length ts) (first_instances ts)
fresh-first ts n le = live-uncounted n (first_instances ts) ((counts-first n ts).over (omega arith))

pub homes-first : (ts : List TargetRecord) → Homes (length ts) (first_instances ts)
homes-first ts n t e =
    let own : t ≡ n = own_target n t (in_order (enumerate_from 0 ts)) e in
    elim (cases_lt n (length ts)) [
      | inl lt ↦ omega arith
      | inr le ↦ (let none : option_map (λ i. i.of) (live n (first_instances ts)) ≡ None = ap (option_map (λ i. i.of)) (fresh-first ts n le) in absurd (cc (none, e)))
    ]

pub one_each-first : (ts : List TargetRecord) → HasOneEach (first_instances ts)
one_each-first ts m = elim (cases_lt m (length ts)) [
  | inl lt ↦ omega (arith, (counts-first m ts).within (omega arith) (omega arith))
  | inr le ↦ omega (arith, (counts-first m ts).over (omega arith))
]

-- Stopping everything

cleared_keeps : KeepsCast cleared
cleared_keeps = record { number = λ i. refl; of = λ i. refl }

counts_one : (b : Bool) (i : Instance) (m : ℕ) (rest all : List Instance) → counts m rest ≤ counts m all → counts m (cond b (i ∷ rest) rest) ≤ counts m (i ∷ all)
counts_one true i m rest all h = omega (arith, counts-cons m i rest, counts-cons m i all)
counts_one false i m rest all h = omega (arith, counts-cons m i all)

counts-filter : (m : ℕ) (p : Instance → Bool) (is : List Instance) → counts m (filter p is) ≤ counts m is
counts-filter m p [] = omega arith
counts-filter m p (i ∷ is) = counts_one (p i) i m (filter p is) is (counts-filter m p is)

filter_one : (a b : Bool) (n : ℕ) (i : Instance) (rest : List Instance) → (i.number == n) ≡ a → (a ≡ true → b ≡ false) → live n rest ≡ None → live n (cond b (i ∷ rest) rest) ≡ None
filter_one a false n i rest e h f = f
filter_one true true n i rest e h f = absurd (let g = h refl in cc g)
filter_one false true n i rest e h f = rw e f

-- where none of a number is kept, none of it is live
live-filter_out : (n : ℕ) (p : Instance → Bool) (is : List Instance) → ((i : Instance) → i.number ≡ n → p i ≡ false) → live n (filter p is) ≡ None
live-filter_out n p [] h = refl
live-filter_out n p (i ∷ is) h = filter_one (i.number == n) (p i) n i (filter p is) refl (λ e. h i (eqb-true i.number n e)) (live-filter_out n p is h)

abbrev is_kept : (count : ℕ) → Instance → Bool
is_kept count i = not (not (nat_lt i.number count))

abbrev kept : (count : ℕ) → List Instance → List Instance
kept count is = filter (is_kept count) is

-- what stopping everything leaves: the originals, cleared
abbrev pub stopped : (count : ℕ) → List Instance → List Instance
stopped count is = map cleared (filter (λ i. not (not (nat_lt i.number count))) is)

kept_below : (count : ℕ) (is : List Instance) (n : ℕ) → n < count → live n (kept count is) ≡ live n is
kept_below count is n lt = live-filter n (is_kept count) is (λ i e. (let below : nat_lt i.number count ≡ true = lt-ltb i.number count (omega arith) in rw below refl))

kept_above : (count : ℕ) (is : List Instance) (n : ℕ) → count ≤ n → live n (kept count is) ≡ None
kept_above count is n le = live-filter_out n (is_kept count) is (λ i e. (let above : nat_lt i.number count ≡ false = le-ltb i.number count (omega arith) in rw above refl))

cast-stopped : (count : ℕ) (is : List Instance) → IsSameCast (kept count is) (stopped count is)
cast-stopped count is = cast-map cleared cleared_keeps (kept count is)

pub is_live-stopped : (count : ℕ) (is : List Instance) (n : ℕ) → n < count → IsLive n is → IsLive n (stopped count is)
is_live-stopped count is n lt l = (cast-stopped count is).live n (subst (λ (o : Option Instance). IsSome o) (sym (kept_below count is n lt)) l)

pub originals-stopped : (count : ℕ) (is : List Instance) → Originals count is → Originals count (stopped count is)
originals-stopped count is h n lt = is_live-stopped count is n lt (h n lt)

kept_homes : (count : ℕ) (is : List Instance) → Homes count is → Homes count (kept count is)
kept_homes count is h n t e = elim (cases_lt n count) [
  | inl lt ↦ h n t (ap (option_map (λ i. i.of)) (sym (kept_below count is n lt)) ∙ e)
  | inr le ↦ (let none : option_map (λ i. i.of) (live n (kept count is)) ≡ None = ap (option_map (λ i. i.of)) (kept_above count is n le) in absurd (cc (none, e)))
]

pub homes-stopped : (count : ℕ) (is : List Instance) → Homes count is → Homes count (stopped count is)
homes-stopped count is h = homes-cast (kept count is) (stopped count is) (cast-stopped count is) count (kept_homes count is h)

kept_fresh : (count : ℕ) (is : List Instance) (next : ℕ) → Fresh next is → Fresh next (kept count is)
kept_fresh count is next h n le = elim (cases_lt n count) [
  | inl lt ↦ kept_below count is n lt ∙ h n le
  | inr ge ↦ kept_above count is n ge
]

pub fresh-stopped : (count : ℕ) (is : List Instance) (next : ℕ) → Fresh next is → Fresh next (stopped count is)
fresh-stopped count is next h = fresh-cast (kept count is) (stopped count is) (cast-stopped count is) next (kept_fresh count is next h)

pub one_each-stopped : (count : ℕ) (is : List Instance) → HasOneEach is → HasOneEach (stopped count is)
one_each-stopped count is h = one_each-cast (kept count is) (stopped count is) (cast-stopped count is) (λ m. omega (arith, h m, counts-filter m (is_kept count) is))

-- An instance is taken out

abbrev place_of : ℕ → List Instance → Option ℕ
place_of n is = position (λ (i : Instance). i.number == n) is

abbrev without : ℕ → List Instance → List Instance
without n is = first_removed (λ i. i.number == n) is

without_is : (n : ℕ) (is : List Instance) (o : Option ℕ) → place_of n is ≡ o → without n is ≡ removed_at o is
without_is n is o p = ap (λ q. removed_at q is) p

live_by : (m n : ℕ) (is : List Instance) (o : Option ℕ) → place_of n is ≡ o → m ≢ n → live m (without n is) ≡ live m is
live_by m n is (Some k) p ne = ap (live m) (without_is n is (Some k) p) ∙ live-removed m n is k no_instance p ne
live_by m n is None p ne = ap (live m) (without_is n is None p)

-- all others are found as before
pub live-without : (m n : ℕ) (is : List Instance) → m ≢ n → live m (first_removed (λ i. i.number == n) is) ≡ live m is
live-without m n is ne = live_by m n is (place_of n is) refl ne

pub is_live-without : (m n : ℕ) (is : List Instance) → m ≢ n → IsLive m is → IsLive m (first_removed (λ i. i.number == n) is)
is_live-without m n is ne l = subst (λ (o : Option Instance). IsSome o) (sym (live-without m n is ne)) l

counts_by : (m n : ℕ) (is : List Instance) (o : Option ℕ) → place_of n is ≡ o → IsLive n is → counts m (without n is) + cond (n == m) 1 0 ≡ counts m is
counts_by m n is (Some k) p l =
    let at = position-Some (λ (i : Instance). i.number == n) is k no_instance p in
    let own : (get_or is k no_instance).number ≡ n = eqb-true _ n at.1 in
    ap (λ (js : List Instance). counts m js + cond (n == m) 1 0) (without_is n is (Some k) p)
    ∙ ap (λ j. counts m (remove is k) + cond (j == m) 1 0) (sym own)
    ∙ sum_by-remove (one m) is k no_instance at.0
counts_by m n is None p l = absurd (live_is_placed n is l p)

-- one fewer has its number
counts-without : (m n : ℕ) (is : List Instance) → IsLive n is → counts m (without n is) + cond (n == m) 1 0 ≡ counts m is
counts-without m n is l = counts_by m n is (place_of n is) refl l

at_most : (m n : ℕ) (is : List Instance) (o : Option ℕ) → place_of n is ≡ o → counts m (without n is) ≤ counts m is
at_most m n is (Some k) p =
    let at = position-Some (λ (i : Instance). i.number == n) is k no_instance p in
    let same : counts m (without n is) ≡ counts m (remove is k) = ap (counts m) (without_is n is (Some k) p) in
    omega (arith, same, sum_by-remove (one m) is k no_instance at.0)
at_most m n is None p = let same : counts m (without n is) ≡ counts m is = ap (counts m) (without_is n is None p) in omega (arith, same)

gone_by : (n : ℕ) (is : List Instance) (o : Option ℕ) → place_of n is ≡ o → HasOneEach is → live n (without n is) ≡ None
gone_by n is (Some k) p h =
    let at = position-Some (λ (i : Instance). i.number == n) is k no_instance p in
    let same : counts n (without n is) ≡ counts n (remove is k) = ap (counts n) (without_is n is (Some k) p) in
    let own : one n (get_or is k no_instance) ≡ 1 = ap (λ b. cond b 1 0) at.1 in
    live-uncounted n (without n is) (omega (arith, same, own, h n, sum_by-remove (one n) is k no_instance at.0))
gone_by n is None p h = ap (live n) (without_is n is None p) ∙ find_none (λ (i : Instance). i.number == n) is p

-- where no other has its number, it is no longer live
pub live-without_self : (n : ℕ) (is : List Instance) → HasOneEach is → live n (first_removed (λ i. i.number == n) is) ≡ None
live-without_self n is h = gone_by n is (place_of n is) refl h

module _ (n : ℕ) (is : List Instance) (h : HasOneEach is) where
  pub originals-without : (count : ℕ) → count ≤ n → Originals count is → Originals count (first_removed (λ i. i.number == n) is)
  originals-without count clone all m lt = is_live-without m n is (λ (e : m ≡ n). omega arith) (all m lt)

  pub homes-without : (count : ℕ) → Homes count is → Homes count (first_removed (λ i. i.number == n) is)
  homes-without count all m t e = elim (cases_eq m n) [
    | inl same ↦ (let none : option_map (λ i. i.of) (live m (without n is)) ≡ None = ap (option_map (λ i. i.of)) (ap (λ k. live k (without n is)) same ∙ live-without_self n is h) in absurd (cc (none, e)))
    | inr other ↦ all m t (ap (option_map (λ i. i.of)) (sym (live-without m n is other)) ∙ e)
  ]

  pub fresh-without : (next : ℕ) → Fresh next is → Fresh next (first_removed (λ i. i.number == n) is)
  fresh-without next all m le = elim (cases_eq m n) [
    | inl same ↦ ap (λ k. live k (without n is)) same ∙ live-without_self n is h
    | inr other ↦ live-without m n is other ∙ all m le
  ]

  pub one_each-without : HasOneEach (first_removed (λ i. i.number == n) is)
  one_each-without m = omega (arith, h m, at_most m n is (place_of n is) refl)

-- A clone is added

pub is_live-pushed : (m : ℕ) (is : List Instance) (x : Instance) → IsLive m is → IsLive m (is ++ x ∷ [])
is_live-pushed m is x l = subst (λ (o : Option Instance). IsSome o) (sym (live-pushed m is x l)) l

or_own : (o q : Option Instance) → o ≡ None → option_or o q ≡ q
or_own None q e = refl
or_own (Some i) q e = absurd (cc e)

-- where none of a number was live, the one that is added is the one that can be
pushed_none : (m : ℕ) (is : List Instance) (x : Instance) → live m is ≡ None → live m (is ++ x ∷ []) ≡ cond (x.number == m) (Some x) None
pushed_none m is x e = find-append (λ (i : Instance). i.number == m) is (x ∷ []) ∙ or_own (live m is) (live m (x ∷ [])) e

pushed_target : (b : Bool) (x : Instance) (t : ℕ) → option_map (λ i. i.of) (cond b (Some x) None) ≡ Some t → x.of ≡ t
pushed_target true x t e = same_Some x.of t e
pushed_target false x t e = absurd (cc e)

module _ (o next : ℕ) (is : List Instance) (from : IsLive o is) where
  abbrev clone : Instance
  clone = copied next (instance_at o is)

  -- the clone is live
  pub is_live-cloned : Fresh next is → IsLive next (is ++ copied next (instance_at o is) ∷ [])
  is_live-cloned fresh =
      let own : (next == next) ≡ true = eq-eqb next next refl in
      ap (λ o. is_some o) (pushed_none next is clone (fresh next (omega arith))) ∙ ap (λ b. is_some (cond b (Some clone) None)) own

  pub originals-cloned : (count : ℕ) → Originals count is → Originals count (is ++ copied next (instance_at o is) ∷ [])
  originals-cloned count h n lt = is_live-pushed n is clone (h n lt)

  home_of : (count : ℕ) → Homes count is → (instance_at o is).of < count
  home_of count h = h o (instance_at o is).of (ap (option_map (λ i. i.of)) (some_at (live o is) from))

  home_by : (count : ℕ) → Homes count is → (n t : ℕ) (q : Option Instance) → live n is ≡ q → target_of n (is ++ clone ∷ []) ≡ Some t → t < count
  home_by count h n t (Some i) e f =
      let l : IsLive n is = subst (λ (u : Option Instance). IsSome u) (sym e) refl in
      h n t (ap (option_map (λ j. j.of)) (sym (live-pushed n is clone l)) ∙ f)
  home_by count h n t None e f =
      let own : clone.of ≡ t = pushed_target (next == n) clone t (ap (option_map (λ j. j.of)) (sym (pushed_none n is clone e)) ∙ f) in
      omega (arith, own, home_of count h)

  pub homes-cloned : (count : ℕ) → Homes count is → Homes count (is ++ copied next (instance_at o is) ∷ [])
  homes-cloned count h n t e = home_by count h n t (live n is) refl e

  pub fresh-cloned : Fresh next is → Fresh (next + 1) (is ++ copied next (instance_at o is) ∷ [])
  fresh-cloned h n le =
      let other : (next == n) ≡ false = ne_eqb next n (λ (e : next ≡ n). omega arith) in
      pushed_none n is clone (h n (omega arith)) ∙ ap (λ b. cond b (Some clone) None) other

  pub one_each-cloned : Fresh next is → HasOneEach is → HasOneEach (is ++ copied next (instance_at o is) ∷ [])
  one_each-cloned fresh h m = elim (cases_eq next m) [
    | inl same ↦ (let none : counts m is ≡ 0 = counts-none m is (fresh m (omega arith)) in
        let is_one : one m clone ≡ 1 = rw (eq-eqb next m same) refl in
        omega (arith, none, is_one, sum_by_push (one m) is clone))
    | inr other ↦ (let is_zero : one m clone ≡ 0 = rw (ne_eqb next m other) refl in
        omega (arith, h m, is_zero, sum_by_push (one m) is clone))
  ]

-- A clone is put behind another

or_none : (o q : Option Instance) → option_or o q ≡ None → o ≡ None
or_none None q e = refl
or_none (Some i) q e = absurd (cc e)

split_at : (m : ℕ) (is : List Instance) (k : ℕ) → live m is ≡ option_or (live m (take k is)) (live m (drop k is))
split_at m is k = ap (live m) (sym (take-append-drop k is)) ∙ find-append (λ (i : Instance). i.number == m) (take k is) (drop k is)

insert_at : (m : ℕ) (is : List Instance) (k : ℕ) (x : Instance) → live m (insert is k x) ≡ option_or (live m (take k is)) (cond (x.number == m) (Some x) (live m (drop k is)))
insert_at m is k x = find-append (λ (i : Instance). i.number == m) (take k is) (x ∷ drop k is)

-- another number is found as before, and the number of the one put in at it
insert_other : (m : ℕ) (is : List Instance) (k : ℕ) (x : Instance) → (x.number == m) ≡ false → live m (insert is k x) ≡ live m is
insert_other m is k x e =
    insert_at m is k x ∙ ap (λ b. option_or (live m (take k is)) (cond b (Some x) (live m (drop k is)))) e ∙ sym (split_at m is k)

insert_own : (m : ℕ) (is : List Instance) (k : ℕ) (x : Instance) → (x.number == m) ≡ true → live m is ≡ None → live m (insert is k x) ≡ Some x
insert_own m is k x e none =
    insert_at m is k x ∙ ap (λ b. option_or (live m (take k is)) (cond b (Some x) (live m (drop k is)))) e
    ∙ or_own (live m (take k is)) (Some x) (or_none (live m (take k is)) (live m (drop k is)) (sym (split_at m is k) ∙ none))

module _ (clone original : ℕ) (is : List Instance) (has : IsLive clone is) (h : HasOneEach is) (there : IsLive original is) (apart : original ≢ clone) where
  abbrev x : Instance
  x = instance_at clone is

  abbrev rest : List Instance
  rest = first_removed (λ i. i.number == clone) is

  own : x.number ≡ clone
  own = number_at clone is has

  behind : IsLive original rest
  behind = is_live-without original clone is apart there

  live_at : (m k : ℕ) (b : Bool) → (x.number == m) ≡ b → live m (insert rest k x) ≡ live m is
  live_at m k true e =
      let same : clone ≡ m = sym own ∙ eqb-true x.number m e in
      let none : live m rest ≡ None = ap (λ j. live j rest) (sym same) ∙ live-without_self clone is h in
      insert_own m rest k x e none ∙ sym (some_at (live clone is) has) ∙ ap (λ j. live j is) same
  live_at m k false e =
      let ne = eqb-false x.number m e in
      insert_other m rest k x e ∙ live-without m clone is (λ (p : m ≡ clone). ne (own ∙ sym p))

  live_placed : (m : ℕ) (o : Option ℕ) → place_of original rest ≡ o → live m (placed_behind clone original is) ≡ live m is
  live_placed m (Some k) p = ap (live m) (inserted_behind_is x original rest k p) ∙ live_at m k (x.number == m) refl
  live_placed m None p = absurd (live_is_placed original rest behind p)

  -- all are found as before
  pub live-behind : (m : ℕ) → live m (placed_behind clone original is) ≡ live m is
  live-behind m = live_placed m (place_of original rest) refl

  pub target-behind : (m : ℕ) → target_of m (placed_behind clone original is) ≡ target_of m is
  target-behind m = ap (option_map (λ i. i.of)) (live-behind m)

  pub is_live-behind : (m : ℕ) → IsLive m is → IsLive m (placed_behind clone original is)
  is_live-behind m l = live-targets is (placed_behind clone original is) target-behind m l

  pub originals-behind : (count : ℕ) → Originals count is → Originals count (placed_behind clone original is)
  originals-behind count all = originals-targets is (placed_behind clone original is) target-behind count all

  pub homes-behind : (count : ℕ) → Homes count is → Homes count (placed_behind clone original is)
  homes-behind count all = homes-targets is (placed_behind clone original is) target-behind count all

  pub fresh-behind : (next : ℕ) → Fresh next is → Fresh next (placed_behind clone original is)
  fresh-behind next all = fresh-targets is (placed_behind clone original is) target-behind next all

  counts_placed : (m : ℕ) (o : Option ℕ) → place_of original rest ≡ o → counts m (placed_behind clone original is) ≡ counts m is
  counts_placed m (Some k) p =
      ap (counts m) (inserted_behind_is x original rest k p) ∙ sum_by-insert (one m) rest k x
      ∙ ap (λ j. counts m rest + cond (j == m) 1 0) own ∙ counts-without m clone is has
  counts_placed m None p = absurd (live_is_placed original rest behind p)

  pub one_each-behind : HasOneEach (placed_behind clone original is)
  one_each-behind m = omega (arith, h m, counts_placed m (place_of original rest) refl)
