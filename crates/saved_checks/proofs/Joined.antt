-- What is tested of the parts of a text is what the rules say of the run that it tells.
use Rattle.std.proofs.Common.{◌≡◌, ℕ, suc, ◌<◌, ◌==◌, Bool, true, false, cond, ◌&&◌, ◌||◌, not, List, [], ◌∷◌, length, map, reverse, Some, refl, sym, ap, ◌∙◌, arith}
use Rattle.std.specs.Prelude.{filter, find, unwrap_or, slice_get, nat_le, nat_lt}
use Rattle.std.specs.List.{list_all, range_with_len}
use Rattle.std.specs.Option.{option_map_or}
use Rattle.std.proofs.lemmas.Bool.{eqb-true, ltb-true}
use Rattle.std.proofs.lemmas.List.{reverse-append}
use Rattle.std.proofs.lemmas.List.Folds.{list_all-map, list_all-append}
use Rattle.machine_spec.specs.declared.variables.Store.{Store}
use Rattle.machine_spec.specs.Program.{record_at}
use Rattle.machine_spec.specs.Stores.{is_original, store_at, is_on_stage}
use Rattle.saved_spec.specs.RunShapes.{store_among, stores_in_order}
use Rattle.project_spec.specs.Basis.{Basis, records_of}
use Rattle.saved_spec.specs.Rules as rules
use Rattle.saved_spec.specs.Rules.{differ}
use Rattle.saved_checks.specs.Originals.{originals_of}
use Rattle.saved_parts.specs.declared.run.ToldRun.{ToldRun}
use Rattle.saved_parts.specs.declared.instances.ToldInstance.{ToldInstance}
use Rattle.saved_parts.specs.Telling.{instance_of, told_of}

-- Lists

pub map-map : {A B D : Type 0} (f : B → D) (g : A → B) (xs : List A) → map f (map g xs) ≡ map (λ x. f (g x)) xs
map-map f g [] = refl
map-map f g (x ∷ xs) = ap (λ ys. f (g x) ∷ ys) (map-map f g xs)

-- a test of what each item tells
pub mapped : {A B : Type 0} (f : B → Bool) (g : A → B) (told items : List A) (b : Bool) → items ≡ told → b ≡ list_all (λ x. f (g x)) items → b ≡ list_all f (map g told)
mapped f g told items b e h = h ∙ ap (list_all (λ x. f (g x))) e ∙ sym (list_all-map f g told)

and-swap : (x y : Bool) → (x && y) ≡ (y && x)
and-swap true true = refl
and-swap true false = refl
and-swap false true = refl
and-swap false false = refl

and-id : (x : Bool) → (x && true) ≡ x
and-id true = refl
and-id false = refl

pub all-reverse : {A : Type 0} (f : A → Bool) (xs : List A) → list_all f (reverse xs) ≡ list_all f xs
all-reverse f [] = refl
all-reverse f (x ∷ xs) =
    ap (list_all f) (reverse-append (x ∷ []) xs) ∙ list_all-append f (reverse xs) (x ∷ [])
    ∙ ap (λ t. t && (f x && true)) (all-reverse f xs) ∙ ap (λ t. list_all f xs && t) (and-id (f x)) ∙ and-swap (list_all f xs) (f x)

-- Stores stand by the numbers of their instances, whatever is tested of each

and-turn : (x y z : Bool) → (x && (y && z)) ≡ (y && (x && z))
and-turn true true z = refl
and-turn true false z = refl
and-turn false true z = refl
and-turn false false z = refl

module _ (f : Store → Bool) where
  among : (s : Store) (ts : List Store) → list_all f (store_among s ts) ≡ (f s && list_all f ts)
  among s [] = refl
  among s (t ∷ ts) = by (nat_lt t.of s.of) (among s ts)
    where
      by : (b : Bool) → list_all f (store_among s ts) ≡ (f s && list_all f ts) → list_all f (cond b (t ∷ store_among s ts) (s ∷ t ∷ ts)) ≡ (f s && (f t && list_all f ts))
      by true h = ap (λ x. f t && x) h ∙ and-turn (f t) (f s) (list_all f ts)
      by false h = refl

  pub all-in-order : (ss : List Store) → list_all f (stores_in_order ss) ≡ list_all f ss
  all-in-order [] = refl
  all-in-order (s ∷ ss) = among s (stores_in_order ss) ∙ ap (λ x. f s && x) (all-in-order ss)

-- and the first of a number is the first

none-of-two : (n m k : ℕ) → nat_lt n m ≡ true → (n == k) ≡ true → (m == k) ≡ false
none-of-two n m k h e = let lt : n < m = ltb-true n m h in let same : n ≡ k = eqb-true n k e in apart (m == k) refl
  where
    apart : (b : Bool) → (m == k) ≡ b → b ≡ false
    apart false p = refl
    apart true p = let f : m ≡ k = eqb-true m k p in let lt : n < m = ltb-true n m h in let same : n ≡ k = eqb-true n k e in absurd (omega arith)

module _ (n : ℕ) where
  find-among : (s : Store) (ts : List Store) → find (λ s. s.of == n) (store_among s ts) ≡ find (λ s. s.of == n) (s ∷ ts)
  find-among s [] = refl
  find-among s (t ∷ ts) = by (nat_lt t.of s.of) (t.of == n) refl refl (find-among s ts)
    where
      by : (b c : Bool) → nat_lt t.of s.of ≡ b → (t.of == n) ≡ c → find (λ s. s.of == n) (store_among s ts) ≡ find (λ s. s.of == n) (s ∷ ts)
          → find (λ s. s.of == n) (cond b (t ∷ store_among s ts) (s ∷ t ∷ ts)) ≡ find (λ s. s.of == n) (s ∷ t ∷ ts)
      by false c p e h = refl
      by true true p e h = rw (e, none-of-two t.of s.of n p e) refl
      by true false p e h = rw e h

  find-in-order : (ss : List Store) → find (λ s. s.of == n) (stores_in_order ss) ≡ find (λ s. s.of == n) ss
  find-in-order [] = refl
  find-in-order (s ∷ ss) = find-among s (stores_in_order ss) ∙ ap (cond (s.of == n) (Some s)) (find-in-order ss)

  pub store-in-order : (ss : List Store) → store_at n (stores_in_order ss) ≡ store_at n ss
  store-in-order ss = ap (λ o. unwrap_or o (record { of = n; values = []; lists = [] })) (find-in-order ss)

-- Instances

filter-told : {A B : Type 0} (f : B → Bool) (g : A → B) (xs : List A) → length (filter f (map g xs)) ≡ length (filter (λ x. f (g x)) xs)
filter-told f g [] = refl
filter-told f g (x ∷ xs) = by (f (g x)) (filter-told f g xs)
  where
    by : (b : Bool) → length (filter f (map g xs)) ≡ length (filter (λ x. f (g x)) xs)
        → length (cond b (g x ∷ filter f (map g xs)) (filter f (map g xs))) ≡ length (cond b (x ∷ filter (λ x. f (g x)) xs) (filter (λ x. f (g x)) xs))
    by true h = ap suc h
    by false h = h

first-of : (b : Basis) (is : List ToldInstance) → option_map_or (λ i. (record_at i.of (records_of b)).is_stage) (slice_get is 0) false ≡ option_map_or (λ i. is_on_stage i (records_of b)) (slice_get (map instance_of is) 0) false
first-of b [] = refl
first-of b (i ∷ is) = refl

module _ (b : Basis) (r : ToldRun) (is : List ToldInstance) where
  pub first-told : (x : Bool) → is ≡ r.instances → x ≡ option_map_or (λ i. (record_at i.of (records_of b)).is_stage) (slice_get is 0) false → x ≡ rules.stage_is_first b (told_of r)
  first-told x e h = h ∙ ap (λ js. option_map_or (λ i. (record_at i.of (records_of b)).is_stage) (slice_get js 0) false) e ∙ first-of b r.instances

  pub originals-told : (n : ℕ) (x : Bool) → is ≡ r.instances → n ≡ length (records_of b).targets
      → x ≡ list_all (λ k. originals_of k is == 1) (range_with_len 0 n) → x ≡ rules.originals_are_there b (told_of r)
  originals-told n x e f h =
      let each : rules.originals_are_there b (told_of r) ≡ list_all (λ k. originals_of k r.instances == 1) (range_with_len 0 (length (records_of b).targets))
      = λ j. list_all (λ k. filter-told (λ i. i.of == k && is_original i) instance_of r.instances j == 1) (range_with_len 0 (length (records_of b).targets)) in
      h ∙ (λ j. list_all (λ k. originals_of k (e j) == 1) (range_with_len 0 (f j))) ∙ sym each

  pub numbers-told : (x : Bool) → is ≡ r.instances
      → x ≡ (list_all (λ i. ((i.number == i.of) && nat_lt i.of (length (records_of b).targets)) || (rules.is_sprite b i.of && nat_le (length (records_of b).targets) i.number && nat_lt i.number r.next.instance)) is
      && differ (map (λ i. i.number) is))
      → x ≡ rules.clones_are_sprites b (told_of r)
  numbers-told x e h =
      let each : rules.clones_are_sprites b (told_of r)
      ≡ (list_all (λ i. ((i.number == i.of) && nat_lt i.of (length (records_of b).targets)) || (rules.is_sprite b i.of && nat_le (length (records_of b).targets) i.number && nat_lt i.number r.next.instance)) r.instances
      && differ (map (λ i. i.number) r.instances))
      = λ j. list_all-map (λ i. (is_original i && nat_lt i.of (length (records_of b).targets)) || rules.is_clone b (told_of r) i) instance_of r.instances j
      && differ (map-map (λ i. i.number) instance_of r.instances j) in
      h ∙ (λ j. list_all (λ i. ((i.number == i.of) && nat_lt i.of (length (records_of b).targets)) || (rules.is_sprite b i.of && nat_le (length (records_of b).targets) i.number && nat_lt i.number r.next.instance)) (e j)
      && differ (map (λ i. i.number) (e j))) ∙ sym each

pub clones-told : (r : ToldRun) (is : List ToldInstance) (x : Bool) → is ≡ r.instances → x ≡ nat_le (length (filter (λ i. not (i.number == i.of)) is)) 300 → x ≡ rules.clones_are_few (told_of r)
clones-told r is x e h =
    h ∙ ap (λ js. nat_le (length (filter (λ i. not (i.number == i.of)) js)) 300) e
    ∙ ap (λ n. nat_le n 300) (sym (filter-told (λ i. not (is_original i)) instance_of r.instances))
