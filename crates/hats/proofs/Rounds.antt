-- The rounds of a start, and instances whose target is not there.
use Rattle.std.proofs.Common.{◌≡◌, ℕ, suc, ◌+◌, ◌≤◌, Bool, true, false, cond, List, [], ◌∷◌, ◌++◌, length, map, option_map, reverse, Some, None, refl, sym, ap, ◌∙◌, arith}
use Rattle.std.specs.Prelude.{filter, flat_map, unwrap_or, nat_lt}
use Rattle.std.specs.List.{enumerate_from}
use Rattle.std.specs.Option.{option_map_or}
use Rattle.std.proofs.lemmas.List.{length-map, reverse-append, append-nil}
use Rattle.std.proofs.lemmas.List.Concat.{flat_map-cons}
use Rattle.std.proofs.lemmas.List.Elements.{filter-append}
use Rattle.std.proofs.lemmas.Option.{slice_get_past}
use Rattle.opcode_table.specs.declared.opcode.Opcode.{Opcode}
use Rattle.machine_spec.specs.declared.instance.Instance.{Instance}
use Rattle.machine_spec.specs.Script.{Statement}
use Rattle.machine_spec.specs.declared.threads.Filter.{Filter}
use Rattle.machine_spec.specs.declared.threads.Filter.TheVariants.{Broadcast, Backdrop, Key, Flag, CloneStart, Clicked}
use Rattle.machine_spec.specs.Program.{Scripts}
use Rattle.machine_spec.specs.Starting.{meant, pairs_of}
use Rattle.project_spec.specs.Trees.{scripts_of, sheet_of, sheets}
use Rattle.hat_index.specs.ByIndex.{Asked, first_asked, second_asked}
use Rattle.hat_index.specs.Hats.{Index}
use Rattle.project_check.specs.declared.project.Project.{Project}
use Rattle.project_check.specs.Loaded.{tables_of, names_of, program_of}
use Rattle.hats.specs.Fitting.{is_meant}
use Rattle.hats.specs.Indexed.{hats_of, hats_among}
use Rattle.hats.specs.Rounds.{hats_of_round}

-- Lists

module _ {A : Type 0} where
  filter_all : (xs : List A) → filter (λ x. true) xs ≡ xs
  filter_all [] = refl
  filter_all (x ∷ xs) = ap (λ ys. x ∷ ys) (filter_all xs)

  last_first : (x : A) (xs : List A) → reverse (x ∷ xs) ≡ reverse xs ++ x ∷ []
  last_first x xs = reverse-append (x ∷ []) xs

  filter_one : (test : A → Bool) (b : Bool) (x : A) (xs : List A) → test x ≡ b → reverse (cond b (x ∷ xs) xs) ≡ reverse xs ++ filter test (x ∷ [])
  filter_one test true x xs e = rw e (last_first x xs)
  filter_one test false x xs e = rw e (sym (append-nil (reverse xs)))

  filter_reverse : (test : A → Bool) (xs : List A) → reverse (filter test xs) ≡ filter test (reverse xs)
  filter_reverse test [] = refl
  filter_reverse test (x ∷ xs) =
      filter_one test (test x) x (filter test xs) refl
      ∙ ap (λ ys. ys ++ filter test (x ∷ [])) (filter_reverse test xs)
      ∙ sym (filter-append test (reverse xs) (x ∷ []))
      ∙ ap (filter test) (sym (last_first x xs))

  module _ {B : Type 0} where
    where_one : (test : A → Bool) (f : A → List B) (b : Bool) (x : A) (xs : List A) → flat_map f (cond b (x ∷ xs) xs) ≡ cond b (f x) [] ++ flat_map f xs
    where_one test f true x xs = flat_map-cons f x xs
    where_one test f false x xs = refl

    flat_map_where : (test : A → Bool) (f : A → List B) (xs : List A) → flat_map f (filter test xs) ≡ flat_map (λ x. cond (test x) (f x) []) xs
    flat_map_where test f [] = refl
    flat_map_where test f (x ∷ xs) =
        where_one test f (test x) x (filter test xs)
        ∙ ap (λ ys. cond (test x) (f x) [] ++ ys) (flat_map_where test f xs)
        ∙ sym (flat_map-cons (λ y. cond (test y) (f y) []) x xs)

-- The instances that a filter speaks of

meant_is : (f : Filter) (is : List Instance) → meant f is ≡ filter (is_meant f) is
meant_is (Broadcast message) is = sym (filter_all is)
meant_is (Backdrop costume) is = sym (filter_all is)
meant_is (Key name) is = sym (filter_all is)
meant_is Flag is = sym (filter_all is)
meant_is (CloneStart clone) is = refl
meant_is (Clicked instance) is = refl

-- a round starts the hats that have what it asks
round_is : (index : Index) (f : Filter) (a : Asked) (is : List Instance) → hats_of_round index f a is ≡ hats_among index a (meant f is)
round_is index f a is =
    sym (flat_map_where (is_meant f) (hats_of index a) (reverse is))
    ∙ ap (flat_map (hats_of index a)) (sym (filter_reverse (is_meant f) is))
    ∙ ap (λ js. flat_map (hats_of index a) (reverse js)) (sym (meant_is f is))

-- the first
pub first_round : (index : Index) (f : Filter) (a : Asked) (is : List Instance) → a ≡ first_asked f → hats_of_round index f a is ≡ hats_among index (first_asked f) (meant f is)
first_round index f a is e = round_is index f a is ∙ ap (λ x. hats_among index x (meant f is)) e

-- the second, which only a click has

second_is : (f : Filter) (op : Opcode) → option_map (λ (a : Asked). a.opcode) (second_asked f) ≡ Some op → second_asked f ≡ Some (record { opcode = op; folded = [] })
second_is (Clicked instance) op e = ap (option_map (λ (o : Opcode). record { opcode = o; folded = [] })) e
second_is (Broadcast message) op e = absurd (cc e)
second_is (Backdrop costume) op e = absurd (cc e)
second_is (Key name) op e = absurd (cc e)
second_is Flag op e = absurd (cc e)
second_is (CloneStart clone) op e = absurd (cc e)

pub second_round : (index : Index) (f : Filter) (op : Opcode) (is : List Instance) → option_map (λ (a : Asked). a.opcode) (second_asked f) ≡ Some op
    → hats_of_round index f (record { opcode = op; folded = [] }) is ≡ option_map_or (λ a. hats_among index a (meant f is)) (second_asked f) []
second_round index f op is h = round_is index f (record { opcode = op; folded = [] }) is ∙ ap (λ o. option_map_or (λ a. hats_among index a (meant f is)) o []) (sym (second_is f op h))

-- any other filter has none
pub second_none : (f : Filter) → option_map (λ (a : Asked). a.opcode) (second_asked f) ≡ None → second_asked f ≡ None
second_none (Clicked instance) e = absurd (cc e)
second_none (Broadcast message) e = refl
second_none (Backdrop costume) e = refl
second_none (Key name) e = refl
second_none Flag e = refl
second_none (CloneStart clone) e = refl

-- Instances without a target

enumerate_length : {A : Type 0} (n : ℕ) (xs : List A) → length (enumerate_from n xs) ≡ length xs
enumerate_length n [] = refl
enumerate_length n (x ∷ xs) = ap suc (enumerate_length (n + 1) xs)

scripts_length : (p : Project) → length (program_of p).scripts ≡ length (tables_of p)
scripts_length p =
    length-map (sheets (tables_of p) (names_of p)) scripts_of
    ∙ length-map (enumerate_from 0 (tables_of p)) (sheet_of (names_of p))
    ∙ enumerate_length 0 (tables_of p)

-- a target that is not there has no heads
pub none_past : (p : Project) (test : Statement → Bool) (i : Instance) → length (tables_of p) ≤ i.of → pairs_of (program_of p) test i ≡ []
none_past p test i h =
    ap (λ o. map (λ x. record { of = i.number; head = x }) (filter (λ x. test x.hat) (unwrap_or {T = Scripts} o (record { heads = []; procedures = [] })).heads))
    (slice_get_past (program_of p).scripts i.of (omega (arith, h, scripts_length p)))

pub none_off : (p : Project) (test : Statement → Bool) (i : Instance) → nat_lt i.of (length (tables_of p)) ≡ false → pairs_of (program_of p) test i ≡ []
none_off p test i h = none_past p test i (grind (arith, h))
