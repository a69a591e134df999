-- What one variable or list more leaves as it was: the stage, the number of targets, and what was there.
use Rattle.std.proofs.Common.{◌≡◌, ℕ, zero, suc, ◌+◌, ◌<◌, ◌≤◌, Bool, cond, List, [], ◌∷◌, length, refl, sym, ap, ◌∙◌, subst, arith, length-append}
use Rattle.std.specs.Prelude.{nat_lt, not, slice_get, unwrap_or, position, Option, None, Some}
use Rattle.std.specs.List.{count_by, position_or_len}
use Rattle.std.proofs.lemmas.List.Sums.{sum_by-cons}
use Rattle.scratch_values.specs.declared.names.VarName.{VarName}
use Rattle.scratch_values.specs.declared.names.VarRef.{VarRef}
use Rattle.scratch_values.specs.declared.names.VarRef.TheVariants.{Own, Stage}
use Rattle.machine_spec.specs.Lists.{set_some, changed_at}
use Rattle.machine_spec.specs.Program.{Records, no_target, record_at, stage_number}
use Rattle.machine_spec.specs.declared.records.VariableRecord.{VariableRecord}
use Rattle.machine_spec.specs.declared.records.ListRecord.{ListRecord}
use Rattle.machine_spec.specs.declared.records.TargetRecord.{TargetRecord}
use Rattle.project_spec.specs.Resolving.{Sort, OfVariable, OfList, with_added}
use Rattle.laws_of_threads.specs.Lists.{Each}
use Rattle.laws_of_threads.specs.Playable.{NamesVariable, NamesList}

-- One element changed

module _ {A : Type 0} (f : A → A) where
  changed_by : (o : Option A) (x : A) (xs : List A) (k : ℕ) → set_some o f (suc k) (x ∷ xs) ≡ x ∷ set_some o f k xs
  changed_by None x xs k = refl
  changed_by (Some y) x xs k = refl

  changed_behind : (x : A) (xs : List A) (k : ℕ) → changed_at f (suc k) (x ∷ xs) ≡ x ∷ changed_at f k xs
  changed_behind x xs k = changed_by (slice_get xs k) x xs k

  pub length_changed : (xs : List A) (k : ℕ) → length (changed_at f k xs) ≡ length xs
  length_changed [] k = refl
  length_changed (x ∷ xs) zero = refl
  length_changed (x ∷ xs) (suc k) = let e = ap length (changed_behind x xs k) in let r = length_changed xs k in omega (arith, e, r)

  pub each_changed : (P : A → Type 0) → ((x : A) → P x → P (f x)) → (xs : List A) (k : ℕ) → Each P xs → Each P (changed_at f k xs)
  each_changed P keep [] k h = tt
  each_changed P keep (x ∷ xs) zero h = (keep x h.0, h.1)
  each_changed P keep (x ∷ xs) (suc k) h = subst (Each P) (sym (changed_behind x xs k)) (h.0, each_changed P keep xs k h.1)

  abbrev at_or : A → List A → ℕ → A
  at_or d xs k = unwrap_or (slice_get xs k) d

  pub changed_has : (Q : A → A → Type 0) → ((x : A) → Q x x) → ((x : A) → Q x (f x)) → (d : A) (xs : List A) (t k : ℕ) → Q (unwrap_or (slice_get xs k) d) (unwrap_or (slice_get (changed_at f t xs) k) d)
  changed_has Q same step d [] t k = same d
  changed_has Q same step d (x ∷ xs) zero zero = step x
  changed_has Q same step d (x ∷ xs) zero (suc k) = same (at_or d xs k)
  changed_has Q same step d (x ∷ xs) (suc t) zero = subst (λ ys. Q x (at_or d ys 0)) (sym (changed_behind x xs t)) (same x)
  changed_has Q same step d (x ∷ xs) (suc t) (suc k) = subst (λ ys. Q (at_or d xs k) (at_or d ys (suc k))) (sym (changed_behind x xs t)) (changed_has Q same step d xs t k)

  pub changed_there : (d : A) (xs : List A) (t : ℕ) → t < length xs → unwrap_or (slice_get (changed_at f t xs) t) d ≡ f (unwrap_or (slice_get xs t) d)
  changed_there d [] t h = absurd (omega arith)
  changed_there d (x ∷ xs) zero h = refl
  changed_there d (x ∷ xs) (suc t) h = ap (λ ys. at_or d ys (suc t)) (changed_behind x xs t) ∙ changed_there d xs t (omega arith)

  module _ (p : A → Bool) (same : (x : A) → p (f x) ≡ p x) where
    count_more : (x : A) (xs : List A) → count_by p (x ∷ xs) ≡ cond (p x) 1 0 + count_by p xs
    count_more x xs = sum_by-cons (λ y. cond (p y) 1 0) x xs

    pub count_changed : (xs : List A) (k : ℕ) → count_by p (changed_at f k xs) ≡ count_by p xs
    count_changed [] k = refl
    count_changed (x ∷ xs) zero = count_more (f x) xs ∙ ap (λ b. cond b 1 0 + count_by p xs) (same x) ∙ sym (count_more x xs)
    count_changed (x ∷ xs) (suc k) = ap (count_by p) (changed_behind x xs k) ∙ count_more x (changed_at f k xs) ∙ ap (λ n. cond (p x) 1 0 + n) (count_changed xs k) ∙ sym (count_more x xs)

    place_changed : (xs : List A) (k : ℕ) → position_or_len p (changed_at f k xs) ≡ position_or_len p xs
    place_changed [] k = refl
    place_changed (x ∷ xs) zero = ap (λ b. cond (not b) (1 + position_or_len p xs) 0) (same x)
    place_changed (x ∷ xs) (suc k) = ap (position_or_len p) (changed_behind x xs k) ∙ ap (λ n. cond (not (p x)) (1 + n) 0) (place_changed xs k)

    pub position_changed : (xs : List A) (k : ℕ) → position p (changed_at f k xs) ≡ position p xs
    position_changed xs k =
        ap (λ n. cond (nat_lt n (length (changed_at f k xs))) (Some n) None) (place_changed xs k)
        ∙ ap (λ m. cond (nat_lt (position_or_len p xs) m) (Some (position_or_len p xs)) None) (length_changed xs k)

-- Records with one more

abbrev pub added : Sort → VarName → (target : ℕ) → Records → Records
added s name t records = record records { targets = changed_at (with_added s name) t records.targets }

stage_same : (s : Sort) (name : VarName) (t : TargetRecord) → (with_added s name t).is_stage ≡ t.is_stage
stage_same OfVariable name t = refl
stage_same OfList name t = refl

pub count_added : (s : Sort) (name : VarName) (t : ℕ) (records : Records) → count_by (λ r. r.is_stage) (added s name t records).targets ≡ count_by (λ (r : TargetRecord). r.is_stage) records.targets
count_added s name t records = count_changed (with_added s name) (λ r. r.is_stage) (stage_same s name) records.targets t

-- records where nothing is less
pub record Grows (a b : Records) : Type 0 where
  pub count : length b.targets ≡ length a.targets
  pub variables : (k : ℕ) → length (record_at k a).variables ≤ length (record_at k b).variables
  pub lists : (k : ℕ) → length (record_at k a).lists ≤ length (record_at k b).lists
  pub stage : stage_number b ≡ stage_number a

pub grows_none : (a : Records) → Grows a a
grows_none a = record { count = refl; variables = λ k. omega arith; lists = λ k. omega arith; stage = refl }

pub grows_more : (a b c : Records) → Grows a b → Grows b c → Grows a c
grows_more a b c g h = record {
  count = h.count ∙ g.count;
  variables = λ k. let x = g.variables k in let y = h.variables k in omega (arith, x, y);
  lists = λ k. let x = g.lists k in let y = h.lists k in omega (arith, x, y);
  stage = h.stage ∙ g.stage;
}

more_variables : (s : Sort) (name : VarName) (t : TargetRecord) → length t.variables ≤ length (with_added s name t).variables
more_variables OfVariable name t = omega (arith, length-append {A = VariableRecord})
more_variables OfList name t = omega arith

more_lists : (s : Sort) (name : VarName) (t : TargetRecord) → length t.lists ≤ length (with_added s name t).lists
more_lists OfVariable name t = omega arith
more_lists OfList name t = omega (arith, length-append {A = ListRecord})

pub grows_added : (s : Sort) (name : VarName) (t : ℕ) (records : Records) → Grows records (added s name t records)
grows_added s name t records = record {
  count = length_changed (with_added s name) records.targets t;
  variables = changed_has (with_added s name) (λ a b. length a.variables ≤ length b.variables) (λ x. omega arith) (more_variables s name) no_target records.targets t;
  lists = changed_has (with_added s name) (λ a b. length a.lists ≤ length b.lists) (λ x. omega arith) (more_lists s name) no_target records.targets t;
  stage = ap (λ o. unwrap_or o 0) (position_changed (with_added s name) (λ r. r.is_stage) (stage_same s name) records.targets t);
}

-- What is named

-- what is named is there
abbrev pub Names : Sort → Records → (target : ℕ) → VarRef → Type 0
Names OfVariable records k ref = NamesVariable records k ref
Names OfList records k ref = NamesList records k ref

pub names_stay : (s : Sort) (a b : Records) (k : ℕ) (ref : VarRef) → Grows a b → Names s a k ref → Names s b k ref
names_stay OfVariable a b k (Own j) g h = let x = g.variables k in omega (arith, x, h)
names_stay OfVariable a b k (Stage j) g h = let x = g.variables (stage_number a) in subst (λ n. j < length (record_at n b).variables) (sym g.stage) (omega (arith, x, h))
names_stay OfList a b k (Own j) g h = let x = g.lists k in omega (arith, x, h)
names_stay OfList a b k (Stage j) g h = let x = g.lists (stage_number a) in subst (λ n. j < length (record_at n b).lists) (sym g.stage) (omega (arith, x, h))
