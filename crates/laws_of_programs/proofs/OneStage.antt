-- Where one target is the stage, it has the number of the stage.
use Rattle.std.proofs.Common.{◌≡◌, ℕ, zero, suc, ◌+◌, ◌<◌, Bool, true, false, cond, List, [], ◌∷◌, length, refl, sym, ap, ◌∙◌, subst, arith}
use Rattle.std.specs.Prelude.{slice_get, unwrap_or, position, None, Some}
use Rattle.std.specs.List.{count_by, position_or_len}
use Rattle.std.proofs.lemmas.Bool.{lt-ltb}
use Rattle.std.proofs.lemmas.List.Sums.{sum_by-cons}
use Rattle.machine_spec.specs.Program.{Records, no_target, record_at, stage_number}
use Rattle.machine_spec.specs.declared.records.TargetRecord.{TargetRecord}
use Rattle.laws_of_threads.specs.Playable.{HasStage}

module _ {A : Type 0} (p : A → Bool) (d : A) where
  abbrev at : List A → ℕ → A
  at xs k = unwrap_or (slice_get xs k) d

  count_yes : (x : A) (xs : List A) (n : ℕ) → p x ≡ true → count_by p (x ∷ xs) ≡ suc n → count_by p xs ≡ n
  count_yes x xs n e h = let c = sum_by-cons (λ y. cond (p y) 1 0) x xs ∙ ap (λ b. cond b 1 0 + count_by p xs) e in omega (arith, c, h)

  count_no : (x : A) (xs : List A) (n : ℕ) → p x ≡ false → count_by p (x ∷ xs) ≡ n → count_by p xs ≡ n
  count_no x xs n e h = let c = sum_by-cons (λ y. cond (p y) 1 0) x xs ∙ ap (λ b. cond b 1 0 + count_by p xs) e in omega (arith, c, h)

  none_passes : (xs : List A) → count_by p xs ≡ 0 → (k : ℕ) → k < length xs → p (at xs k) ≡ true → ⊥
  none_passes [] h k l g = omega arith
  none_passes (x ∷ xs) h zero l g = let c = sum_by-cons (λ y. cond (p y) 1 0) x xs ∙ ap (λ b. cond b 1 0 + count_by p xs) g in omega (arith, c, h)
  none_passes (x ∷ xs) h (suc k) l g = let c = sum_by-cons (λ y. cond (p y) 1 0) x xs in none_passes xs (omega (arith, c, h)) k (omega arith) g

  record One (xs : List A) (place : ℕ) : Type 0 where
    there : place < length xs
    passes : p (at xs place) ≡ true
    only : (k : ℕ) → k < length xs → p (at xs k) ≡ true → k ≡ place

  one_yes : (x : A) (xs : List A) → p x ≡ true → count_by p (x ∷ xs) ≡ 1 → One (x ∷ xs) 0
  one_yes x xs e h = record { there = omega arith; passes = e; only = only }
    where
      only : (k : ℕ) → k < length (x ∷ xs) → p (at (x ∷ xs) k) ≡ true → k ≡ 0
      only zero l g = refl
      only (suc k) l g = absurd (none_passes xs (count_yes x xs 0 e h) k (omega arith) g)

  one_no : (x : A) (xs : List A) (n : ℕ) → p x ≡ false → One xs n → One (x ∷ xs) (1 + n)
  one_no x xs n e o = subst (One (x ∷ xs)) (let s : suc n ≡ 1 + n = omega arith in s) (record { there = omega (arith, o.there); passes = o.passes; only = only })
    where
      only : (k : ℕ) → k < length (x ∷ xs) → p (at (x ∷ xs) k) ≡ true → k ≡ suc n
      only zero l g = absurd (cc (e, g))
      only (suc k) l g = ap suc (o.only k (omega arith) g)

  place_by : (x : A) (xs : List A) (c : Bool) → p x ≡ c → count_by p (x ∷ xs) ≡ 1 → (count_by p xs ≡ 1 → One xs (position_or_len p xs)) → One (x ∷ xs) (position_or_len p (x ∷ xs))
  place_by x xs true e h rest = rw e (one_yes x xs e h)
  place_by x xs false e h rest = rw e (one_no x xs (position_or_len p xs) e (rest (count_no x xs 1 e h)))

  one_place : (xs : List A) → count_by p xs ≡ 1 → One xs (position_or_len p xs)
  one_place [] h = absurd (omega arith)
  one_place (x ∷ xs) h = place_by x xs (p x) refl h (one_place xs)

  pub position_is : (xs : List A) → count_by p xs ≡ 1 → unwrap_or (position p xs) 0 ≡ position_or_len p xs
  position_is xs h = ap (λ b. unwrap_or (cond b (Some (position_or_len p xs)) None) 0) (lt-ltb (position_or_len p xs) (length xs) (one_place xs h).there)

-- where one target is the stage, the records have their stage
pub has_stage : (records : Records) → count_by (λ t. t.is_stage) records.targets ≡ 1 → HasStage records
has_stage records h =
    let o = one_place (λ (t : TargetRecord). t.is_stage) no_target records.targets h in
    let e : stage_number records ≡ position_or_len (λ (t : TargetRecord). t.is_stage) records.targets = position_is (λ (t : TargetRecord). t.is_stage) no_target records.targets h in
    record {
      there = subst (λ n. n < length records.targets) (sym e) o.there;
      stage = subst (λ n. (record_at n records).is_stage ≡ true) (sym e) o.passes;
      only = λ k l g. o.only k l g ∙ sym e;
    }
