-- The first world of a run has legal instances.
use Rattle.std.proofs.Common.{◌≡◌, ℕ, zero, suc, ◌+◌, ◌<◌, ◌||◌, Bool, true, false, if◌then◌else◌, List, [], ◌∷◌, map, length, Option, Some, None, inl, refl, sym, ap, ◌∙◌, subst, arith}
use Rattle.std.specs.Prelude.{slice_get, unwrap_or}
use Rattle.std.specs.List.{enumerate_from}
use Rattle.machine_spec.specs.declared.records.TargetRecord.{TargetRecord}
use Rattle.machine_spec.specs.First.{original, layered, in_order, first_world}
use Rattle.machine_spec.specs.Program.{Program, no_target, record_at, stage_number}
use Rattle.machine_spec.specs.Stores.{less, is_on_stage}
use Rattle.laws_of_threads.specs.Lists.{Each}
use Rattle.laws_of_threads.specs.Playable.{IsTarget, IsPlayable}
use Rattle.machine_spec.specs.Words.{words_after}
use Rattle.laws_of_words.proofs.Sourced.{first_of_seed}
use Rattle.laws_of_instances.specs.Instances.{IsInstance, IsLegalCast}
use Rattle.laws_of_instances.proofs.Casts.{IsCast, legal_of}
use Rattle.laws_of_instances.proofs.Changes.{Heads, each_get}
use Rattle.laws_of_instances.proofs.Clones.{got_below, heads_both}
use Rattle.laws_of_instances.proofs.Looks.{none_set, none_short}

abbrev Numbered : Type 0
Numbered = List (ℕ × TargetRecord)

abbrev IsStageRecord : ℕ × TargetRecord → Type 0
IsStageRecord x = x.1.is_stage ≡ true

-- The order has the same targets

module _ (P : ℕ × TargetRecord → Type 0) (t : ℕ × TargetRecord) (it : P t) where
  each_by : (b c : Bool) (x : ℕ × TargetRecord) (xs : Numbered) → P x → Each P xs → Each P (layered t xs) → Each P (if b then t ∷ x ∷ xs else (if c then x ∷ layered t xs else t ∷ x ∷ xs))
  each_by true c x xs g h k = (it, (g, h))
  each_by false true x xs g h k = (g, k)
  each_by false false x xs g h k = (it, (g, h))

  each_layered : (xs : Numbered) → Each P xs → Each P (layered t xs)
  each_layered [] h = (it, tt)
  each_layered (x ∷ xs) h = each_by t.1.is_stage (x.1.is_stage || less x.1.layer_order t.1.layer_order) x xs h.0 h.1 (each_layered xs h.1)

each_ordered : (P : ℕ × TargetRecord → Type 0) (xs : Numbered) → Each P xs → Each P (in_order xs)
each_ordered P [] h = tt
each_ordered P (x ∷ xs) h = each_layered P x h.0 (in_order xs) (each_ordered P xs h.1)

module _ (t : ℕ × TargetRecord) where
  length_by : (b c : Bool) (x : ℕ × TargetRecord) (xs : Numbered) → length (layered t xs) ≡ suc (length xs) → length (if b then t ∷ x ∷ xs else (if c then x ∷ layered t xs else t ∷ x ∷ xs)) ≡ suc (suc (length xs))
  length_by true c x xs e = refl
  length_by false true x xs e = ap suc e
  length_by false false x xs e = refl

  length_layered : (xs : Numbered) → length (layered t xs) ≡ suc (length xs)
  length_layered [] = refl
  length_layered (x ∷ xs) = length_by t.1.is_stage (x.1.is_stage || less x.1.layer_order t.1.layer_order) x xs (length_layered xs)

length_ordered : (xs : Numbered) → length (in_order xs) ≡ length xs
length_ordered [] = refl
length_ordered (x ∷ xs) = length_layered x (in_order xs) ∙ ap suc (length_ordered xs)

length_numbered : (m : ℕ) (ts : List TargetRecord) → length (enumerate_from m ts) ≡ length ts
length_numbered m [] = refl
length_numbered m (t ∷ ts) = ap suc (length_numbered (m + 1) ts)

length_made : (xs : Numbered) → length (map (λ x. original x.0 x.1) xs) ≡ length xs
length_made [] = refl
length_made (x ∷ xs) = ap suc (length_made xs)

-- The stage is first in it

module _ (t : ℕ × TargetRecord) where
  stage_by : (b c : Bool) (x : ℕ × TargetRecord) (xs : Numbered) → t.1.is_stage ≡ b → IsStageRecord t → Heads IsStageRecord (if b then t ∷ x ∷ xs else (if c then x ∷ layered t xs else t ∷ x ∷ xs))
  stage_by true c x xs e h = h
  stage_by false c x xs e h = absurd (cc (e, h))

  stage_layered : (xs : Numbered) → IsStageRecord t → Heads IsStageRecord (layered t xs)
  stage_layered [] h = h
  stage_layered (x ∷ xs) h = stage_by t.1.is_stage (x.1.is_stage || less x.1.layer_order t.1.layer_order) x xs refl h

  behind_by : (b d e : Bool) (x : ℕ × TargetRecord) (xs : Numbered) → t.1.is_stage ≡ b → x.1.is_stage ≡ d → IsStageRecord x → Heads IsStageRecord (if b then t ∷ x ∷ xs else (if d || e then x ∷ layered t xs else t ∷ x ∷ xs))
  behind_by true d e x xs f g h = f
  behind_by false true e x xs f g h = h
  behind_by false false e x xs f g h = absurd (cc (g, h))

  behind_layered : (xs : Numbered) → Heads IsStageRecord xs → Heads IsStageRecord (layered t xs)
  behind_layered [] h = absurd h
  behind_layered (x ∷ xs) h = behind_by t.1.is_stage x.1.is_stage (less x.1.layer_order t.1.layer_order) x xs refl refl h

stage_ordered : (xs : Numbered) (k : ℕ) (x : ℕ × TargetRecord) → slice_get xs k ≡ Some x → IsStageRecord x → Heads IsStageRecord (in_order xs)
stage_ordered [] k x e h = absurd (cc e)
stage_ordered (y ∷ ys) zero x e h = let s : y ≡ x = cc e in stage_layered y (in_order ys) (subst IsStageRecord (sym s) h)
stage_ordered (y ∷ ys) (suc k) x e h = behind_layered y (in_order ys) (stage_ordered ys k x e h)

-- Each has the number of its place

got_numbered : (m k : ℕ) (ts : List TargetRecord) (t : TargetRecord) → slice_get ts k ≡ Some t → slice_get (enumerate_from m ts) k ≡ Some (m + k, t)
got_numbered m k [] t e = absurd (cc e)
got_numbered m zero (y ∷ ys) t e = let s : y ≡ t = cc e in let n : m ≡ m + zero = omega arith in cc (s, n)
got_numbered m (suc k) (y ∷ ys) t e = let n : m + 1 + k ≡ m + suc k = omega arith in got_numbered (m + 1) k ys t e ∙ ap (λ j. Some (j, t)) n

module _ (all : List TargetRecord) where
  abbrev IsOf : ℕ × TargetRecord → Type 0
  IsOf x = slice_get all x.0 ≡ Some x.1

  each_numbered : (m : ℕ) (ts : List TargetRecord) → ((k : ℕ) (t : TargetRecord) → slice_get ts k ≡ Some t → slice_get all (m + k) ≡ Some t) → Each IsOf (enumerate_from m ts)
  each_numbered m [] g = tt
  each_numbered m (t ∷ ts) g = (
    subst (λ j. slice_get all j ≡ Some t) (let e : m + zero ≡ m = omega arith in e) (g zero t refl),
    each_numbered (m + 1) ts (λ k u e. subst (λ j. slice_get all j ≡ Some u) (let e : m + suc k ≡ m + 1 + k = omega arith in e) (g (suc k) u e)),
  )

-- The originals

module _ (p : Program) (play : IsPlayable p) where
  record_is : (x : ℕ × TargetRecord) → IsOf p.records.targets x → record_at x.0 p.records ≡ x.1
  record_is x e = ap (λ o. unwrap_or o no_target) e

  original_legal : (x : ℕ × TargetRecord) → IsOf p.records.targets x → IsInstance p 1 (original x.0 x.1)
  original_legal x e = let t = each_get IsTarget p.records.targets x.0 x.1 e play.targets in let r = record_is x e in record {
    kind = inl (refl, got_below p.records.targets x.0 x.1 e);
    costume = subst (λ (y : TargetRecord). x.1.costume < length y.costumes) (sym r) t.costume;
    size = t.size;
    direction = t.direction;
    effects = none_set;
    stage = λ s. t.stage (ap (λ (y : TargetRecord). y.is_stage) (sym r) ∙ s);
    updated = omega arith;
    short = none_short;
    rising = tt;
    edges = tt;
  }

  each_original : (xs : Numbered) → Each (IsOf p.records.targets) xs → Each (IsInstance p 1) (map (λ x. original x.0 x.1) xs)
  each_original [] h = tt
  each_original (x ∷ xs) h = (original_legal x h.0, each_original xs h.1)

  stage_original : (xs : Numbered) → Heads (λ x. IsStageRecord x × IsOf p.records.targets x) xs → Heads (λ i. is_on_stage i p.records ≡ true) (map (λ x. original x.0 x.1) xs)
  stage_original [] h = absurd h
  stage_original (x ∷ xs) h = ap (λ (y : TargetRecord). y.is_stage) (record_is x h.1) ∙ h.0

  stage_by_record : (o : Option TargetRecord) → slice_get p.records.targets (stage_number p.records) ≡ o → (unwrap_or o no_target).is_stage ≡ true → Heads IsStageRecord (in_order (enumerate_from 0 p.records.targets))
  stage_by_record None e h = absurd (cc h)
  stage_by_record (Some t) e h = stage_ordered (enumerate_from 0 p.records.targets) (stage_number p.records) (0 + stage_number p.records, t) (got_numbered 0 (stage_number p.records) p.records.targets t e) h

  pub first_cast : IsCast p 1 (map (λ x. original x.0 x.1) (in_order (enumerate_from 0 p.records.targets)))
  first_cast =
      let xs : Numbered = in_order (enumerate_from 0 p.records.targets) in
      let each : Each (IsOf p.records.targets) xs = each_ordered (IsOf p.records.targets) (enumerate_from 0 p.records.targets)
      (each_numbered p.records.targets 0 p.records.targets (λ k t e. subst (λ j. slice_get p.records.targets j ≡ Some t) (let n : k ≡ 0 + k = omega arith in n) e)) in
      record {
        stage = stage_original xs (heads_both IsStageRecord (IsOf p.records.targets) xs (stage_by_record (slice_get p.records.targets (stage_number p.records)) refl play.stage.stage) each);
        each = each_original xs each;
        few = (let a = length_made xs in let b = length_ordered (enumerate_from 0 p.records.targets) in let c = length_numbered 0 p.records.targets in omega (arith, a, b, c));
      }

  pub first_legal : (seed : ℕ) → IsLegalCast p seed (first_world p (words_after seed 0))
  first_legal seed = legal_of p seed (first_world p (words_after seed 0)) first_cast (first_of_seed seed)
