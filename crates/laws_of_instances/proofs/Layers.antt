-- A sprite that is put at another layer: the stage stays first.
use Rattle.std.proofs.Common.{◌≡◌, ℕ, zero, suc, ◌+◌, ◌<◌, ◌≤◌, ◌==◌, Bool, true, false, if◌then◌else◌, List, [], ◌∷◌, length, Some, refl, sym, ap, ◌∙◌, subst, arith}
use Rattle.std.specs.Prelude.{ℤ, pos, negsuc, ◌+ℤ◌, slice_get, insert, remove, bytes_eq, codes}
use Rattle.std.proofs.lemmas.List.Folds.{find_at}
use Rattle.scratch_number.specs.declared.number.Num.{Num}
use Rattle.scratch_number.specs.declared.number.Num.TheVariants.{Fixed, Inf, NegInf, Nan}
use Rattle.machine_spec.specs.declared.instance.Instance.{Instance}
use Rattle.machine_spec.specs.Looks.{layer, at_layer, layer_kept, layer_after, front_or_back}
use Rattle.machine_spec.specs.Numbers.{without_fraction}
use Rattle.machine_spec.specs.Program.{Program}
use Rattle.machine_spec.specs.Stopping.{most_clones}
use Rattle.machine_spec.specs.Stores.{live, instance_at, is_on_stage}
use Rattle.laws_of_threads.proofs.Numbers.{clash}
use Rattle.laws_of_instances.specs.Instances.{IsInstance}
use Rattle.laws_of_instances.proofs.Casts.{IsCast, found_at}
use Rattle.laws_of_instances.proofs.Changes.{Heads, each_found, each_insert, each_remove}

-- Lengths

pub length_insert : {A : Type 0} (xs : List A) (k : ℕ) (y : A) → length (insert xs k y) ≡ suc (length xs)
length_insert [] zero y = refl
length_insert [] (suc k) y = refl
length_insert (x ∷ xs) zero y = refl
length_insert (x ∷ xs) (suc k) y = ap suc (length_insert xs k y)

pub length_remove : {A : Type 0} (xs : List A) (k : ℕ) (x : A) → slice_get xs k ≡ Some x → suc (length (remove xs k)) ≡ length xs
length_remove [] k x e = absurd (cc e)
length_remove (y ∷ ys) zero x e = refl
length_remove (y ∷ ys) (suc k) x e = ap suc (length_remove ys k x e)

-- Places from 1

kept_above : (z : ℤ) (last : ℕ) → 0 < last → 0 < layer_kept z last
kept_above (pos n) last h = omega arith
kept_above (negsuc n) last h = omega arith

pub after_above : (n : Num) (place last : ℕ) → 0 < place → 0 < last → 0 < layer_after n place last
after_above (Fixed z) place last h g = kept_above (pos place +ℤ without_fraction z) last g
after_above Inf place last h g = g
after_above NegInf place last h g = omega arith
after_above Nan place last h g = h

end_by : (c : Bool) (last : ℕ) → 0 < last → 0 < (if c then last else 1)
end_by true last h = h
end_by false last h = omega arith

pub end_above : (t : List ℕ) (last : ℕ) → 0 < last → 0 < front_or_back t last
end_above t last h = end_by (bytes_eq t (codes "front")) last h

-- what is found behind the first
pub record IsBehind (is : List Instance) (k : ℕ) : Type 0 where
  pub above : 0 < k
  pub more : 1 < length is

behind_some : (i : Instance) (is : List Instance) (k : ℕ) (x : Instance) → slice_get is k ≡ Some x → IsBehind (i ∷ is) (suc k)
behind_some i [] k x e = absurd (cc e)
behind_some i (j ∷ js) k x e = record { above = omega arith; more = omega arith }

module _ (P : Instance → Type 0) (x : Instance) (off : P x → ⊥) where
  behind : (is : List Instance) (k : ℕ) → slice_get is k ≡ Some x → Heads P is → IsBehind is k
  behind [] k e h = absurd h
  behind (i ∷ is) zero e h = let s : i ≡ x = cc e in absurd (off (subst P s h))
  behind (i ∷ is) (suc k) e h = behind_some i is k x e

head_moved : (P : Instance → Type 0) (is : List Instance) (k m : ℕ) (y : Instance) → 0 < k → 0 < m → Heads P is → Heads P (insert (remove is k) m y)
head_moved P [] k m y a b h = absurd h
head_moved P (i ∷ is) zero m y a b h = absurd (omega (arith, a))
head_moved P (i ∷ is) (suc k) zero y a b h = absurd (omega (arith, b))
head_moved P (i ∷ is) (suc k) (suc m) y a b h = h

module _ (p : Program) (usage here : ℕ) (is : List Instance) (x : Instance) (it : live here is ≡ Some x) (off : is_on_stage (instance_at here is) p.records ≡ false) (h : IsCast p usage is) where
  at : slice_get is (layer here is) ≡ Some x
  at = sym (find_at (λ i. i.number == here) is) ∙ it

  abbrev OnStage : Instance → Type 0
  OnStage i = is_on_stage i p.records ≡ true

  pub sprite_behind : IsBehind is (layer here is)
  sprite_behind = behind OnStage x (λ t. clash (is_on_stage x p.records) t (ap (λ i. is_on_stage i p.records) (sym (found_at here is x it)) ∙ off)) is (layer here is) at h.stage

  pub layer_cast : (place : ℕ) → 0 < place → IsCast p usage (at_layer here place is)
  layer_cast place above = record {
    stage = head_moved OnStage is (layer here is) place (instance_at here is) sprite_behind.above above h.stage;
    each = each_insert (IsInstance p usage) (remove is (layer here is)) place (instance_at here is) (subst (IsInstance p usage) (sym (found_at here is x it)) (each_found (IsInstance p usage) (λ i. i.number == here) is x it h.each)) (each_remove (IsInstance p usage) is (layer here is) h.each);
    few = subst (λ l. l ≤ length p.records.targets + most_clones) (sym (length_insert (remove is (layer here is)) place (instance_at here is) ∙ length_remove is (layer here is) x at)) h.few;
  }
