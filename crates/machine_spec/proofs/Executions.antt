-- Slices as executions, one after another.
use Rattle.std.proofs.Common.{◌≡◌, ℕ, zero, suc, ◌+◌, Bool, true, false, refl, ◌∙◌, ap, arith, zero-add}
use Rattle.machine_spec.specs.Outcome.{Outcome, Goes, Full, TooLong, Spent, then_do}
use Rattle.machine_spec.specs.Step.{Moment}
use Rattle.machine_spec.specs.Slice.{Executing, is_late, counted_after, slice_goes_on, go_on, behind, slice_by}
use Rattle.machine_spec.specs.Laws.{executions}

suc-add : (n m : ℕ) → suc n + m ≡ suc (n + m)
suc-add n m = omega arith

then_do-same : {A B : Type 0} (o : Outcome A) (f g : A → Outcome B) → ((x : A) → f x ≡ g x) → then_do o f ≡ then_do o g
then_do-same (Goes x) f g same = same x
then_do-same Full f g same = refl
then_do-same (TooLong n) f g same = refl
then_do-same (Spent which) f g same = refl

go_on-same : {W A : Type 0} (b : Bool) (f g : W → Outcome A) (last : W → Outcome A) (w : W) → ((v : W) → f v ≡ g v) → go_on b f last w ≡ go_on b g last w
go_on-same true f g last w same = same w
go_on-same false f g last w same = refl

behind-same : {W : Type 0} (e : Executing W) (budget m : ℕ) (before : Bool) (f g : W → Outcome W) (x : Moment W)
    → ((v : W) → f v ≡ g v) → behind e budget m before f x ≡ behind e budget m before g x
behind-same e budget m before f g x same =
    go_on-same (slice_goes_on x.report before (e.flag x.world) (is_late budget m)) f g (λ w. Goes w) x.world same

module _ {W : Type 0} (e : Executing W) (budget : ℕ) where
  pub slice-executions : (n m : ℕ) (w : W) → slice_by e budget n m w ≡ executions e budget n m w (λ k v. Goes v)
  unfolding slice_by executions
  slice-executions zero m w = refl
  slice-executions (suc n) m w =
      then_do-same (e.execute (is_late budget m) w)
      (behind e budget (counted_after m (e.flag w)) (e.flag w) (slice_by e budget n (counted_after m (e.flag w))))
      (behind e budget (counted_after m (e.flag w)) (e.flag w) (λ v. executions e budget n (counted_after m (e.flag w)) v (λ k u. Goes u)))
      (λ x. behind-same e budget (counted_after m (e.flag w)) (e.flag w) _ _ x (λ v. slice-executions n (counted_after m (e.flag w)) v))

  pub executions-join : (n more m : ℕ) (w : W) (rest : ℕ → W → Outcome W)
      → executions e budget (n + more) m w rest ≡ executions e budget n m w (λ k v. executions e budget more k v rest)
  unfolding executions
  executions-join zero more m w rest = ap (λ k. executions e budget k m w rest) (zero-add more)
  executions-join (suc n) more m w rest =
      ap (λ k. executions e budget k m w rest) (suc-add n more)
      ∙ then_do-same (e.execute (is_late budget m) w)
      (behind e budget (counted_after m (e.flag w)) (e.flag w) (λ v. executions e budget (n + more) (counted_after m (e.flag w)) v rest))
      (behind e budget (counted_after m (e.flag w)) (e.flag w) (λ v. executions e budget n (counted_after m (e.flag w)) v (λ k u. executions e budget more k u rest)))
      (λ x. behind-same e budget (counted_after m (e.flag w)) (e.flag w) _ _ x (λ v. executions-join n more (counted_after m (e.flag w)) v rest))
