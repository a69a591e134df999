-- Glides that are over.
use Rattle.std.proofs.Common.{◌≡◌, ℕ, Bool, false, cond, ap, ◌∙◌, sym}
use Rattle.scratch_number.specs.declared.number.Num.{Num}
use Rattle.machine_spec.specs.declared.threads.Context.{Context}
use Rattle.machine_spec.specs.declared.threads.Context.TheVariants.{Fresh, Glide}
use Rattle.machine_spec.specs.declared.threads.Control.TheVariants.{Next}
use Rattle.machine_spec.specs.declared.threads.GlideState.{GlideState}
use Rattle.machine_spec.specs.Motion.{Point, at_point, glide, moved, to_point}
use Rattle.machine_spec.specs.Parts.{MotionParts}
use Rattle.machine_spec.specs.Stores.{Devices, elapsed, less}
use Rattle.machine_spec.specs.View.{Row}

-- what is not so is not chosen
pub otherwise : {A : Type 0} (b : Bool) (x y z : A) → b ≡ false → y ≡ z → cond b x y ≡ z
otherwise b x y z e h = ap (λ t. cond t x y) e ∙ h

-- a glide that no longer lasts is at the end that it kept; the code reads what is kept twice
pub glide_over : (d : Devices) (seconds : Num) (end last : Point) (c : Context) (k now again : GlideState) (here : ℕ) (p : MotionParts) (r : Row MotionParts)
    → c ≡ Glide k → now ≡ k → again ≡ k → less (elapsed now.start d) now.duration ≡ false → last ≡ to_point again → moved Next Fresh (at_point last) here p ≡ r
    → glide d seconds end c here p ≡ r
glide_over d seconds end last c k now again here p r e f a l g h =
    ap (λ x. glide d seconds end x here p) (e ∙ ap Glide (sym f))
    ∙ otherwise (less (elapsed now.start d) now.duration) _ _ _ l
    (ap (λ q. moved Next Fresh (at_point q) here p) (sym (g ∙ ap to_point (a ∙ sym f))) ∙ h)
