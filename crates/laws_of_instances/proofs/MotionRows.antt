-- The rows of motion keep instances legal.
use Rattle.std.proofs.Common.{◌≡◌, ℕ, Bool, true, false, if◌then◌else◌, List, Option, Some, None, option_map, refl, sym, ap, ◌∙◌, subst}
use Rattle.std.specs.Prelude.{bytes_eq, codes}
use Rattle.opcode_table.specs.declared.opcode.Opcode.{Opcode}
use Rattle.opcode_table.specs.declared.opcode.Opcode.TheVariants.{MotionMoveSteps, MotionTurnRight, MotionTurnLeft, MotionGoTo, MotionGoToXY, MotionGlideSecsToXY, MotionGlideTo, MotionPointInDirection, MotionPointTowards, MotionChangeXBy, MotionSetX, MotionChangeYBy, MotionSetY, MotionSetRotationStyle}
use Rattle.scratch_number.specs.declared.number.Num.{Num}
use Rattle.scratch_number.specs.Arithmetic.{add, sub}
use Rattle.scratch_values.specs.Casts.{zero_number}
use Rattle.scratch_values.specs.Named.{Arguments}
use Rattle.machine_spec.specs.declared.instance.Instance.{Instance}
use Rattle.machine_spec.specs.declared.instance.Style.{Style}
use Rattle.machine_spec.specs.declared.threads.Context.{Context}
use Rattle.machine_spec.specs.declared.threads.Context.TheVariants.{Fresh, Glide}
use Rattle.machine_spec.specs.declared.threads.Control.{Control}
use Rattle.machine_spec.specs.declared.threads.Control.TheVariants.{Next, Yield}
use Rattle.machine_spec.specs.declared.threads.GlideState.{GlideState}
use Rattle.machine_spec.specs.Motion.{Point, at_point, facing, point_named, direction_towards, style_named, stepped, moved, unmoved, moved_by, with_words, glide_from, to_point, glide, glide_to, sprite_row, motion_row}
use Rattle.machine_spec.specs.Numbers.{direction_after}
use Rattle.machine_spec.specs.Outcome.{Goes, IfGoes, then_do}
use Rattle.machine_spec.specs.Parts.{MotionParts}
use Rattle.machine_spec.specs.Program.{Program}
use Rattle.machine_spec.specs.Random.{scattered}
use Rattle.machine_spec.specs.Stores.{Devices, instance_at, is_on_stage, elapsed, less}
use Rattle.machine_spec.specs.View.{Row, number_at, text_at, field_at}
use Rattle.machine_spec.specs.Words.{draw}
use Rattle.laws_of_threads.proofs.Faces.{Alike}
use Rattle.laws_of_threads.proofs.RowFits.{goes_any}
use Rattle.laws_of_instances.specs.Instances.{IsInstance}
use Rattle.laws_of_instances.proofs.Bounds.{direction_kept}
use Rattle.laws_of_instances.proofs.Casts.{IsCast, found_at, cast_changed}
use Rattle.laws_of_instances.proofs.Looks.{placed, styled}

stepped_alike : (op : Opcode) (a : Arguments) (i : Instance) → Alike i (stepped op a i)
stepped_alike MotionMoveSteps a i = record { number = refl; of = refl }
stepped_alike MotionTurnRight a i = record { number = refl; of = refl }
stepped_alike MotionTurnLeft a i = record { number = refl; of = refl }
stepped_alike MotionPointInDirection a i = record { number = refl; of = refl }
stepped_alike MotionGoToXY a i = record { number = refl; of = refl }
stepped_alike MotionChangeXBy a i = record { number = refl; of = refl }
stepped_alike MotionSetX a i = record { number = refl; of = refl }
stepped_alike MotionChangeYBy a i = record { number = refl; of = refl }
stepped_alike MotionSetY a i = record { number = refl; of = refl }
stepped_alike op a i = record { number = refl; of = refl }

module _ (p : Program) (usage : ℕ) (i : Instance) (off : is_on_stage i p.records ≡ false) (h : IsInstance p usage i) where
  faced : (d : Num) → IsInstance p usage (facing d i)
  faced d = placed p usage i h i.x i.y (direction_after d i.direction) off (direction_kept d i.direction h.direction)

  put : (x y : Num) → IsInstance p usage (record i { x = x; y = y })
  put x y = placed p usage i h x y i.direction off h.direction

  stepped_legal : (op : Opcode) (a : Arguments) → IsInstance p usage (stepped op a i)
  stepped_legal MotionMoveSteps a = put _ _
  stepped_legal MotionTurnRight a = faced (add i.direction (number_at (codes "DEGREES") a))
  stepped_legal MotionTurnLeft a = faced (sub i.direction (number_at (codes "DEGREES") a))
  stepped_legal MotionPointInDirection a = faced (number_at (codes "DIRECTION") a)
  stepped_legal MotionGoToXY a = put _ _
  stepped_legal MotionChangeXBy a = put _ _
  stepped_legal MotionSetX a = put _ _
  stepped_legal MotionChangeYBy a = put _ _
  stepped_legal MotionSetY a = put _ _
  stepped_legal op a = h

module _ (p : Program) (usage here : ℕ) (d : Devices) (parts : MotionParts) (off : is_on_stage (instance_at here parts.targets) p.records ≡ false) (h : IsCast p usage parts.targets) where
  abbrev Kept : Row MotionParts → Type 0
  Kept r = IsCast p usage r.parts.targets

  moved_cast : (f : Instance → Instance) → ((i : Instance) → Alike i (f i)) → ((i : Instance) → is_on_stage i p.records ≡ false → IsInstance p usage i → IsInstance p usage (f i))
      → (control : Control) (c : Context) (v : MotionParts) → v.targets ≡ parts.targets → Kept (moved control c f here v)
  moved_cast f alike keeps control c v same =
      cast_changed p usage here f v.targets alike
      (λ i e g. keeps i (subst (λ (is : List Instance). is_on_stage i p.records ≡ false) same (ap (λ x. is_on_stage x p.records) (sym (found_at here v.targets i e) ∙ ap (instance_at here) same) ∙ off)) g)
      (subst (IsCast p usage) (sym same) h)

  at_cast : (q : Point) (control : Control) (c : Context) (v : MotionParts) → v.targets ≡ parts.targets → Kept (moved control c (at_point q) here v)
  at_cast q control c v same = moved_cast (at_point q) (λ i. record { number = refl; of = refl }) (λ i off g. put p usage i off g q.x q.y) control c v same

  facing_cast : (n : Num) (control : Control) (c : Context) (v : MotionParts) → v.targets ≡ parts.targets → Kept (moved control c (facing n) here v)
  facing_cast n control c v same = moved_cast (facing n) (λ i. record { number = refl; of = refl }) (λ i off g. faced p usage i off g n) control c v same

  unmoved_cast : (control : Control) (c : Context) (v : MotionParts) → v.targets ≡ parts.targets → Kept (unmoved control c v)
  unmoved_cast control c v same = subst (IsCast p usage) (sym same) h

  to_point_cast : (o : Option Point) (v : MotionParts) → v.targets ≡ parts.targets → Kept (moved_by (option_map at_point o) here v)
  to_point_cast None v same = unmoved_cast Next Fresh v same
  to_point_cast (Some q) v same = at_cast q Next Fresh v same

  towards_cast : (o : Option Num) (v : MotionParts) → v.targets ≡ parts.targets → Kept (moved_by (option_map facing o) here v)
  towards_cast None v same = unmoved_cast Next Fresh v same
  towards_cast (Some n) v same = facing_cast n Next Fresh v same

  style_cast : (o : Option Style) → Kept (moved_by (option_map (λ s i. record i { style = s }) o) here parts)
  style_cast None = h
  style_cast (Some s) = moved_cast (λ i. record i { style = s }) (λ i. record { number = refl; of = refl }) (λ i off g. styled p usage i g s) Next Fresh parts refl

  begins_by : (c : Bool) (secs : Num) (end : Point) (v : MotionParts) → v.targets ≡ parts.targets
      → Kept (if c then unmoved Yield (Glide (glide_from d secs (instance_at here v.targets) end)) v else moved Next Fresh (at_point end) here v)
  begins_by true secs end v same = unmoved_cast Yield (Glide (glide_from d secs (instance_at here v.targets) end)) v same
  begins_by false secs end v same = at_cast end Next Fresh v same

  glides_by : (c : Bool) (g : GlideState) (q : Point) (v : MotionParts) → v.targets ≡ parts.targets
      → Kept (if c then moved Yield (Glide g) (at_point q) here v else moved Next Fresh (at_point (to_point g)) here v)
  glides_by true g q v same = at_cast q Yield (Glide g) v same
  glides_by false g q v same = at_cast (to_point g) Next Fresh v same

  glide_cast : (secs : Num) (end : Point) (c : Context) (v : MotionParts) → v.targets ≡ parts.targets → Kept (glide d secs end c here v)
  glide_cast secs end (Glide g) v same = glides_by (less (elapsed g.start d) g.duration) g _ v same
  glide_cast secs end c v same = begins_by (less zero_number secs) secs end v same

  glide_to_cast : (secs : Num) (o : Option Point) (c : Context) (v : MotionParts) → v.targets ≡ parts.targets → Kept (glide_to d secs o c here v)
  glide_to_cast secs None c v same = unmoved_cast Next Fresh v same
  glide_to_cast secs (Some end) c v same = glide_cast secs end c v same

  pointed_by : (c : Bool) (name : List ℕ) → IfGoes (if c
      then then_do (draw parts.words) (λ w. Goes (moved Next Fresh (facing (scattered 360 w.value)) here (with_words w.words parts)))
      else then_do (point_named name p.records d parts) (λ u. Goes (moved_by (option_map facing (direction_towards (instance_at here parts.targets) u.value)) here (with_words u.words parts)))) Kept
  pointed_by true name = goes_any (draw parts.words) _ Kept (λ w. facing_cast (scattered 360 w.value) Next Fresh (with_words w.words parts) refl)
  pointed_by false name = goes_any (point_named name p.records d parts) _ Kept (λ u. towards_cast (direction_towards (instance_at here parts.targets) u.value) (with_words u.words parts) refl)

  sprite_cast : (op : Opcode) (a : Arguments) (c : Context) → IfGoes (sprite_row p.records d op a here c parts) Kept
  sprite_cast MotionGoTo a c = goes_any (point_named (text_at (codes "TO") a) p.records d parts) _ Kept (λ u. to_point_cast u.value (with_words u.words parts) refl)
  sprite_cast MotionGlideSecsToXY a c = glide_cast (number_at (codes "SECS") a) _ c parts refl
  sprite_cast MotionGlideTo a c = goes_any (point_named (text_at (codes "TO") a) p.records d parts) _ Kept (λ u. glide_to_cast (number_at (codes "SECS") a) u.value c (with_words u.words parts) refl)
  sprite_cast MotionPointTowards a c = pointed_by (bytes_eq (text_at (codes "TOWARDS") a) (codes "_random_")) (text_at (codes "TOWARDS") a)
  sprite_cast MotionSetRotationStyle a c = style_cast (style_named (field_at (codes "STYLE") a))
  sprite_cast op a c = moved_cast (stepped op a) (stepped_alike op a) (λ i off g. stepped_legal p usage i off g op a) Next Fresh parts refl

module _ (p : Program) (usage here : ℕ) (d : Devices) (parts : MotionParts) (h : IsCast p usage parts.targets) where
  stage_by : (b : Bool) (op : Opcode) (a : Arguments) (c : Context) → is_on_stage (instance_at here parts.targets) p.records ≡ b
      → IfGoes (if b then Goes (unmoved Next Fresh parts) else sprite_row p.records d op a here c parts) (λ r. IsCast p usage r.parts.targets)
  stage_by true op a c e = h
  stage_by false op a c e = sprite_cast p usage here d parts e h op a c

  pub motion_cast : (op : Opcode) (a : Arguments) (c : Context) → IfGoes (motion_row p.records d op a here c parts) (λ r. IsCast p usage r.parts.targets)
  motion_cast op a c = stage_by (is_on_stage (instance_at here parts.targets) p.records) op a c refl
