-- The rows of motion.
use Rattle.std.proofs.Common.{◌≡◌, ℕ, Bool, true, false, if◌then◌else◌, List, Option, Some, None, option_map, refl, arith}
use Rattle.std.specs.Prelude.{bytes_eq, codes}
use Rattle.opcode_table.specs.declared.opcode.Opcode.{Opcode}
use Rattle.opcode_table.specs.declared.opcode.Opcode.TheVariants.{MotionMoveSteps, MotionTurnRight, MotionTurnLeft, MotionGoTo, MotionGoToXY, MotionGlideSecsToXY, MotionGlideTo, MotionPointInDirection, MotionPointTowards, MotionChangeXBy, MotionSetX, MotionChangeYBy, MotionSetY, MotionSetRotationStyle}
use Rattle.opcode_table.specs.declared.kinds.Kind.{Kind}
use Rattle.opcode_table.specs.declared.kinds.Kind.TheVariants.{Glides}
use Rattle.opcode_table.specs.Kinds.{kind}
use Rattle.scratch_number.specs.declared.number.Num.{Num}
use Rattle.scratch_values.specs.Casts.{zero_number}
use Rattle.scratch_values.specs.Named.{Arguments}
use Rattle.machine_spec.specs.declared.threads.Context.{Context}
use Rattle.machine_spec.specs.declared.threads.Context.TheVariants.{Fresh, Glide}
use Rattle.machine_spec.specs.declared.threads.Control.TheVariants.{Next, Yield}
use Rattle.machine_spec.specs.declared.threads.GlideState.{GlideState}
use Rattle.machine_spec.specs.declared.instance.Instance.{Instance}
use Rattle.machine_spec.specs.declared.instance.Style.{Style}
use Rattle.machine_spec.specs.Outcome.{Goes, IfGoes, then_do}
use Rattle.machine_spec.specs.Words.{draw}
use Rattle.machine_spec.specs.Program.{Records, Procedure}
use Rattle.machine_spec.specs.Stores.{Devices, instance_at, is_on_stage, elapsed, less}
use Rattle.machine_spec.specs.Legal.{Keeps}
use Rattle.machine_spec.specs.View.{Row, number_at, text_at, field_at}
use Rattle.machine_spec.specs.Parts.{MotionParts}
use Rattle.machine_spec.specs.Motion.{Point, at_point, facing, point_named, direction_towards, style_named, stepped, moved, unmoved, moved_by, with_words, glide_from, to_point, glide, glide_to, sprite_row, motion_row}
use Rattle.machine_spec.specs.Random.{scattered}
use Rattle.laws_of_threads.specs.Positions.{Brings}
use Rattle.laws_of_threads.proofs.Faces.{faces_same, Alike, changed_faces}
use Rattle.laws_of_threads.proofs.RowFits.{RowFits, goes_any}

stepped_alike : (op : Opcode) (a : Arguments) (i : Instance) → Alike i (stepped op a i)
stepped_alike MotionMoveSteps a i = record { number = refl; of = refl }
stepped_alike MotionTurnRight a i = record { number = refl; of = refl }
stepped_alike MotionTurnLeft a i = record { number = refl; of = refl }
stepped_alike MotionPointInDirection a i = record { number = refl; of = refl }
stepped_alike MotionGoToXY a i = record { number = refl; of = refl }
stepped_alike MotionChangeXBy a i = record { number = refl; of = refl }
stepped_alike MotionSetX a i = record { number = refl; of = refl }
stepped_alike MotionChangeYBy a i = record { number = refl; of = refl }
stepped_alike MotionSetY a i = record { number = refl; of = refl }
stepped_alike op a i = record { number = refl; of = refl }

module _ (records : Records) (here thread next : ℕ) (q : Option Procedure) (d : Devices) where
  abbrev pub MotionFits : Kind → MotionParts → Row MotionParts → Type 0
  MotionFits k p r = RowFits records here thread next k q (record { targets = p.targets; devices = d }) (record { targets = r.parts.targets; devices = d }) r.context r.control

  moved_fits : (k : Kind) (p : MotionParts) (f : Instance → Instance) → ((i : Instance) → Alike i (f i)) → MotionFits k p (moved Next Fresh f here p)
  moved_fits k p f alike = record { faces = changed_faces f alike here p.targets; clock = refl; noted = (refl, refl, (λ is h. h), (λ is h. h)); control = tt; clone = tt }

  unmoved_fits : (k : Kind) (p : MotionParts) → MotionFits k p (unmoved Next Fresh p)
  unmoved_fits k p = record { faces = faces_same p.targets; clock = refl; noted = (refl, refl, (λ is h. h), (λ is h. h)); control = tt; clone = tt }

  to_point_fits : (k : Kind) (p : MotionParts) (o : Option Point) → MotionFits k p (moved_by (option_map at_point o) here p)
  to_point_fits k p None = unmoved_fits k p
  to_point_fits k p (Some x) = moved_fits k p (at_point x) (λ i. record { number = refl; of = refl })

  facing_fits : (k : Kind) (p : MotionParts) (o : Option Num) → MotionFits k p (moved_by (option_map facing o) here p)
  facing_fits k p None = unmoved_fits k p
  facing_fits k p (Some x) = moved_fits k p (facing x) (λ i. record { number = refl; of = refl })

  style_fits : (k : Kind) (p : MotionParts) (o : Option Style) → MotionFits k p (moved_by (option_map (λ s i. record i { style = s }) o) here p)
  style_fits k p None = unmoved_fits k p
  style_fits k p (Some x) = moved_fits k p (λ i. record i { style = x }) (λ i. record { number = refl; of = refl })

  begins_by : (b : Bool) (k : Kind) (secs : Num) (end : Point) (p : MotionParts) → k ≡ Glides → less zero_number secs ≡ b
      → MotionFits k p (if b then unmoved Yield (Glide (glide_from d secs (instance_at here p.targets) end)) p else moved Next Fresh (at_point end) here p)
  begins_by true k secs end p e h = record { faces = faces_same p.targets; clock = refl; noted = (refl, refl, (λ is h. h), (λ is h. h)); control = ((e, omega arith, h), refl, tt); clone = tt }
  begins_by false k secs end p e h = moved_fits k p (at_point end) (λ i. record { number = refl; of = refl })

  glides_by : (b : Bool) (k : Kind) (g : GlideState) (p : MotionParts) (x : Point) → Keeps d.clock k (Glide g)
      → MotionFits k p (if b then moved Yield (Glide g) (at_point x) here p else moved Next Fresh (at_point (to_point g)) here p)
  glides_by true k g p x h = record { faces = changed_faces (at_point x) (λ i. record { number = refl; of = refl }) here p.targets; clock = refl; noted = (refl, refl, (λ is h. h), (λ is h. h)); control = (h, refl, tt); clone = tt }
  glides_by false k g p x h = moved_fits k p (at_point (to_point g)) (λ i. record { number = refl; of = refl })

  glide_fits : (k : Kind) (secs : Num) (end : Point) (c : Context) (p : MotionParts) → k ≡ Glides → Brings d.clock k c → MotionFits k p (glide d secs end c here p)
  glide_fits k secs end (Glide g) p e h = glides_by (less (elapsed g.start d) g.duration) k g p _ h
  glide_fits k secs end c p e h = begins_by (less zero_number secs) k secs end p e refl

  glide_to_fits : (k : Kind) (secs : Num) (o : Option Point) (c : Context) (p : MotionParts) → k ≡ Glides → Brings d.clock k c → MotionFits k p (glide_to d secs o c here p)
  glide_to_fits k secs None c p e h = unmoved_fits k p
  glide_to_fits k secs (Some end) c p e h = glide_fits k secs end c p e h

  pointed_by : (b : Bool) (k : Kind) (name : List ℕ) (p : MotionParts) → IfGoes (if b
      then then_do (draw p.words) (λ w. Goes (moved Next Fresh (facing (scattered 360 w.value)) here (with_words w.words p)))
      else then_do (point_named name records d p) (λ u. Goes (moved_by (option_map facing (direction_towards (instance_at here p.targets) u.value)) here (with_words u.words p)))) (MotionFits k p)
  pointed_by true k name p = goes_any (draw p.words) _ (MotionFits k p) (λ w. moved_fits k (with_words w.words p) (facing (scattered 360 w.value)) (λ i. record { number = refl; of = refl }))
  pointed_by false k name p = goes_any (point_named name records d p) _ (MotionFits k p) (λ u. facing_fits k (with_words u.words p) (direction_towards (instance_at here p.targets) u.value))

  sprite_fits : (op : Opcode) (a : Arguments) (c : Context) (p : MotionParts) → Brings d.clock (kind op) c → IfGoes (sprite_row records d op a here c p) (MotionFits (kind op) p)
  sprite_fits MotionGoTo a c p h = goes_any (point_named (text_at (codes "TO") a) records d p) _ (MotionFits (kind MotionGoTo) p) (λ u. to_point_fits (kind MotionGoTo) (with_words u.words p) u.value)
  sprite_fits MotionGlideSecsToXY a c p h = glide_fits Glides (number_at (codes "SECS") a) _ c p refl h
  sprite_fits MotionGlideTo a c p h = goes_any (point_named (text_at (codes "TO") a) records d p) _ (MotionFits Glides p) (λ u. glide_to_fits Glides (number_at (codes "SECS") a) u.value c (with_words u.words p) refl h)
  sprite_fits MotionPointTowards a c p h = pointed_by (bytes_eq (text_at (codes "TOWARDS") a) (codes "_random_")) (kind MotionPointTowards) (text_at (codes "TOWARDS") a) p
  sprite_fits MotionSetRotationStyle a c p h = style_fits (kind MotionSetRotationStyle) p (style_named (field_at (codes "STYLE") a))
  sprite_fits op a c p h = moved_fits (kind op) p (stepped op a) (stepped_alike op a)

  stage_by : (b : Bool) (op : Opcode) (a : Arguments) (c : Context) (p : MotionParts) → Brings d.clock (kind op) c
      → IfGoes (if b then Goes (unmoved Next Fresh p) else sprite_row records d op a here c p) (MotionFits (kind op) p)
  stage_by true op a c p h = unmoved_fits (kind op) p
  stage_by false op a c p h = sprite_fits op a c p h

  pub motion_fits : (op : Opcode) (a : Arguments) (c : Context) (p : MotionParts) → Brings d.clock (kind op) c → IfGoes (motion_row records d op a here c p) (MotionFits (kind op) p)
  motion_fits op a c p h = stage_by (is_on_stage (instance_at here p.targets) records) op a c p h
