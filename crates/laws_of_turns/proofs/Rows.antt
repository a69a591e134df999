-- What each row keeps within the limit: instances, stores, and what it says of its thread. Here, the rows of motion.
use Rattle.std.proofs.Common.{ℕ, ◌+◌, ◌*◌, ◌/◌, ◌^◌, Bool, true, false, if◌then◌else◌, List, Option, Some, None}
use Rattle.std.specs.Prelude.{pos, ◌+ℤ◌, ◌-ℤ◌, ◌*ℤ◌, IfSome, option_map, ◌==◌, codes, bytes_eq}
use Rattle.opcode_table.specs.declared.opcode.Opcode.{Opcode}
use Rattle.opcode_table.specs.declared.opcode.Opcode.TheVariants.{MotionMoveSteps, MotionTurnRight, MotionTurnLeft, MotionGoTo, MotionGoToXY, MotionGlideSecsToXY, MotionGlideTo, MotionPointInDirection, MotionPointTowards, MotionChangeXBy, MotionSetX, MotionChangeYBy, MotionSetY, MotionSetRotationStyle}
use Rattle.scratch_number.specs.declared.number.Num.{Num}
use Rattle.scratch_number.specs.declared.number.Num.TheVariants.{Fixed, Inf, NegInf, Nan}
use Rattle.scratch_number.specs.Number.{IsWithin, floor_by}
use Rattle.scratch_number.specs.Arithmetic.{add, sub, mul, div}
use Rattle.scratch_number.specs.Angles.{sin, cos}
use Rattle.scratch_values.specs.Casts.{zero_number}
use Rattle.scratch_values.specs.Named.{Arguments}
use Rattle.machine_spec.specs.Outcome.{Outcome, IfGoes}
use Rattle.machine_spec.specs.Words.{Words, Drawn, draw}
use Rattle.machine_spec.specs.Program.{Records}
use Rattle.machine_spec.specs.declared.instance.Style.{Style}
use Rattle.machine_spec.specs.declared.instance.Instance.{Instance}
use Rattle.machine_spec.specs.declared.threads.Context.{Context}
use Rattle.machine_spec.specs.declared.threads.Context.TheVariants.{Fresh, Glide}
use Rattle.machine_spec.specs.declared.threads.Control.{Control}
use Rattle.machine_spec.specs.declared.threads.Control.TheVariants.{Next, Yield, Call}
use Rattle.machine_spec.specs.declared.threads.GlideState.{GlideState}
use Rattle.machine_spec.specs.Stores.{Devices, instance_at, is_on_stage, elapsed, less, on_instance}
use Rattle.machine_spec.specs.View.{Row, number_at, text_at, field_at}
use Rattle.machine_spec.specs.Parts.{MotionParts}
use Rattle.machine_spec.specs.Numbers.{direction_after}
use Rattle.machine_spec.specs.Random.{scattered}
use Rattle.machine_spec.specs.Sensing.{sprite}
use Rattle.machine_spec.specs.Motion.{Point, at_point, facing, random_point, point_named, direction_towards, style_named, stepped, moved, unmoved, moved_by, with_words, part_way, from_point, to_point, glide_from, glide, glide_to, pointed, sprite_row, motion_row}
use Rattle.laws_of_threads.specs.Lists.{Each}
use Rattle.laws_of_threads.proofs.RowFits.{goes_then, goes_any}
use Rattle.laws_of_turns.specs.Within.{AreParamsWithin, IsContextWithin, IsInstanceWithin}
use Rattle.laws_of_turns.proofs.Numbers.{number_within, add_within}
use Rattle.laws_of_turns.proofs.Lists.{map_has, each_first_changed}
use Rattle.laws_of_turns.proofs.Values.{AreArgumentsWithin, number_at_within, whole_within, sprite_found_within}

-- the parameters of a call
abbrev pub IsControlWithin : Control → Type 0
IsControlWithin (Call definition params) = AreParamsWithin params
IsControlWithin _ = Unit {0}

pub record IsRowWithin {P : Type 0} (Q : P → Type 0) (x : Row P) : Type 0 where
  pub parts : Q x.parts
  pub context : IsContextWithin x.context
  pub control : IsControlWithin x.control

pub if_goes : {A : Type 0} (b : Bool) (o u : Outcome A) (P : A → Type 0) → IfGoes o P → IfGoes u P → IfGoes (if b then o else u) P
if_goes true o u P h g = h
if_goes false o u P h g = g

-- a change of an instance keeps it within
abbrev pub KeepsInstance : (Instance → Instance) → Type 0
KeepsInstance f = (i : Instance) → IsInstanceWithin i → IsInstanceWithin (f i)

-- Motion

abbrev pub IsMotionWithin : MotionParts → Type 0
IsMotionWithin p = Each IsInstanceWithin p.targets

record IsPointWithin (q : Point) : Type 0 where
  x : IsWithin q.x
  y : IsWithin q.y

direction_within : (d now : Num) → IsWithin now → IsWithin (direction_after d now)
direction_within (Fixed d) now h = number_within (d -ℤ (pos 360000000 *ℤ floor_by (d +ℤ pos 179000000) 360000000))
direction_within Inf now h = h
direction_within NegInf now h = h
direction_within Nan now h = h

at_point_within : (q : Point) → IsPointWithin q → KeepsInstance (at_point q)
at_point_within q g i h = record { x = g.x; y = g.y; direction = h.direction; size = h.size }

facing_within : (d : Num) → KeepsInstance (facing d)
facing_within d i h = record { x = h.x; y = h.y; direction = direction_within d i.direction h.direction; size = h.size }

stepped_within : (op : Opcode) (a : Arguments) → AreArgumentsWithin a → KeepsInstance (stepped op a)
stepped_within MotionMoveSteps a g i h = record {
  x = add_within i.x (mul (number_at (codes "STEPS") a) (sin i.direction));
  y = add_within i.y (mul (number_at (codes "STEPS") a) (cos i.direction));
  direction = h.direction;
  size = h.size;
}
stepped_within MotionTurnRight a g i h = facing_within (add i.direction (number_at (codes "DEGREES") a)) i h
stepped_within MotionTurnLeft a g i h = facing_within (sub i.direction (number_at (codes "DEGREES") a)) i h
stepped_within MotionPointInDirection a g i h = facing_within (number_at (codes "DIRECTION") a) i h
stepped_within MotionGoToXY a g i h = record { x = number_at_within (codes "X") a g; y = number_at_within (codes "Y") a g; direction = h.direction; size = h.size }
stepped_within MotionChangeXBy a g i h = record { x = add_within i.x (number_at (codes "DX") a); y = h.y; direction = h.direction; size = h.size }
stepped_within MotionSetX a g i h = record { x = number_at_within (codes "X") a g; y = h.y; direction = h.direction; size = h.size }
stepped_within MotionChangeYBy a g i h = record { x = h.x; y = add_within i.y (number_at (codes "DY") a); direction = h.direction; size = h.size }
stepped_within MotionSetY a g i h = record { x = h.x; y = number_at_within (codes "Y") a g; direction = h.direction; size = h.size }
stepped_within op a g i h = h

pub on_instance_within : (here : ℕ) (f : Instance → Instance) (is : List Instance) → KeepsInstance f → Each IsInstanceWithin is → Each IsInstanceWithin (on_instance here f is)
on_instance_within here f is g h = each_first_changed IsInstanceWithin f g (λ i. i.number == here) is h

moved_within : (control : Control) (c : Context) (f : Instance → Instance) (here : ℕ) (p : MotionParts) → IsControlWithin control → IsContextWithin c → KeepsInstance f → IsMotionWithin p
    → IsRowWithin IsMotionWithin (moved control c f here p)
moved_within control c f here p k g m h = record { parts = on_instance_within here f p.targets m h; context = g; control = k }

moved_by_within : (o : Option (Instance → Instance)) (here : ℕ) (p : MotionParts) → IfSome o KeepsInstance → IsMotionWithin p → IsRowWithin IsMotionWithin (moved_by o here p)
moved_by_within None here p m h = record { parts = h; context = tt; control = tt }
moved_by_within (Some f) here p m h = moved_within Next Fresh f here p tt tt m h

abbrev IsPlacedWithin : Drawn (Option Point) → Type 0
IsPlacedWithin d = IfSome d.value IsPointWithin

scattered_within : (n word : ℕ) → IsWithin (scattered n word)
scattered_within n word = whole_within (pos ((n * word + 2 ^ 31) / 2 ^ 32) -ℤ pos (n / 2))

random_point_within : (w : Words) → IfGoes (random_point w) IsPlacedWithin
random_point_within w = goes_any (draw w) _ IsPlacedWithin (λ x. goes_any (draw x.words) _ IsPlacedWithin (λ y. record { x = scattered_within 480 x.value; y = scattered_within 360 y.value }))

point_within : (name : List ℕ) (records : Records) (d : Devices) (p : MotionParts) → IsMotionWithin p → IfGoes (point_named name records d p) IsPlacedWithin
point_within name records d p h =
    if_goes (bytes_eq name (codes "_mouse_")) _ _ IsPlacedWithin (record { x = whole_within d.mouse_x; y = whole_within d.mouse_y })
    (if_goes (bytes_eq name (codes "_random_")) _ _ IsPlacedWithin (random_point_within p.words)
    (map_has IsInstanceWithin IsPointWithin (λ i. record { x = i.x; y = i.y }) (sprite name records p.targets) (λ i k. record { x = k.x; y = k.y }) (sprite_found_within name records p.targets h)))

-- Glides

part_way_within : (part : Num) (from to : Point) → IsPointWithin (part_way part from to)
part_way_within part from to = record { x = add_within from.x (mul part (sub to.x from.x)); y = add_within from.y (mul part (sub to.y from.y)) }

glide_on_within : (b : Bool) (d : Devices) (k : GlideState) (here : ℕ) (p : MotionParts) → IsContextWithin (Glide k) → IsMotionWithin p
    → IsRowWithin IsMotionWithin (if b then moved Yield (Glide k) (at_point (part_way (div (elapsed k.start d) k.duration) (from_point k) (to_point k))) here p else moved Next Fresh (at_point (to_point k)) here p)
glide_on_within true d k here p g h = moved_within Yield (Glide k) _ here p tt g (at_point_within _ (part_way_within (div (elapsed k.start d) k.duration) (from_point k) (to_point k))) h
glide_on_within false d k here p g h = moved_within Next Fresh _ here p tt tt (at_point_within (to_point k) (record { x = g.0; y = g.1 })) h

glide_new_within : (b : Bool) (d : Devices) (secs : Num) (end : Point) (here : ℕ) (p : MotionParts) → IsPointWithin end → IsMotionWithin p
    → IsRowWithin IsMotionWithin (if b then unmoved Yield (Glide (glide_from d secs (instance_at here p.targets) end)) p else moved Next Fresh (at_point end) here p)
glide_new_within true d secs end here p g h = record { parts = h; context = (g.x, g.y); control = tt }
glide_new_within false d secs end here p g h = moved_within Next Fresh (at_point end) here p tt tt (at_point_within end g) h

glide_within : (d : Devices) (secs : Num) (end : Point) (c : Context) (here : ℕ) (p : MotionParts) → IsPointWithin end → IsContextWithin c → IsMotionWithin p → IsRowWithin IsMotionWithin (glide d secs end c here p)
glide_within d secs end (Glide k) here p e g h = glide_on_within (less (elapsed k.start d) k.duration) d k here p g h
glide_within d secs end c here p e g h = glide_new_within (less zero_number secs) d secs end here p e h

glide_to_within : (d : Devices) (secs : Num) (o : Option Point) (c : Context) (here : ℕ) (p : MotionParts) → IfSome o IsPointWithin → IsContextWithin c → IsMotionWithin p → IsRowWithin IsMotionWithin (glide_to d secs o c here p)
glide_to_within d secs None c here p e g h = record { parts = h; context = tt; control = tt }
glide_to_within d secs (Some end) c here p e g h = glide_within d secs end c here p e g h

any_keeps : (o : Option Num) → IfSome (option_map facing o) KeepsInstance
any_keeps None = tt
any_keeps (Some d) = facing_within d

style_keeps : (o : Option Style) → IfSome (option_map (λ s i. record i { style = s }) o) KeepsInstance
style_keeps None = tt
style_keeps (Some s) = λ i h. record { x = h.x; y = h.y; direction = h.direction; size = h.size }

place_keeps : (o : Option Point) → IfSome o IsPointWithin → IfSome (option_map at_point o) KeepsInstance
place_keeps None h = tt
place_keeps (Some q) h = at_point_within q h

abbrev IsMotionRow : Row MotionParts → Type 0
IsMotionRow x = IsRowWithin IsMotionWithin x

module _ (records : Records) (d : Devices) (here : ℕ) where
  pointed_within : (name : List ℕ) (p : MotionParts) → IsMotionWithin p → IfGoes (pointed name records d here p) IsMotionRow
  pointed_within name p h =
      if_goes (bytes_eq name (codes "_random_")) _ _ IsMotionRow
      (goes_any (draw p.words) _ IsMotionRow (λ w. moved_within Next Fresh (facing (scattered 360 w.value)) here (with_words w.words p) tt tt (facing_within (scattered 360 w.value)) h))
      (goes_any (point_named name records d p) _ IsMotionRow (λ q. moved_by_within (option_map facing (direction_towards (instance_at here p.targets) q.value)) here (with_words q.words p) (any_keeps (direction_towards (instance_at here p.targets) q.value)) h))

  sprite_row_within : (op : Opcode) (a : Arguments) (c : Context) (p : MotionParts) → AreArgumentsWithin a → IsContextWithin c → IsMotionWithin p → IfGoes (sprite_row records d op a here c p) IsMotionRow
  sprite_row_within MotionGoTo a c p g k h = goes_then (point_named (text_at (codes "TO") a) records d p) _ IsPlacedWithin IsMotionRow (point_within (text_at (codes "TO") a) records d p h)
      (λ q m. moved_by_within (option_map at_point q.value) here (with_words q.words p) (place_keeps q.value m) h)
  sprite_row_within MotionGlideSecsToXY a c p g k h = glide_within d (number_at (codes "SECS") a) (record { x = number_at (codes "X") a; y = number_at (codes "Y") a }) c here p
      (record { x = number_at_within (codes "X") a g; y = number_at_within (codes "Y") a g }) k h
  sprite_row_within MotionGlideTo a c p g k h = goes_then (point_named (text_at (codes "TO") a) records d p) _ IsPlacedWithin IsMotionRow (point_within (text_at (codes "TO") a) records d p h)
      (λ q m. glide_to_within d (number_at (codes "SECS") a) q.value c here (with_words q.words p) m k h)
  sprite_row_within MotionPointTowards a c p g k h = pointed_within (text_at (codes "TOWARDS") a) p h
  sprite_row_within MotionSetRotationStyle a c p g k h = moved_by_within _ here p (style_keeps (style_named (field_at (codes "STYLE") a))) h
  sprite_row_within op a c p g k h = moved_within Next Fresh (stepped op a) here p tt tt (stepped_within op a g) h

  pub motion_within : (op : Opcode) (a : Arguments) (c : Context) (p : MotionParts) → AreArgumentsWithin a → IsContextWithin c → IsMotionWithin p → IfGoes (motion_row records d op a here c p) IsMotionRow
  motion_within op a c p g k h = if_goes (is_on_stage (instance_at here p.targets) records) _ _ IsMotionRow (record { parts = h; context = tt; control = tt }) (sprite_row_within op a c p g k h)
