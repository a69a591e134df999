-- The rows of motion (after scratch-vm, blocks/scratch3_motion.js). On the stage they do nothing.
use Rattle.std.specs.Prelude.{ℕ, false, if◌then◌else◌, List, bytes_eq, codes, Option, None, Some, option_map}
use Rattle.std.specs.Option.{option_and_then}
use Rattle.opcode_table.specs.declared.opcode.Opcode.{Opcode}
use Rattle.opcode_table.specs.declared.opcode.Opcode.TheVariants.{MotionMoveSteps, MotionTurnRight, MotionTurnLeft, MotionGoTo, MotionGoToXY, MotionGlideSecsToXY, MotionGlideTo, MotionPointInDirection, MotionPointTowards, MotionChangeXBy, MotionSetX, MotionChangeYBy, MotionSetY, MotionSetRotationStyle}
use Rattle.scratch_number.specs.declared.number.Num.{Num}
use Rattle.scratch_number.specs.declared.number.Num.TheVariants.{Fixed}
use Rattle.scratch_number.specs.Arithmetic.{add, sub, mul, div}
use Rattle.scratch_number.specs.Angles.{sin, cos, atan2, degrees}
use Rattle.scratch_values.specs.Casts.{zero_number}
use Rattle.scratch_values.specs.Named.{Arguments}
use Rattle.machine_spec.specs.Outcome.{Outcome, Goes, then_do}
use Rattle.machine_spec.specs.Words.{Words, Drawn, undrawn, draw}
use Rattle.machine_spec.specs.Program.{Records, Style, AllAround, LeftRight, DontRotate}
use Rattle.machine_spec.specs.Threads.{GlideState, Context, Fresh, Glide, Control, Next, Yield}
use Rattle.machine_spec.specs.Stores.{Instance, Devices, instance_at, on_instance, is_on_stage, elapsed, less}
use Rattle.machine_spec.specs.View.{Row, number_at, text_at, field_at}
use Rattle.machine_spec.specs.Parts.{MotionParts}
use Rattle.machine_spec.specs.Numbers.{whole, direction_after}
use Rattle.machine_spec.specs.Random.{scattered}
use Rattle.machine_spec.specs.Sensing.{sprite}

pub record Point : Type 0 where
  pub x : Num
  pub y : Num

abbrev pub at_point : Point → Instance → Instance
at_point q i = record i { x = q.x; y = q.y }

abbrev pub facing : Num → Instance → Instance
facing d i = record i { direction = direction_after d i.direction }

-- a random place: two words, x first
abbrev pub random_point : Words → Outcome (Drawn (Option Point))
random_point w =
    then_do (draw w) (λ x. then_do (draw x.words) (λ y.
    undrawn y.words (Some (record { x = scattered 480 x.value; y = scattered 360 y.value }))))

-- the place of a name: the mouse, a random place, else that of the sprite of that name
abbrev pub point_named : List ℕ → Records → Devices → MotionParts → Outcome (Drawn (Option Point))
point_named name records d p =
    if bytes_eq name (codes "_mouse_") then undrawn p.words (Some (record { x = whole d.mouse_x; y = whole d.mouse_y }))
    else (if bytes_eq name (codes "_random_") then random_point p.words
    else undrawn p.words (option_map (λ i. record { x = i.x; y = i.y }) (sprite name records p.targets)))

-- the direction of a difference: 90 − atan2(dy, dx), where both are finite
abbrev pub direction_of : Num → Num → Option Num
direction_of (Fixed dx) (Fixed dy) = Some (sub (degrees 90) (atan2 (Fixed dy) (Fixed dx)))
direction_of dx dy = None

abbrev pub direction_towards : Instance → Option Point → Option Num
direction_towards i q = option_and_then (λ end. direction_of (sub end.x i.x) (sub end.y i.y)) q

abbrev pub style_named : List ℕ → Option Style
style_named t =
    if bytes_eq t (codes "all around") then Some AllAround
    else (if bytes_eq t (codes "left-right") then Some LeftRight
    else (if bytes_eq t (codes "don't rotate") then Some DontRotate
    else None))

-- the rows that always change the own instance, and nothing else
abbrev pub stepped : Opcode → Arguments → Instance → Instance
stepped MotionMoveSteps a i = record i {
  x = add i.x (mul (number_at (codes "STEPS") a) (sin i.direction));
  y = add i.y (mul (number_at (codes "STEPS") a) (cos i.direction));
}
stepped MotionTurnRight a i = facing (add i.direction (number_at (codes "DEGREES") a)) i
stepped MotionTurnLeft a i = facing (sub i.direction (number_at (codes "DEGREES") a)) i
stepped MotionPointInDirection a i = facing (number_at (codes "DIRECTION") a) i
stepped MotionGoToXY a i = record i { x = number_at (codes "X") a; y = number_at (codes "Y") a }
stepped MotionChangeXBy a i = record i { x = add i.x (number_at (codes "DX") a) }
stepped MotionSetX a i = record i { x = number_at (codes "X") a }
stepped MotionChangeYBy a i = record i { y = add i.y (number_at (codes "DY") a) }
stepped MotionSetY a i = record i { y = number_at (codes "Y") a }
stepped op a i = i

-- the own instance is changed, and a redraw is requested where it is visible
abbrev pub moved : Control → Context → (Instance → Instance) → ℕ → MotionParts → Row MotionParts
moved control context f here p = record {
  parts = record p { targets = on_instance here f p.targets };
  context = context;
  control = control;
  redraw = (instance_at here p.targets).visible;
}

-- nothing, and no redraw
abbrev pub unmoved : Control → Context → MotionParts → Row MotionParts
unmoved control context p = record { parts = p; context = context; control = control; redraw = false }

abbrev pub moved_by : Option (Instance → Instance) → ℕ → MotionParts → Row MotionParts
moved_by None here p = unmoved Next Fresh p
moved_by (Some f) here p = moved Next Fresh f here p

abbrev pub with_words : Words → MotionParts → MotionParts
with_words w p = record p { words = w }

-- so much of the way from one point to another
abbrev pub part_way : Num → Point → Point → Point
part_way part from to = record { x = add from.x (mul part (sub to.x from.x)); y = add from.y (mul part (sub to.y from.y)) }

-- the ends of a glide, and the glide that begins at an instance
abbrev pub from_point : GlideState → Point
from_point k = record { x = k.x0; y = k.y0 }

abbrev pub to_point : GlideState → Point
to_point k = record { x = k.x1; y = k.y1 }

abbrev pub glide_from : Devices → Num → Instance → Point → GlideState
glide_from d secs i end = record { start = d.clock; duration = secs; x0 = i.x; y0 = i.y; x1 = end.x; y1 = end.y }

-- a glide: first it keeps the clock and both ends, later it is where the clock says; the end that was kept counts
abbrev pub glide : Devices → Num → Point → Context → ℕ → MotionParts → Row MotionParts
glide d secs end (Glide k) here p =
    if less (elapsed k.start d) k.duration
    then moved Yield (Glide k) (at_point (part_way (div (elapsed k.start d) k.duration) (from_point k) (to_point k))) here p
    else moved Next Fresh (at_point (to_point k)) here p
glide d secs end c here p =
    if less zero_number secs
    then unmoved Yield (Glide (glide_from d secs (instance_at here p.targets) end)) p
    else moved Next Fresh (at_point end) here p

abbrev pub glide_to : Devices → Num → Option Point → Context → ℕ → MotionParts → Row MotionParts
glide_to d secs None c here p = unmoved Next Fresh p
glide_to d secs (Some end) c here p = glide d secs end c here p

-- point towards a name; a random direction takes one word
abbrev pub pointed : List ℕ → Records → Devices → ℕ → MotionParts → Outcome (Row MotionParts)
pointed name records d here p =
    if bytes_eq name (codes "_random_")
    then then_do (draw p.words) (λ w. Goes (moved Next Fresh (facing (scattered 360 w.value)) here (with_words w.words p)))
    else then_do (point_named name records d p) (λ q.
    Goes (moved_by (option_map facing (direction_towards (instance_at here p.targets) q.value)) here (with_words q.words p)))

abbrev pub sprite_row : Records → Devices → Opcode → Arguments → ℕ → Context → MotionParts → Outcome (Row MotionParts)
sprite_row records d MotionGoTo a here c p =
    then_do (point_named (text_at (codes "TO") a) records d p) (λ q. Goes (moved_by (option_map at_point q.value) here (with_words q.words p)))
sprite_row records d MotionGlideSecsToXY a here c p =
    Goes (glide d (number_at (codes "SECS") a) (record { x = number_at (codes "X") a; y = number_at (codes "Y") a }) c here p)
sprite_row records d MotionGlideTo a here c p =
    then_do (point_named (text_at (codes "TO") a) records d p) (λ q. Goes (glide_to d (number_at (codes "SECS") a) q.value c here (with_words q.words p)))
sprite_row records d MotionPointTowards a here c p = pointed (text_at (codes "TOWARDS") a) records d here p
sprite_row records d MotionSetRotationStyle a here c p = Goes (moved_by (option_map (λ s i. record i { style = s }) (style_named (field_at (codes "STYLE") a))) here p)
sprite_row records d op a here c p = Goes (moved Next Fresh (stepped op a) here p)

abbrev pub motion_row : Records → Devices → Opcode → Arguments → (here : ℕ) → Context → MotionParts → Outcome (Row MotionParts)
motion_row records d op a here c p =
    if is_on_stage (instance_at here p.targets) records then Goes (unmoved Next Fresh p) else sprite_row records d op a here c p
