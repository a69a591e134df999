-- What the sensing blocks report (after scratch-vm, blocks/scratch3_sensing.js and io/keyboard.js).
use Rattle.std.specs.Prelude.{ℕ, ◌+◌, ◌==◌, ◌||◌, pos, Bool, true, false, not, if◌then◌else◌, List, [], ◌∷◌, length, bytes_eq, codes, chars, position, slice_index_or, Option, None, Some}
use Rattle.std.specs.Char.{to_ascii_uppercase}
use Rattle.std.specs.List.{list_any}
use Rattle.std.specs.Option.{option_and_then}
use Rattle.scratch_number.specs.declared.number.Num.{Num}
use Rattle.scratch_number.specs.Arithmetic.{add, sub, mul}
use Rattle.scratch_number.specs.Angles.{sqrt}
use Rattle.scratch_values.specs.declared.value.Value.{Value}
use Rattle.scratch_values.specs.declared.value.Value.TheVariants.{Number, Text}
use Rattle.scratch_values.specs.Casts.{zero_number}
use Rattle.machine_spec.specs.Program.{Records, stage_number, sprite_named}
use Rattle.machine_spec.specs.Stores.{Instance, Devices, Key, live, instance_at, is_on_stage, record_of, store_at}
use Rattle.machine_spec.specs.declared.devices.Key.TheVariants.{Space, Enter, Left, Right, Up, Down, One}
use Rattle.machine_spec.specs.View.{View}
use Rattle.machine_spec.specs.Numbers.{whole}

-- the instance that evaluates, and the stage
abbrev pub own : View → Instance
own v = instance_at v.here v.targets

abbrev pub stage_of : View → Instance
stage_of v = instance_at (stage_number v.records) v.targets

-- the original of the first sprite with a name
abbrev pub sprite : List ℕ → Records → List Instance → Option Instance
sprite name records targets = option_and_then (λ n. live n targets) (sprite_named name records)

-- the key that a text means: a key's name, else its first character, a space being the space key, an ASCII letter in upper
-- case; the empty text is no key
abbrev pub key_of_chars : List ℕ → Option Key
key_of_chars [] = None
key_of_chars (c ∷ cs) = if c == 32 then Some Space else Some (One (to_ascii_uppercase c))

abbrev pub key_named : List ℕ → Option Key
key_named t =
    if bytes_eq t (codes "space") then Some Space
    else (if bytes_eq t (codes "enter") then Some Enter
    else (if bytes_eq t (codes "left arrow") then Some Left
    else (if bytes_eq t (codes "right arrow") then Some Right
    else (if bytes_eq t (codes "up arrow") then Some Up
    else (if bytes_eq t (codes "down arrow") then Some Down
    else None)))))

abbrev pub key_or : Option Key → Option Key → Option Key
key_or None other = other
key_or (Some k) other = Some k

abbrev pub key_of : List ℕ → Option Key
key_of t = key_or (key_named t) (key_of_chars (chars t))

abbrev pub is_key : Key → Key → Bool
is_key Space Space = true
is_key Enter Enter = true
is_key Left Left = true
is_key Right Right = true
is_key Up Up = true
is_key Down Down = true
is_key (One c) (One d) = c == d
is_key k l = false

abbrev pub is_held : Option Key → Devices → Bool
is_held None d = false
is_held (Some k) d = list_any (is_key k) d.keys

-- key T pressed; `any` is whether a key is held
abbrev pub key_pressed : List ℕ → Devices → Bool
key_pressed t d = if bytes_eq t (codes "any") then not (length d.keys == 0) else is_held (key_of t) d

-- √(dx² + dy²)
abbrev pub distance : Num → Num → Num
distance dx dy = sqrt (add (mul dx dx) (mul dy dy))

abbrev pub distance_to_sprite : Option Instance → Instance → Num
distance_to_sprite None i = whole (pos 10000)
distance_to_sprite (Some j) i = distance (sub j.x i.x) (sub j.y i.y)

-- distance to T: 10000 from the stage or to no sprite
abbrev pub distance_to : List ℕ → View → Num
distance_to t v =
    if is_on_stage (own v) v.records then whole (pos 10000)
    else (if bytes_eq t (codes "_mouse_") then distance (sub (whole v.devices.mouse_x) (own v).x) (sub (whole v.devices.mouse_y) (own v).y)
    else distance_to_sprite (sprite t v.records v.targets) (own v))

-- the name of the present costume, and its number from 1
abbrev pub costume_name : Records → Instance → List ℕ
costume_name records i = slice_index_or (record_of i records).costumes i.costume []

abbrev pub costume_number : Instance → Value
costume_number i = Number (whole (pos (i.costume + 1)))

-- the number or the name of the costume
abbrev pub number_or_name : Bool → Records → Instance → Value
number_or_name true records i = costume_number i
number_or_name false records i = Text (costume_name records i)

-- what the stage and sprites alike tell: the volume, else the first variable of its own with that name, else 0
abbrev pub variable_at_some : Option ℕ → List Value → Value
variable_at_some None values = Number zero_number
variable_at_some (Some k) values = slice_index_or values k (Number zero_number)

abbrev pub common_property : List ℕ → Instance → View → Value
common_property p i v =
    if bytes_eq p (codes "volume") then Number (record_of i v.records).volume
    else variable_at_some (position (λ r. bytes_eq r.name.name p) (record_of i v.records).variables) (store_at i.number v.variables.stores).values

abbrev pub stage_property : List ℕ → Instance → View → Value
stage_property p i v =
    if bytes_eq p (codes "background #") || bytes_eq p (codes "backdrop #") then costume_number i
    else (if bytes_eq p (codes "backdrop name") then Text (costume_name v.records i)
    else common_property p i v)

abbrev pub sprite_property : List ℕ → Instance → View → Value
sprite_property p i v =
    if bytes_eq p (codes "x position") then Number i.x
    else (if bytes_eq p (codes "y position") then Number i.y
    else (if bytes_eq p (codes "direction") then Number i.direction
    else (if bytes_eq p (codes "costume #") then costume_number i
    else (if bytes_eq p (codes "costume name") then Text (costume_name v.records i)
    else (if bytes_eq p (codes "size") then Number i.size
    else common_property p i v)))))

abbrev pub property_by : Option Instance → List ℕ → View → Value
property_by None p v = Number zero_number
property_by (Some i) p v = sprite_property p i v

-- PROPERTY of OBJECT: of `_stage_` or of the sprite of that name, and 0 where there is none
abbrev pub property_of : List ℕ → List ℕ → View → Value
property_of p object v =
    if bytes_eq object (codes "_stage_") then stage_property p (stage_of v) v
    else property_by (sprite object v.records v.targets) p v
