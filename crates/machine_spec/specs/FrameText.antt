-- The text of a frame. Each line ends by a line feed; docs/formats.md has an example of each kind of line.
use Rattle.std.specs.Prelude.{ℕ, zero, suc, ◌+◌, ◌==◌, ◌&&◌, ◌||◌, nat_lt, pos, Bool, true, false, not, if◌then◌else◌, List, [], ◌∷◌, ◌++◌, length, flat_map, bytes_eq, codes, slice_get, unwrap_or, Option, None, Some, option_map}
use Rattle.std.specs.Fmt.{decimal}
use Rattle.std.specs.List.{join_with_byte, enumerate_from, zip}
use Rattle.std.specs.Option.{option_and_then}
use Rattle.project_json.specs.Parts.{member_of, text_in, is_null}
use Rattle.project_json.specs.Tree.{Tree}
use Rattle.scratch_number.specs.declared.number.Num.{Num}
use Rattle.scratch_number.specs.declared.number.Num.TheVariants.{Fixed}
use Rattle.scratch_number.specs.Arithmetic.{round}
use Rattle.scratch_number.specs.Text as numbers
use Rattle.scratch_values.specs.declared.value.Value.{Value}
use Rattle.scratch_values.specs.declared.value.Value.TheVariants.{Number, Text}
use Rattle.scratch_values.specs.Value.{text_of}
use Rattle.machine_spec.specs.Program.{Program, Style, AllAround, LeftRight, DontRotate, Records, Monitor, record_at, stage_number}
use Rattle.machine_spec.specs.Stores.{Instance, Say, Shown, Made, Variables, Question, Devices, instance_at, record_of, value_in, items_in, elapsed}
use Rattle.machine_spec.specs.declared.bubble.Say.TheVariants as say
use Rattle.machine_spec.specs.declared.variables.Shown.TheVariants as shown
use Rattle.machine_spec.specs.Effects.{effect_names}
use Rattle.machine_spec.specs.World.{World}
use Rattle.machine_spec.specs.Monitors.{what_shows}
use Rattle.machine_spec.specs.Sensing.{sprite, costume_name, number_or_name}

-- Words of a line

-- a byte of a quoted text: backslash, quote, line feed and carriage return are escaped
abbrev pub escaped : ℕ → List ℕ
escaped b =
    if b == 92 then codes "\\\\"
    else (if b == 34 then codes "\\\""
    else (if b == 10 then codes "\\n"
    else (if b == 13 then codes "\\r"
    else b ∷ [])))

abbrev pub quoted : List ℕ → List ℕ
quoted text = 34 ∷ flat_map escaped text ++ 34 ∷ []

-- words with a space between each two, and a line end
abbrev pub line : List (List ℕ) → List ℕ
line words = join_with_byte 32 words ++ 10 ∷ []

-- The stage and the sprites

abbrev pub style_text : Style → List ℕ
style_text AllAround = codes "all around"
style_text LeftRight = codes "left-right"
style_text DontRotate = codes "don't rotate"

-- the number of the present costume from 1, and its name
abbrev pub costume_words : Records → Instance → List (List ℕ)
costume_words records i = decimal (i.costume + 1) ∷ quoted (costume_name records i) ∷ []

-- the stage has the place 0 of the executable order, and sprites those from 1 on
abbrev pub instance_line : Records → ℕ → Instance → List ℕ
instance_line records zero i = line (codes "stage" ∷ costume_words records i)
instance_line records (suc n) i =
    line (codes "sprite" ∷ decimal (suc n) ∷ quoted (record_of i records).name
    ∷ (if nat_lt i.number (length records.targets) then codes "original" else codes "clone")
    ∷ (if i.visible then codes "shown" else codes "hidden")
    ∷ numbers.text_of i.x ∷ numbers.text_of i.y ∷ numbers.text_of i.direction ∷ numbers.text_of i.size
    ∷ costume_words records i ++ quoted (style_text i.style) ∷ [])

-- an effect that is not 0
abbrev pub effect_line : List ℕ × Num → List ℕ
effect_line (name, Fixed (pos zero)) = []
effect_line (name, n) = line (codes "effect" ∷ name ∷ numbers.text_of n ∷ [])

abbrev pub say_text : Say → List ℕ
say_text say.Say = codes "say"
say_text say.Think = codes "think"

-- a bubble with a text, of an instance that is visible
abbrev pub bubble_line : Instance → List ℕ
bubble_line i = if i.visible && not (length i.bubble.text == 0) then line (say_text i.bubble.kind ∷ quoted i.bubble.text ∷ []) else []

abbrev pub instance_lines : Records → ℕ × Instance → List ℕ
instance_lines records x = instance_line records x.0 x.1 ++ (flat_map effect_line (zip effect_names x.1.effects) ++ bubble_line x.1)

-- The first question: one that is shown as a bubble has the empty text

abbrev pub question_line : List Question → List ℕ
question_line [] = []
question_line (q ∷ qs) = line (codes "ask" ∷ quoted (if q.bubble then [] else q.text) ∷ [])

-- Monitors

-- a label with the name of its sprite in front
abbrev pub label : Option (List ℕ) → List ℕ → List ℕ
label None name = quoted name
label (Some sprite) name = quoted (sprite ++ 58 ∷ 32 ∷ name)

abbrev pub value_line : List ℕ → Value → List ℕ
value_line label v = line (codes "monitor" ∷ label ∷ quoted (text_of v) ∷ [])

abbrev pub item_line : Value → List ℕ
item_line v = line (codes "item" ∷ quoted (text_of v) ∷ [])

abbrev pub list_lines : List ℕ → List Value → List ℕ
list_lines label items = line (codes "list" ∷ label ∷ decimal (length items) ∷ []) ++ flat_map item_line items

-- the name of a variable and of a list of a target
abbrev pub variable_name : Records → (target index : ℕ) → List ℕ
variable_name records t k = unwrap_or (option_map (λ r. r.name.name) (slice_get (record_at t records).variables k)) []

abbrev pub list_name : Records → (target index : ℕ) → List ℕ
list_name records t k = unwrap_or (option_map (λ r. r.name.name) (slice_get (record_at t records).lists k)) []

-- a variable or list of an original, under the name of a sprite or none
abbrev pub shown_lines : Option (List ℕ) → Records → Variables → Shown → List ℕ
shown_lines sprite records vs (shown.Variable t k) = value_line (label sprite (variable_name records t k)) (value_in t k vs)
shown_lines sprite records vs (shown.List t k) = list_lines (label sprite (list_name records t k)) (items_in t k vs)

-- a monitor of a costume shows its number where NUMBER_NAME is absent, null or `number`, else its name
abbrev pub is_number_name : Option Tree → Bool
is_number_name None = true
is_number_name (Some t) = is_null t || unwrap_or (option_map (bytes_eq (codes "number")) (text_in t)) false

abbrev pub shows_number : Monitor → Bool
shows_number m = is_number_name (member_of m.params (codes "NUMBER_NAME"))

-- what a monitor tells that shows no variable and no list, with no sprite's name and with one
abbrev pub common_value : Records → List Instance → Devices → Monitor → Option Value
common_value records targets d m =
    if bytes_eq m.opcode (codes "sensing_timer") then Some (Number (elapsed d.timer d))
    else (if bytes_eq m.opcode (codes "sensing_answer") then Some (Text d.answer)
    else (if bytes_eq m.opcode (codes "looks_backdropnumbername") then Some (number_or_name (shows_number m) records (instance_at (stage_number records) targets))
    else None))

abbrev pub sprite_value : Records → List Instance → Devices → Monitor → Instance → Option Value
sprite_value records targets d m i =
    if bytes_eq m.opcode (codes "motion_xposition") then Some (Number i.x)
    else (if bytes_eq m.opcode (codes "motion_yposition") then Some (Number i.y)
    else (if bytes_eq m.opcode (codes "motion_direction") then Some (Number i.direction)
    else (if bytes_eq m.opcode (codes "looks_size") then Some (Number (round i.size))
    else (if bytes_eq m.opcode (codes "looks_costumenumbername") then Some (number_or_name (shows_number m) records i)
    else common_value records targets d m))))

-- of a sprite that is not found nothing
abbrev pub other_value : Option (List ℕ) → Records → List Instance → Devices → Monitor → Option Value
other_value None records targets d m = common_value records targets d m
other_value (Some name) records targets d m = option_and_then (sprite_value records targets d m) (sprite name records targets)

-- what monitors read of a world
pub record Stage : Type 0 where
  pub targets : List Instance
  pub variables : Variables
  pub devices : Devices

abbrev pub monitor_by : Option Shown → Records → Stage → Monitor → List ℕ
monitor_by (Some what) records w m = shown_lines m.sprite records w.variables what
monitor_by None records w m = unwrap_or (option_map (value_line (label m.sprite m.opcode)) (other_value m.sprite records w.targets w.devices m)) []

-- a monitor of the file and whether it is visible
abbrev pub monitor_lines : Records → Stage → Monitor × Bool → List ℕ
monitor_lines records w x = if x.1 then monitor_by (what_shows records x.0) records w x.0 else []

-- a monitor that a block added has the name of its target in front, unless it is the stage
abbrev pub target_name : Records → ℕ → Option (List ℕ)
target_name records t = if (record_at t records).is_stage then None else Some (record_at t records).name

abbrev pub target_of : Shown → ℕ
target_of (shown.Variable t k) = t
target_of (shown.List t k) = t

abbrev pub made_lines : Records → Variables → Made → List ℕ
made_lines records vs m = if m.visible then shown_lines (target_name records (target_of m.what)) records vs m.what else []

-- The frame

abbrev pub stage_of : {T : Type 0} → World T → Stage
stage_of w = record { targets = w.targets; variables = w.variables; devices = w.devices }

abbrev pub first_line : {T : Type 0} → World T → List ℕ
first_line w = line (codes "frame" ∷ decimal w.frame ∷ codes "clock" ∷ decimal w.devices.clock ∷ codes "words" ∷ decimal w.words.drawn ∷ [])

-- the first line, the instances in executable order, the question, the monitors of the file and the added ones, the last line
abbrev pub frame_text : {T : Type 0} → Program → World T → List ℕ
frame_text p w =
    first_line w
    ++ (flat_map (instance_lines p.records) (enumerate_from 0 w.targets)
    ++ (question_line w.devices.questions
    ++ (flat_map (monitor_lines p.records (stage_of w)) (zip p.records.monitors w.variables.file_monitors)
    ++ (flat_map (made_lines p.records w.variables) w.variables.made
    ++ line (codes "end" ∷ [])))))
