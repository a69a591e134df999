-- The targets and the monitors of a project file, with their defaults (Scratch 3 project file format; scratch-vm,
-- serialization/sb3.js, and sprites/rendered-target.js).
use Rattle.std.specs.Prelude.{ℕ, pos, Bool, true, false, if◌then◌else◌, List, [], ◌∷◌, length, bytes_eq, codes, Some, Ok, Err}
use Rattle.project_json.specs.Tree.{Tree, object, no_fields}
use Rattle.scratch_number.specs.declared.number.Num.{Num}
use Rattle.scratch_values.specs.Casts.{zero_number}
use Rattle.scratch_values.specs.declared.value.Value.{Value}
use Rattle.json_shapes.specs.Places.{path}
use Rattle.json_shapes.specs.Shapes as shape
use Rattle.json_shapes.specs.Shapes.{Reader, ◌>>=◌}
use Rattle.machine_spec.specs.declared.instance.Style.{Style}
use Rattle.machine_spec.specs.declared.instance.Style.TheVariants.{AllAround, LeftRight, DontRotate}
use Rattle.machine_spec.specs.declared.records.VariableRecord.{VariableRecord}
use Rattle.machine_spec.specs.declared.records.ListRecord.{ListRecord}
use Rattle.machine_spec.specs.declared.records.TargetRecord.{TargetRecord}
use Rattle.machine_spec.specs.Program.{Monitor}
use Rattle.machine_spec.specs.Numbers.{whole, direction_after}
use Rattle.machine_spec.specs.Looks.{size_kept}
use Rattle.machine_spec.specs.Costume.{costume_index}
use Rattle.project_spec.specs.Values.{num, value}

-- Variables, lists, costumes

-- a variable is a list: its name, and its value
abbrev pub variable_of : Reader (List ℕ × Tree) VariableRecord
variable_of at (id, t) =
    shape.items (id ∷ at) t >>= (λ ts.
    shape.required_item shape.text 0 (id ∷ at) ts >>= (λ name.
    shape.required_item value 1 (id ∷ at) ts >>= (λ v.
    Ok (record { name = record { name = name; id = Some id }; value = v }))))

-- a list is a list: its name, and the list of its items
abbrev pub values_of : Reader Tree (List Value)
values_of at t = shape.items at t >>= shape.each value at

abbrev pub list_of : Reader (List ℕ × Tree) ListRecord
list_of at (id, t) =
    shape.items (id ∷ at) t >>= (λ ts.
    shape.required_item shape.text 0 (id ∷ at) ts >>= (λ name.
    shape.required_item values_of 1 (id ∷ at) ts >>= (λ items.
    Ok (record { name = record { name = name; id = Some id }; items = items }))))

abbrev pub costume_of : Reader Tree (List ℕ)
costume_of at t = shape.members at t >>= shape.required shape.text (codes "name") at

-- a list that is not empty
abbrev pub not_empty : {A : Type 0} → Reader (List A) (List A)
not_empty at [] = Err (path at)
not_empty at (a ∷ more) = Ok (a ∷ more)

abbrev pub costumes_of : Reader Tree (List (List ℕ))
costumes_of at t = shape.items at t >>= not_empty at >>= shape.each costume_of at

-- How a target looks

-- where a target stands and how it looks
pub record Look : Type 0 where
  pub visible : Bool
  pub x : Num
  pub y : Num
  pub size : Num
  pub direction : Num

abbrev pub hundred : Num
hundred = whole (pos 100)

abbrev pub ninety : Num
ninety = whole (pos 90)

-- the stage is shown at 0, 0 with size 100 and direction 90, whatever the file says
abbrev pub look_by : (is_stage : Bool) → Look → Look
look_by true look = record { visible = true; x = zero_number; y = zero_number; size = hundred; direction = ninety }
look_by false look = record look { size = size_kept look.size; direction = direction_after look.direction ninety }

abbrev pub look_of : Reader (List (List ℕ × Tree)) Look
look_of at ms =
    shape.defaulted shape.truth true (codes "visible") at ms >>= (λ visible.
    shape.defaulted num zero_number (codes "x") at ms >>= (λ x.
    shape.defaulted num zero_number (codes "y") at ms >>= (λ y.
    shape.defaulted num hundred (codes "size") at ms >>= (λ size.
    shape.defaulted num ninety (codes "direction") at ms >>= (λ direction.
    Ok (record { visible = visible; x = x; y = y; size = size; direction = direction }))))))

-- an unknown name of a style is all around
abbrev pub style_named : List ℕ → Style
style_named name = if bytes_eq name (codes "left-right") then LeftRight else (if bytes_eq name (codes "don't rotate") then DontRotate else AllAround)

abbrev pub style_of : Reader Tree Style
style_of at t = shape.text at t >>= (λ name. Ok (style_named name))

-- Targets

-- by its members in this order; the `blocks` are read later
abbrev pub target_members : Reader (List (List ℕ × Tree)) TargetRecord
target_members at ms =
    shape.required shape.truth (codes "isStage") at ms >>= (λ is_stage.
    shape.required shape.text (codes "name") at ms >>= (λ name.
    shape.defaulted shape.members [] (codes "variables") at ms >>= shape.each_member variable_of (codes "variables" ∷ at) >>= (λ variables.
    shape.defaulted shape.members [] (codes "lists") at ms >>= shape.each_member list_of (codes "lists" ∷ at) >>= (λ lists.
    shape.required costumes_of (codes "costumes") at ms >>= (λ costumes.
    shape.defaulted num zero_number (codes "currentCostume") at ms >>= (λ costume.
    shape.defaulted num zero_number (codes "layerOrder") at ms >>= (λ layer_order.
    shape.defaulted num hundred (codes "volume") at ms >>= (λ volume.
    look_of at ms >>= (λ look.
    shape.defaulted style_of AllAround (codes "rotationStyle") at ms >>= (λ style.
    let seen = look_by is_stage look in
    Ok (record {
      is_stage = is_stage;
      name = name;
      variables = variables;
      lists = lists;
      costumes = costumes;
      costume = costume_index (length costumes) costume;
      layer_order = layer_order;
      volume = volume;
      visible = seen.visible;
      x = seen.x;
      y = seen.y;
      size = seen.size;
      direction = seen.direction;
      style = style;
    })))))))))))

abbrev pub target_of : Reader Tree TargetRecord
target_of at t = shape.members at t >>= target_members at

-- Monitors

abbrev pub object_of : Reader Tree Tree
object_of at t = shape.members at t >>= (λ ms. Ok t)

abbrev pub monitor_members : Reader (List (List ℕ × Tree)) Monitor
monitor_members at ms =
    shape.required shape.text (codes "id") at ms >>= (λ id.
    shape.required shape.text (codes "opcode") at ms >>= (λ opcode.
    shape.optional shape.text (codes "spriteName") at ms >>= (λ sprite.
    shape.defaulted shape.truth false (codes "visible") at ms >>= (λ visible.
    shape.defaulted object_of (object no_fields) (codes "params") at ms >>= (λ params.
    Ok (record { id = id; opcode = opcode; sprite = sprite; visible = visible; params = params }))))))

abbrev pub monitor_of : Reader Tree Monitor
monitor_of at t = shape.members at t >>= monitor_members at
