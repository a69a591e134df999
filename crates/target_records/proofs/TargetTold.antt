-- What the members of a target tell, part by part.
use Rattle.std.proofs.Common.{◌≡◌, ℕ, List, length, codes, Ok, refl}
use Rattle.std.specs.Prelude.{Bool}
use Rattle.project_json.specs.Tree.{Tree}
use Rattle.scratch_number.specs.declared.number.Num.{Num}
use Rattle.scratch_values.specs.Casts.{zero_number}
use Rattle.json_shapes.specs.Shapes as shape
use Rattle.machine_spec.specs.declared.instance.Style.{Style}
use Rattle.machine_spec.specs.declared.instance.Style.TheVariants.{AllAround}
use Rattle.machine_spec.specs.declared.records.VariableRecord.{VariableRecord}
use Rattle.machine_spec.specs.declared.records.ListRecord.{ListRecord}
use Rattle.machine_spec.specs.Costume.{costume_index}
use Rattle.project_spec.specs.Values.{num}
use Rattle.project_spec.specs.Targets.{Look, hundred, look_by, look_of, style_of, costumes_of, target_members}
use Rattle.target_records.specs.Reading.{variables_of, lists_of}

pub target_told : (at : List (List ℕ)) (ms : List (List ℕ × Tree)) (is_stage : Bool) (name : List ℕ) (variables : List VariableRecord) (lists : List ListRecord) (costumes : List (List ℕ)) (costume layer_order volume : Num) (look : Look) (style : Style) (k : ℕ) (seen : Look)
    → shape.required shape.truth (codes "isStage") at ms ≡ Ok is_stage
    → shape.required shape.text (codes "name") at ms ≡ Ok name
    → variables_of at ms ≡ Ok variables
    → lists_of at ms ≡ Ok lists
    → shape.required costumes_of (codes "costumes") at ms ≡ Ok costumes
    → shape.defaulted num zero_number (codes "currentCostume") at ms ≡ Ok costume
    → shape.defaulted num zero_number (codes "layerOrder") at ms ≡ Ok layer_order
    → shape.defaulted num hundred (codes "volume") at ms ≡ Ok volume
    → look_of at ms ≡ Ok look
    → shape.defaulted style_of AllAround (codes "rotationStyle") at ms ≡ Ok style
    → k ≡ costume_index (length costumes) costume
    → seen ≡ look_by is_stage look
    → target_members at ms ≡ Ok (record {
      is_stage = is_stage;
      name = name;
      variables = variables;
      lists = lists;
      costumes = costumes;
      costume = k;
      layer_order = layer_order;
      volume = volume;
      visible = seen.visible;
      x = seen.x;
      y = seen.y;
      size = seen.size;
      direction = seen.direction;
      style = style;
    })
target_told at ms is_stage name variables lists costumes costume layer_order volume look style k seen a b c d e f g h i j l m = rw (a, b, c, d, e, f, g, h, i, j, l, m) refl
