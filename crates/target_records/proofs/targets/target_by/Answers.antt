use Rattle.std.proofs.Common.{map, ap, ◌∙◌, rules}
use Rattle.project_json.specs.View.{field}
use Rattle.machine_spec.specs.Costume.{costume_index}
use Rattle.target_records.specs.Looks.{look_in}
use Rattle.target_records.proofs.TargetTold.{target_told}
use Rattle.target_records.proofs.targets.target_by.Goals as goal

pub returns : goal.returns
returns c =
    target_told c.args.place.now (map field c.args.members.now) c.in_ok-is_stage.is_stage c.in_ok-name.name c.in_ok-variables.variables c.in_ok-lists.lists c.in_ok-costumes.costumes c.in_ok-costume.costume c.in_ok-layer_order.layer_order c.in_ok-volume.volume (look_in c.in_ok-look.look) c.in_ok-style.style _ (look_in c.seen-look.result)
    (search rules) (search rules) (search rules) (search rules) (search rules) (search rules) (search rules) (search rules) (search rules) (search rules)
    (c.costume_index.ensures ∙ ap (λ n. costume_index n c.in_ok-costume.costume) c.len.ensures) c.seen-look.ensures
