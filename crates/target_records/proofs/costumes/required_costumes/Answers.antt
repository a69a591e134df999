use Rattle.std.proofs.Common.{codes, length, map, refl}
use Rattle.project_json.specs.Size.{members_size}
use Rattle.project_json.specs.Tree.{fields_of}
use Rattle.project_json.specs.View.{tree, field}
use Rattle.target_records.proofs.Sizes.{few_read, costumes-length}
use Rattle.target_records.proofs.costumes.required_costumes.Goals as goal

pub returns-clause-few : goal.returns-clause-few
returns-clause-few c =
    few_read (λ ts. ts) (λ ts. length ts) c.costumes.result _ (members_size (fields_of (map field c.args.members.now))) (λ ts. refl) c.costumes.ensures (λ ts e. costumes-length (codes "costumes") c.args.place.now c.member.result (map field c.args.members.now) (tree c.in_ok-list.list.now) ts c.in_ok-list.ensures e) c.requires
