use Rattle.std.proofs.Common.{map, length}
use Rattle.std.proofs.lemmas.List.{length-map}
use Rattle.project_json.specs.Size.{members_size}
use Rattle.project_json.specs.Tree.{fields_of}
use Rattle.project_json.specs.View.{field}
use Rattle.target_records.proofs.Sizes.{few_read, defaulted_members-length}
use Rattle.target_records.proofs.members.few_members.Goals as goal

pub returns-clause-few : goal.returns-clause-few
returns-clause-few c =
    few_read (λ ms. map field ms.now) (λ ms. length ms.now) c.defaulted_members.result _ (members_size (fields_of (map field c.args.object.now))) (λ ms. simp length-map) c.defaulted_members.ensures (λ held e. defaulted_members-length c.args.name.now c.args.place.now (map field c.args.object.now) held e) c.requires
