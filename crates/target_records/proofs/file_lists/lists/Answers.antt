use Rattle.std.proofs.Common.{◌<◌, ◌^◌, length, map, refl, arith}
use Rattle.std.proofs.lemmas.List.{length-map}
use Rattle.project_json.specs.View.{field}
use Rattle.project_spec.specs.Targets.{list_of}
use Rattle.target_records.proofs.Sizes.{few_read, each_member-length}
use Rattle.target_records.proofs.file_lists.lists.Goals as goal

pub returns-clause-few : goal.returns-clause-few
returns-clause-few c =
    let few : length c.in_ok-held.held.now < 2 ^ 32 = c.in_ok-held.ensures.few in
    few_read (λ ls. ls) (λ ls. length ls) c.each_list.result _ (length (map field c.in_ok-held.held.now)) (λ ls. refl) c.each_list.ensures (λ ls e. omega (arith, each_member-length list_of c.member.result (map field c.in_ok-held.held.now) ls e)) (simp length-map few)
