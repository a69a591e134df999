use Rattle.std.proofs.Common.{◌<◌, ◌^◌, length, map, refl, arith}
use Rattle.std.proofs.lemmas.List.{length-map}
use Rattle.project_json.specs.View.{field}
use Rattle.project_spec.specs.Targets.{variable_of}
use Rattle.target_records.proofs.Sizes.{few_read, each_member-length}
use Rattle.target_records.proofs.file_variables.variables.Goals as goal

pub returns-clause-few : goal.returns-clause-few
returns-clause-few c =
    let few : length c.in_ok-held.held.now < 2 ^ 32 = c.in_ok-held.ensures.few in
    few_read (λ vs. vs) (λ vs. length vs) c.each_variable.result _ (length (map field c.in_ok-held.held.now)) (λ vs. refl) c.each_variable.ensures (λ vs e. omega (arith, each_member-length variable_of c.member.result (map field c.in_ok-held.held.now) vs e)) (simp length-map few)
