-- Each rule is what was tested.
use Rattle.std.proofs.Common.{◌≡◌, [], ◌∷◌, ◌∙◌}
use Rattle.std.specs.Prelude.{codes}
use Rattle.std.specs.Option.{option_copied}
use Rattle.saved_parts.specs.Telling.{told_of}
use Rattle.project_check.specs.Loaded.{basis_of}
use Rattle.saved_spec.specs.Rules as rules
use Rattle.saved_spec.specs.Rules.{rule}
use Rattle.saved_checks.specs.Groups.{broken_in}
use Rattle.saved_checks.proofs.Joined.{first-told, originals-told, numbers-told, clones-told}
use Rattle.saved_checks.proofs.groups.of_instances.Goals as goal

pub returns : goal.returns
returns c =
    let b = basis_of c.args.project.now in
    let r = c.args.run.now in
    let t = told_of r in
    let first : c.stage_is_first.result ≡ rules.stage_is_first b t = first-told b r c.as_slice-instances.result.now c.stage_is_first.result c.as_slice-instances.ensures c.stage_is_first.ensures in
    let originals : c.in_ok-originals.originals ≡ rules.originals_are_there b t = originals-told b r c.as_slice-instances.result.now c.targets.result c.in_ok-originals.originals c.as_slice-instances.ensures c.targets.ensures c.in_ok-originals.ensures in
    let numbers : c.in_ok-numbers.numbers ≡ rules.clones_are_sprites b t = numbers-told b r c.as_slice-instances.result.now c.in_ok-numbers.numbers c.as_slice-instances.ensures c.in_ok-numbers.ensures in
    let few : c.are_few.result ≡ rules.clones_are_few t = clones-told r c.as_slice-instances.result.now c.are_few.result c.as_slice-instances.ensures c.are_few.ensures in
    let tested : option_copied c.first_broken.result ≡ broken_in (
    rule (codes "instances") c.stage_is_first.result
    ∷ rule (codes "instances") c.in_ok-originals.originals
    ∷ rule (codes "instances") c.in_ok-numbers.numbers
    ∷ rule (codes "instances") c.are_few.result
    ∷ []) = c.first_broken.ensures in
    tested
    ∙ (λ j. broken_in (
    rule (codes "instances") (first j)
    ∷ rule (codes "instances") (originals j)
    ∷ rule (codes "instances") (numbers j)
    ∷ rule (codes "instances") (few j)
    ∷ []))
