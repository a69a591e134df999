-- Each rule is what was tested.
use Rattle.std.proofs.Common.{◌≡◌, ◌&&◌, ◌||◌, not, [], ◌∷◌, length, ◌∙◌, pos, negsuc}
use Rattle.std.specs.Prelude.{codes, nat_lt}
use Rattle.std.specs.Option.{option_copied}
use Rattle.machine_spec.specs.declared.effects.Effect.TheVariants.{Brightness, Ghost}
use Rattle.machine_spec.specs.Effects.{effect_place}
use Rattle.machine_spec.specs.Stores.{record_of, is_on_stage}
use Rattle.saved_parts.specs.Telling.{told_of, instance_of}
use Rattle.project_check.specs.Loaded.{basis_of}
use Rattle.project_spec.specs.Basis.{records_of}
use Rattle.saved_spec.specs.Rules as rules
use Rattle.saved_spec.specs.Rules.{rule}
use Rattle.saved_checks.specs.Groups.{broken_in}
use Rattle.saved_checks.proofs.Joined.{mapped}
use Rattle.saved_checks.proofs.StoresTold.{values-told, lists-told}
use Rattle.saved_checks.proofs.groups.of_standing.Goals as goal

pub returns : goal.returns
returns c =
    let b = basis_of c.args.project.now in
    let r = c.args.run.now in
    let t = told_of r in
    let is = c.as_slice-instances.result.now in
    let e = c.as_slice-instances.ensures in
    let costumes : c.have_costumes.result ≡ rules.costumes_are_there b t = mapped (λ i. nat_lt i.costume (length (record_of i (records_of b)).costumes)) instance_of r.instances is c.have_costumes.result e c.have_costumes.ensures in
    let sizes : c.are_sized.result ≡ rules.sizes_are_in_range t = mapped (λ i. rules.is_between (pos 0) (pos 10000000000) i.size) instance_of r.instances is c.are_sized.result e c.are_sized.ensures in
    let directions : c.are_directed.result ≡ rules.directions_are_in_range t = mapped (λ i. rules.is_between (negsuc 178999999) (pos 180999999) i.direction) instance_of r.instances is c.are_directed.result e c.are_directed.ensures in
    let effects : c.have_effects.result ≡ rules.effects_are_in_range t =
    mapped (λ i. rules.effect_is_between (effect_place Brightness) (negsuc 99999999) (pos 100000000) i && rules.effect_is_between (effect_place Ghost) (pos 0) (pos 100000000) i) instance_of r.instances is c.have_effects.result e c.have_effects.ensures in
    let places : c.are_in_place.result ≡ rules.stage_is_in_place b t = mapped (λ i. not (is_on_stage i (records_of b)) || rules.is_as_the_stage i) instance_of r.instances is c.are_in_place.result e c.are_in_place.ensures in
    let values : c.have_values.result ≡ rules.variables_are_there b t = values-told b r is c.have_values.result c.requires e c.have_values.ensures in
    let lists : c.have_short_lists.result ≡ rules.lists_are_short t = lists-told r is c.have_short_lists.result e c.have_short_lists.ensures in
    let tested : option_copied c.first_broken.result ≡ broken_in (
    rule (codes "instances") c.have_costumes.result
    ∷ rule (codes "instances") c.are_sized.result
    ∷ rule (codes "instances") c.are_directed.result
    ∷ rule (codes "instances") c.have_effects.result
    ∷ rule (codes "instances") c.are_in_place.result
    ∷ rule (codes "instances") c.have_values.result
    ∷ rule (codes "instances") c.have_short_lists.result
    ∷ []) = c.first_broken.ensures in
    tested
    ∙ (λ j. broken_in (
    rule (codes "instances") (costumes j)
    ∷ rule (codes "instances") (sizes j)
    ∷ rule (codes "instances") (directions j)
    ∷ rule (codes "instances") (effects j)
    ∷ rule (codes "instances") (places j)
    ∷ rule (codes "instances") (values j)
    ∷ rule (codes "instances") (lists j)
    ∷ []))
