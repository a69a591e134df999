use Rattle.std.proofs.Common.{◌∙◌, ◌&&◌, false, ap, option_and_then}
use Rattle.std.specs.Option.{option_map_or}
use Rattle.saved_spec.specs.Kept.{levels_of}
use Rattle.saved_spec.specs.Levels.{items_of}
use Rattle.saved_spec.specs.ThreadRules.{items_fit, status_fits, promises_fit, stands_well}
use Rattle.saved_spec.proofs.Placed.{both, placed}
use Rattle.saved_spec.proofs.laws.a_legal_thread_is_accepted.Goals as goal

pub returns : goal.returns
returns c b t x legal agreed =
    let d = t.run.devices in
    let stands = both (items_fit b.program d.clock x.items && status_fits x.status x.items) (promises_fit d x.serial x.items) legal.well in
    let fits = both (items_fit b.program d.clock x.items) (status_fits x.status x.items) stands.0 in
    ap (λ o. option_map_or (stands_well b.program d x.serial x.status) (option_and_then (λ script. items_of b.program script (levels_of x.items)) o) false) legal.under
    ∙ ap (λ o. option_map_or (stands_well b.program d x.serial x.status) o false) (placed b.program legal.hat agreed d.clock x.items x.warp legal.stands fits.0)
    ∙ legal.well
