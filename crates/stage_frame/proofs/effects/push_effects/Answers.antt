use Rattle.std.proofs.Common.{[], ◌∷◌, sym, ◌∙◌, append-nil}
use Rattle.std.specs.Prelude.{codes}
use Rattle.machine_spec.specs.FrameText.{effect_line}
use Rattle.stage_frame.proofs.Turns.{named_more}
use Rattle.stage_frame.proofs.effects.push_effects.Goals as goal

pub returns : goal.returns
returns c =
    let f = effect_line in
    let es = c.args.effects.now in
    let ghost = codes "ghost" ∷ [] in
    let brightness = codes "brightness" ∷ ghost in
    let mosaic = codes "mosaic" ∷ brightness in
    let pixelate = codes "pixelate" ∷ mosaic in
    let whirl = codes "whirl" ∷ pixelate in
    let fisheye = codes "fisheye" ∷ whirl in
    sym (append-nil c.push_effect-7.new.out.items)
    ∙ named_more f (codes "ghost") [] es 6 c.get-7.result c.push_effect-6.new.out.items c.push_effect-7.new.out.items c.get-7.ensures c.in_ok-push_effect-7.ensures
    ∙ named_more f (codes "brightness") ghost es 5 c.get-6.result c.push_effect-5.new.out.items c.push_effect-6.new.out.items c.get-6.ensures c.in_ok-push_effect-6.ensures
    ∙ named_more f (codes "mosaic") brightness es 4 c.get-5.result c.push_effect-4.new.out.items c.push_effect-5.new.out.items c.get-5.ensures c.in_ok-push_effect-5.ensures
    ∙ named_more f (codes "pixelate") mosaic es 3 c.get-4.result c.push_effect-3.new.out.items c.push_effect-4.new.out.items c.get-4.ensures c.in_ok-push_effect-4.ensures
    ∙ named_more f (codes "whirl") pixelate es 2 c.get-3.result c.push_effect-2.new.out.items c.push_effect-3.new.out.items c.get-3.ensures c.in_ok-push_effect-3.ensures
    ∙ named_more f (codes "fisheye") whirl es 1 c.get-2.result c.push_effect.new.out.items c.push_effect-2.new.out.items c.get-2.ensures c.in_ok-push_effect-2.ensures
    ∙ named_more f (codes "color") fisheye es 0 c.get.result c.args.out.now.items c.push_effect.new.out.items c.get.ensures c.in_ok-push_effect.ensures
