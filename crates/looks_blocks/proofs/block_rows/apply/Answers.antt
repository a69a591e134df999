-- Rows whose clauses hold whatever the words and the devices are.
use Rattle.std.proofs.Common.{ap}
use Rattle.machine_spec.specs.Outcome.{Goes}
use Rattle.looks_blocks.proofs.Moved.{one_each_cast}
use Rattle.looks_blocks.proofs.Rows.{left_so}
use Rattle.looks_blocks.proofs.block_rows.apply.Goals as goal

pub returns-in_ok-redraw-in-LooksSay-clause-ok : goal.returns-in_ok-redraw-in-LooksSay-clause-ok
returns-in_ok-redraw-in-LooksSay-clause-ok g c = rw c.in-LooksSay.is (left_so _ _ _ _ _ _ _ _ (c.in_ok-redraw-in-LooksSay.ensures.ok _) c.go_on.ensures.control c.go_on.ensures.redraw c.go_on.ensures.context)

pub returns-in_ok-redraw-in-LooksThink-clause-ok : goal.returns-in_ok-redraw-in-LooksThink-clause-ok
returns-in_ok-redraw-in-LooksThink-clause-ok g c = rw c.in-LooksThink.is (left_so _ _ _ _ _ _ _ _ (c.in_ok-redraw-in-LooksThink.ensures.ok _) c.go_on-in-LooksThink.ensures.control c.go_on-in-LooksThink.ensures.redraw c.go_on-in-LooksThink.ensures.context)

pub returns-in_ok-said-in-LooksSayForSecs-clause-ok : goal.returns-in_ok-said-in-LooksSayForSecs-clause-ok
returns-in_ok-said-in-LooksSayForSecs-clause-ok g c = rw c.in-LooksSayForSecs.is (left_so _ _ _ _ _ _ _ _ (c.in_ok-said-in-LooksSayForSecs.ensures.ok _) c.wait.ensures.control c.wait.ensures.redraw c.wait.ensures.context)

pub returns-in_ok-said-in-LooksThinkForSecs-clause-ok : goal.returns-in_ok-said-in-LooksThinkForSecs-clause-ok
returns-in_ok-said-in-LooksThinkForSecs-clause-ok g c = rw c.in-LooksThinkForSecs.is (left_so _ _ _ _ _ _ _ _ (c.in_ok-said-in-LooksThinkForSecs.ensures.ok _) c.wait-in-LooksThinkForSecs.ensures.control c.wait-in-LooksThinkForSecs.ensures.redraw c.wait-in-LooksThinkForSecs.ensures.context)

pub returns-in_ok-control-in-LooksNextBackdrop-clause-ok : goal.returns-in_ok-control-in-LooksNextBackdrop-clause-ok
returns-in_ok-control-in-LooksNextBackdrop-clause-ok g c = rw c.in-LooksNextBackdrop.is (left_so _ _ _ _ _ _ _ _ (ap Goes (c.in_ok-control-in-LooksNextBackdrop.ensures.ok _ _)) c.start-in-LooksNextBackdrop.ensures.control c.start-in-LooksNextBackdrop.ensures.redraw c.start-in-LooksNextBackdrop.ensures.context)

pub returns-in-LooksChangeSizeBy-clause-ok : goal.returns-in-LooksChangeSizeBy-clause-ok
returns-in-LooksChangeSizeBy-clause-ok g c = rw c.in-LooksChangeSizeBy.is (left_so _ _ _ _ _ _ _ _ (ap Goes (c.change_size.ensures.row _ _)) c.go_on-in-LooksChangeSizeBy.ensures.control c.go_on-in-LooksChangeSizeBy.ensures.redraw c.go_on-in-LooksChangeSizeBy.ensures.context)

pub returns-in_ok-redraw-in-LooksChangeEffectBy-clause-ok : goal.returns-in_ok-redraw-in-LooksChangeEffectBy-clause-ok
returns-in_ok-redraw-in-LooksChangeEffectBy-clause-ok g c = rw c.in-LooksChangeEffectBy.is (left_so _ _ _ _ _ _ _ _ (ap Goes (c.in_ok-redraw-in-LooksChangeEffectBy.ensures.ok _ _)) c.go_on-in-LooksChangeEffectBy.ensures.control c.go_on-in-LooksChangeEffectBy.ensures.redraw c.go_on-in-LooksChangeEffectBy.ensures.context)

pub returns-in_ok-redraw-in-LooksSetEffectTo-clause-ok : goal.returns-in_ok-redraw-in-LooksSetEffectTo-clause-ok
returns-in_ok-redraw-in-LooksSetEffectTo-clause-ok g c = rw c.in-LooksSetEffectTo.is (left_so _ _ _ _ _ _ _ _ (ap Goes (c.in_ok-redraw-in-LooksSetEffectTo.ensures.ok _ _)) c.go_on-in-LooksSetEffectTo.ensures.control c.go_on-in-LooksSetEffectTo.ensures.redraw c.go_on-in-LooksSetEffectTo.ensures.context)

pub returns-in-LooksShow-clause-ok : goal.returns-in-LooksShow-clause-ok
returns-in-LooksShow-clause-ok g c = rw c.in-LooksShow.is (left_so _ _ _ _ _ _ _ _ (ap Goes (c.set_visible.ensures.row _ _)) c.go_on-in-LooksShow.ensures.control c.go_on-in-LooksShow.ensures.redraw c.go_on-in-LooksShow.ensures.context)

pub returns-in-LooksHide-clause-ok : goal.returns-in-LooksHide-clause-ok
returns-in-LooksHide-clause-ok g c = rw c.in-LooksHide.is (left_so _ _ _ _ _ _ _ _ (ap Goes (c.set_visible-in-LooksHide.ensures.row _ _)) c.go_on-in-LooksHide.ensures.control c.go_on-in-LooksHide.ensures.redraw c.go_on-in-LooksHide.ensures.context)

-- Rows that change no number leave one instance of each, also where they stop.

pub returns-in_ok-redraw-in-LooksSay-clause-one_each : goal.returns-in_ok-redraw-in-LooksSay-clause-one_each
returns-in_ok-redraw-in-LooksSay-clause-one_each g c = one_each_cast _ _ c.say.ensures.cast c.requires.one_each

pub returns-in_err-redraw-in-LooksSay-clause-one_each : goal.returns-in_err-redraw-in-LooksSay-clause-one_each
returns-in_err-redraw-in-LooksSay-clause-one_each g c = one_each_cast _ _ c.say.ensures.cast c.requires.one_each

pub returns-in_ok-redraw-in-LooksThink-clause-one_each : goal.returns-in_ok-redraw-in-LooksThink-clause-one_each
returns-in_ok-redraw-in-LooksThink-clause-one_each g c = one_each_cast _ _ c.say-in-LooksThink.ensures.cast c.requires.one_each

pub returns-in_err-redraw-in-LooksThink-clause-one_each : goal.returns-in_err-redraw-in-LooksThink-clause-one_each
returns-in_err-redraw-in-LooksThink-clause-one_each g c = one_each_cast _ _ c.say-in-LooksThink.ensures.cast c.requires.one_each

pub returns-in_ok-said-in-LooksSayForSecs-clause-one_each : goal.returns-in_ok-said-in-LooksSayForSecs-clause-one_each
returns-in_ok-said-in-LooksSayForSecs-clause-one_each g c = one_each_cast _ _ c.say_for_secs.ensures.cast c.requires.one_each

pub returns-in_err-said-in-LooksSayForSecs-clause-one_each : goal.returns-in_err-said-in-LooksSayForSecs-clause-one_each
returns-in_err-said-in-LooksSayForSecs-clause-one_each g c = one_each_cast _ _ c.say_for_secs.ensures.cast c.requires.one_each

pub returns-in_ok-said-in-LooksThinkForSecs-clause-one_each : goal.returns-in_ok-said-in-LooksThinkForSecs-clause-one_each
returns-in_ok-said-in-LooksThinkForSecs-clause-one_each g c = one_each_cast _ _ c.say_for_secs-in-LooksThinkForSecs.ensures.cast c.requires.one_each

pub returns-in_err-said-in-LooksThinkForSecs-clause-one_each : goal.returns-in_err-said-in-LooksThinkForSecs-clause-one_each
returns-in_err-said-in-LooksThinkForSecs-clause-one_each g c = one_each_cast _ _ c.say_for_secs-in-LooksThinkForSecs.ensures.cast c.requires.one_each

pub returns-in_ok-redraw-in-LooksSwitchCostumeTo-clause-one_each : goal.returns-in_ok-redraw-in-LooksSwitchCostumeTo-clause-one_each
returns-in_ok-redraw-in-LooksSwitchCostumeTo-clause-one_each g c = one_each_cast _ _ c.switch_costume.ensures.cast c.requires.one_each

pub returns-in_err-redraw-in-LooksSwitchCostumeTo-clause-one_each : goal.returns-in_err-redraw-in-LooksSwitchCostumeTo-clause-one_each
returns-in_err-redraw-in-LooksSwitchCostumeTo-clause-one_each g c = one_each_cast _ _ c.switch_costume.ensures.cast c.requires.one_each

pub returns-in-LooksNextCostume-clause-one_each : goal.returns-in-LooksNextCostume-clause-one_each
returns-in-LooksNextCostume-clause-one_each g c = one_each_cast _ _ c.next_costume.ensures.cast c.requires.one_each

pub returns-in_ok-control-in-LooksSwitchBackdropTo-clause-one_each : goal.returns-in_ok-control-in-LooksSwitchBackdropTo-clause-one_each
returns-in_ok-control-in-LooksSwitchBackdropTo-clause-one_each g c = one_each_cast _ _ c.switch_backdrop.ensures.cast c.requires.one_each

pub returns-in_err-control-in-LooksSwitchBackdropTo-clause-one_each : goal.returns-in_err-control-in-LooksSwitchBackdropTo-clause-one_each
returns-in_err-control-in-LooksSwitchBackdropTo-clause-one_each g c = one_each_cast _ _ c.switch_backdrop.ensures.cast c.requires.one_each

pub returns-in-LooksSwitchBackdropToAndWait-clause-one_each : goal.returns-in-LooksSwitchBackdropToAndWait-clause-one_each
returns-in-LooksSwitchBackdropToAndWait-clause-one_each g c = one_each_cast _ _ c.switch_and_wait.ensures.cast c.requires.one_each

pub returns-in_ok-control-in-LooksNextBackdrop-clause-one_each : goal.returns-in_ok-control-in-LooksNextBackdrop-clause-one_each
returns-in_ok-control-in-LooksNextBackdrop-clause-one_each g c = one_each_cast _ _ c.next_backdrop.ensures.cast c.requires.one_each

pub returns-in_err-control-in-LooksNextBackdrop-clause-one_each : goal.returns-in_err-control-in-LooksNextBackdrop-clause-one_each
returns-in_err-control-in-LooksNextBackdrop-clause-one_each g c = one_each_cast _ _ c.next_backdrop.ensures.cast c.requires.one_each

pub returns-in-LooksChangeSizeBy-clause-one_each : goal.returns-in-LooksChangeSizeBy-clause-one_each
returns-in-LooksChangeSizeBy-clause-one_each g c = one_each_cast _ _ c.change_size.ensures.cast c.requires.one_each

pub returns-in-LooksSetSizeTo-clause-one_each : goal.returns-in-LooksSetSizeTo-clause-one_each
returns-in-LooksSetSizeTo-clause-one_each g c = one_each_cast _ _ c.set_size.ensures.cast c.requires.one_each

pub returns-in_ok-redraw-in-LooksChangeEffectBy-clause-one_each : goal.returns-in_ok-redraw-in-LooksChangeEffectBy-clause-one_each
returns-in_ok-redraw-in-LooksChangeEffectBy-clause-one_each g c = one_each_cast _ _ c.change_effect.ensures.cast c.requires.one_each

pub returns-in_err-redraw-in-LooksChangeEffectBy-clause-one_each : goal.returns-in_err-redraw-in-LooksChangeEffectBy-clause-one_each
returns-in_err-redraw-in-LooksChangeEffectBy-clause-one_each g c = one_each_cast _ _ c.change_effect.ensures.cast c.requires.one_each

pub returns-in_ok-redraw-in-LooksSetEffectTo-clause-one_each : goal.returns-in_ok-redraw-in-LooksSetEffectTo-clause-one_each
returns-in_ok-redraw-in-LooksSetEffectTo-clause-one_each g c = one_each_cast _ _ c.set_effect.ensures.cast c.requires.one_each

pub returns-in_err-redraw-in-LooksSetEffectTo-clause-one_each : goal.returns-in_err-redraw-in-LooksSetEffectTo-clause-one_each
returns-in_err-redraw-in-LooksSetEffectTo-clause-one_each g c = one_each_cast _ _ c.set_effect.ensures.cast c.requires.one_each

pub returns-in-LooksClearGraphicEffects-clause-one_each : goal.returns-in-LooksClearGraphicEffects-clause-one_each
returns-in-LooksClearGraphicEffects-clause-one_each g c = one_each_cast _ _ c.clear_effects.ensures.kept c.requires.one_each

pub returns-in-LooksShow-clause-one_each : goal.returns-in-LooksShow-clause-one_each
returns-in-LooksShow-clause-one_each g c = one_each_cast _ _ c.set_visible.ensures.cast c.requires.one_each

pub returns-in-LooksHide-clause-one_each : goal.returns-in-LooksHide-clause-one_each
returns-in-LooksHide-clause-one_each g c = one_each_cast _ _ c.set_visible-in-LooksHide.ensures.cast c.requires.one_each
