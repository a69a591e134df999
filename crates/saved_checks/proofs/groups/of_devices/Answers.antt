-- Each rule is what was tested.
use Rattle.std.proofs.Common.{◌≡◌, ◌==◌, ◌&&◌, [], ◌∷◌, ◌∙◌, ap}
use Rattle.std.specs.Prelude.{codes}
use Rattle.std.specs.List.{list_all}
use Rattle.std.specs.Option.{option_copied}
use Rattle.saved_parts.specs.Telling.{told_of, made_of}
use Rattle.project_check.specs.Loaded.{basis_of}
use Rattle.saved_spec.specs.Rules as rules
use Rattle.saved_spec.specs.Rules.{rule}
use Rattle.saved_checks.specs.Groups.{broken_in}
use Rattle.saved_checks.proofs.Joined.{mapped}
use Rattle.saved_checks.proofs.groups.of_devices.Goals as goal

pub returns : goal.returns
returns c =
    let b = basis_of c.args.project.now in
    let t = told_of c.args.run.now in
    let keys : c.in_ok-keys.keys ≡ rules.keys_are_held t = c.in_ok-keys.ensures ∙ ap (λ ts. list_all rules.is_key_name ts && rules.texts_differ ts) c.as_slice.ensures in
    let shown : c.are_shown.result ≡ rules.made_monitors_show b t = mapped (λ m. rules.is_shown b m.what) made_of c.args.run.now.made c.as_slice-2.result.now c.are_shown.result c.as_slice-2.ensures c.are_shown.ensures in
    let counted : (c.len.result == c.monitors.result) ≡ rules.monitors_are_counted b t = λ j. c.len.ensures j == c.monitors.ensures j in
    let clock : c.is_in_time.result ≡ rules.clock_is_in_range t = c.is_in_time.ensures in
    let timer : c.was_reset.result ≡ rules.timer_was_reset t = c.was_reset.ensures in
    let mouse : c.is_on_stage.result ≡ rules.mouse_is_on_stage t = c.is_on_stage.ensures in
    let drawn : c.is_next.result ≡ rules.words_are_counted t = c.is_next.ensures in
    let frame : c.is_next-2.result ≡ rules.frames_are_counted t = c.is_next-2.ensures in
    let next : c.are_next.result ≡ rules.next_are_counted b t = c.are_next.ensures in
    let tested : option_copied c.first_broken.result ≡ broken_in (
    rule (codes "clock") c.is_in_time.result
    ∷ rule (codes "timer") c.was_reset.result
    ∷ rule (codes "mouse") c.is_on_stage.result
    ∷ rule (codes "keys") c.in_ok-keys.keys
    ∷ rule (codes "drawn") c.is_next.result
    ∷ rule (codes "frame") c.is_next-2.result
    ∷ rule (codes "next") c.are_next.result
    ∷ rule (codes "made") c.are_shown.result
    ∷ rule (codes "monitors") (c.len.result == c.monitors.result)
    ∷ []) = c.first_broken.ensures in
    tested
    ∙ (λ j. broken_in (
    rule (codes "clock") (clock j)
    ∷ rule (codes "timer") (timer j)
    ∷ rule (codes "mouse") (mouse j)
    ∷ rule (codes "keys") (keys j)
    ∷ rule (codes "drawn") (drawn j)
    ∷ rule (codes "frame") (frame j)
    ∷ rule (codes "next") (next j)
    ∷ rule (codes "made") (shown j)
    ∷ rule (codes "monitors") (counted j)
    ∷ []))
