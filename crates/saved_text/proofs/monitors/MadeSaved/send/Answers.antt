use Rattle.std.proofs.Common.{sym, subst}
use Rattle.std.specs.Prelude.{OnOk}
use Rattle.saved_spec.specs.Ranges.{IsShown}
use Rattle.saved_text.proofs.Lists.{on_ok_both}
use Rattle.saved_text.proofs.monitors.MadeSaved.send.Goals as goal

pub returns-in-Variable-clause-ranges : goal.returns-in-Variable-clause-ranges
returns-in-Variable-clause-ranges g c = subst (λ what. OnOk c.send_shown.result (IsShown what)) (sym c.in-Variable.is) (on_ok_both c.send_shown.result _ _ c.send_shown.ensures.target c.send_shown.ensures.index)

pub returns-in-List-clause-ranges : goal.returns-in-List-clause-ranges
returns-in-List-clause-ranges g c = subst (λ what. OnOk c.send_shown-in-List.result (IsShown what)) (sym c.in-List.is) (on_ok_both c.send_shown-in-List.result _ _ c.send_shown-in-List.ensures.target c.send_shown-in-List.ensures.index)
