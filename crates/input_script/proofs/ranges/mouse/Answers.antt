use Rattle.std.proofs.Common.{◌≡◌, arith}
use Rattle.machine_spec.specs.ScriptText.{signed_number, mouse_line}
use Rattle.input_script.proofs.LineWords.{ok_along, refused_along}
use Rattle.input_script.proofs.Kept.{mouse_kept}
use Rattle.input_script.proofs.ranges.mouse.Goals as goal

same : (c : goal.After-mouse_at)
    → mouse_line c.args.number c.signed_number.result c.signed_number-2.result ≡ mouse_line c.args.number (signed_number c.args.x.now) (signed_number c.args.y.now)
same c =
    let kept = mouse_kept c.args.number 1000 (signed_number c.args.x.now) (signed_number c.args.y.now) (omega arith) in
    let x = c.signed_number.ensures in
    let y = c.signed_number-2.ensures in
    rw (x, y) kept

pub returns-clause-ok : goal.returns-clause-ok
returns-clause-ok c = ok_along c.mouse_at.result _ _ (same c) c.mouse_at.ensures.ok

pub returns-clause-refused : goal.returns-clause-refused
returns-clause-refused c = refused_along c.mouse_at.result _ _ (same c) c.mouse_at.ensures.refused
