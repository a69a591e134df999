use Rattle.std.proofs.Common.{◌≡◌, arith}
use Rattle.machine_spec.specs.ScriptText.{whole_number, frame_line}
use Rattle.input_script.proofs.LineWords.{ok_along, refused_along}
use Rattle.input_script.proofs.Kept.{frame_kept}
use Rattle.input_script.proofs.ranges.frame.Goals as goal

same : (c : goal.After-frame_of)
    → frame_line c.args.number c.args.last c.whole_number.result c.whole_number-2.result c.whole_number-3.result
    ≡ frame_line c.args.number c.args.last (whole_number c.args.clock.now) (whole_number c.args.passes.now) (whole_number c.args.warp.now)
same c =
    let kept = frame_kept c.args.number c.args.last 10000000000000 (whole_number c.args.clock.now) (whole_number c.args.passes.now) (whole_number c.args.warp.now) (omega arith) in
    let clock = c.whole_number.ensures.number in
    let passes = c.whole_number-2.ensures.number in
    let warp = c.whole_number-3.ensures.number in
    rw (clock, passes, warp) kept

pub returns-clause-ok : goal.returns-clause-ok
returns-clause-ok c = ok_along c.frame_of.result _ _ (same c) c.frame_of.ensures.ok

pub returns-clause-refused : goal.returns-clause-refused
returns-clause-refused c = refused_along c.frame_of.result _ _ (same c) c.frame_of.ensures.refused
