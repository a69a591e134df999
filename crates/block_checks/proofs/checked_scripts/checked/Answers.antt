use Rattle.std.proofs.Common.{length, get_or, ap, subst, arith}
use Rattle.std.specs.List.{Contains}
use Rattle.std.proofs.lemmas.List.{length-map}
use Rattle.std.proofs.lemmas.List.Elements.{Contains-get_or}
use Rattle.std.proofs.lemmas.Option.{slice_get_within}
use Rattle.std.proofs.lemmas.Result.{IfOk-weaker}
use Rattle.block_checks.specs.Rows.{row}
use Rattle.block_checks.proofs.Bridges.{are_checked}
use Rattle.block_checks.proofs.checked_scripts.checked.Goals as goal

pub reach-requires : goal.reach-requires
reach-requires c = λ k d lt.
    let starts = c.deref.result.now in
    let blocks = c.args.table.now.blocks in
    let h = c.in_ok-heads.ensures.sound _ (subst (λ xs. Contains xs (get_or starts k d)) c.deref.ensures.value (Contains-get_or starts k d lt)) in
    let w = slice_get_within blocks _ h.0 h.1 in
    let n = length-map blocks row in
    let g = ap length c.requires in
    omega arith

pub returns : goal.returns
returns c = IfOk-weaker c.reach.result _ _ (λ seen r. are_checked c.args.table.now.blocks c.in_ok-heads.heads.items c.in_ok-heads.ensures.sound c.in_ok-heads.ensures.complete seen.items (rw (c.requires, c.deref.ensures.value) at r)) c.reach.ensures
