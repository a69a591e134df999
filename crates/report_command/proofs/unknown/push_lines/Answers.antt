use Rattle.std.proofs.Common.{◌∙◌, ◌++◌, ◌+◌, drop, sym, ap, append_assoc}
use Rattle.std.specs.Prelude.{flat_map}
use Rattle.target_records.proofs.Sizes.{drop_turn}
use Rattle.report_command.specs.Unknown.{unknown_line}
use Rattle.report_command.proofs.unknown.push_lines.Goals as goal

pub loop-name-preserved : goal.loop-name-preserved
loop-name-preserved c =
    let rest = flat_map (unknown_line c.args.names.now) (drop (c.loop-name.name-index + 1) c.args.firsts.now) in
    ap (λ xs. xs ++ rest) c.in_ok-push_line.ensures
    ∙ ap (λ name. (c.loop-name.out.items ++ unknown_line c.args.names.now name) ++ rest) c.as_str.ensures
    ∙ append_assoc c.loop-name.out.items (unknown_line c.args.names.now c.name-item.result) rest
    ∙ ap (λ names. c.loop-name.out.items ++ flat_map (unknown_line c.args.names.now) names) (sym (drop_turn c.args.firsts.now c.loop-name.name-index c.name-item.result c.loop-name-test.true c.name-item.is))
    ∙ c.loop-name.invariant
