use Rattle.std.proofs.Common.{arith, subst, sym, []}
use Rattle.std.specs.Option.{option_map}
use Rattle.project_json.specs.View.{tree}
use Rattle.report_command.specs.Unknown.{AreUnknown}
use Rattle.report_command.proofs.Gathered.{one_target, no_target, every_target, each_small}
use Rattle.report_command.proofs.unknown.unknown_in.Goals as goal

pub loop-target-init : goal.loop-target-init
loop-target-init c = subst (AreUnknown []) (sym c.new-names.ensures) no_target

pub push_target-requires : goal.push_target-requires
push_target-requires c = each_small (option_map (λ j. tree j.now) c.args.document) c.targets_in-target-items.result.now c.loop-target.target-index c.target-item.result c.targets_in-target-items.ensures c.requires c.loop-target-test.true c.target-item.is

pub loop-target-preserved : goal.loop-target-preserved
loop-target-preserved c = one_target c.targets_in-target-items.result.now c.loop-target.target-index c.target-item.result c.loop-target.names c.push_target.new.names c.loop-target-test.true c.target-item.is c.loop-target.invariant c.in_ok-push_target.ensures

pub returns : goal.returns
returns c =
    let t = c.loop-target-test.false in
    every_target (option_map (λ j. tree j.now) c.args.document) c.targets_in-target-items.result.now c.loop-target.target-index c.loop-target.names c.targets_in-target-items.ensures (omega arith) c.loop-target.invariant
