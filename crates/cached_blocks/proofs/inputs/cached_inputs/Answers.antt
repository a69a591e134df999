use Rattle.project_spec.specs.Trees.{operand}
use Rattle.cached_blocks.specs.Cached.{sheet_with, with_plugged}
use Rattle.cached_blocks.proofs.Steps.{mapped-more}
use Rattle.cached_blocks.proofs.inputs.cached_inputs.Goals as goal

pub loop-entry-preserved : goal.loop-entry-preserved
loop-entry-preserved c =
    mapped-more (with_plugged c.args.blocks.now) (operand (sheet_with c.args.blocks.now c.args.refs.now) c.args.k) c.loop-entry.cached c.push_some.new.inputs c.args.inputs.now c.loop-entry.entry-index c.entry-item.result c.in_ok-input.input _ c.loop-entry-test.true c.entry-item.is c.in_ok-input.ensures c.in_ok-push_some.ensures c.loop-entry.invariant
