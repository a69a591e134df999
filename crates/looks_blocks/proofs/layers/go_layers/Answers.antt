-- An instance is put in another layer, and each keeps its number and its target.
use Rattle.looks_blocks.proofs.Moved.{one_each_moved, targets_moved}
use Rattle.looks_blocks.proofs.layers.go_layers.Goals as goal

pub returns-clause-targets : goal.returns-clause-targets
returns-clause-targets c = targets_moved c.args.here c.layers_away.result c.args.targets.now _ c.requires.live c.requires.one_each c.move_layer.ensures.new

pub returns-clause-one_each : goal.returns-clause-one_each
returns-clause-one_each c = one_each_moved c.args.here c.layers_away.result c.args.targets.now _ c.requires.live c.requires.one_each c.move_layer.ensures.new
