use Rattle.std.proofs.Common.{◌≡◌, [], drop}
use Rattle.machine_spec.specs.ControlRows.{params_from}
use Rattle.control_blocks.proofs.procedures.params.Given as goal

-- the parameters so far, and those that are left
abbrev pub invariant-loop-k : goal.invariant-loop-k
invariant-loop-k l =
    params_from l.args (drop l.k l.prototype.ids) (drop l.k l.prototype.names) (drop l.k l.prototype.defaults) l.params ≡ params_from l.args l.prototype.ids l.prototype.names l.prototype.defaults []
