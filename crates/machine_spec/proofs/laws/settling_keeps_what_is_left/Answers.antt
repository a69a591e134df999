use Rattle.machine_spec.proofs.Settling.{left-settle}
use Rattle.machine_spec.proofs.laws.settling_keeps_what_is_left.Goals as goal

pub returns : goal.returns
returns c = left-settle
