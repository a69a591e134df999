use Rattle.machine_spec.proofs.Moves.{act-position}
use Rattle.machine_spec.proofs.laws.own_controls_move_one_thread.Goals as goal

pub returns : goal.returns
returns c = act-position
