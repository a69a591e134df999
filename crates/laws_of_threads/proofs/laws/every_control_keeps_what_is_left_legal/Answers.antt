use Rattle.laws_of_threads.proofs.Controls.{position_legal}
use Rattle.laws_of_threads.proofs.laws.every_control_keeps_what_is_left_legal.Goals as goal

pub returns : goal.returns
returns c p hat clock next late warp s r control x = position_legal p hat clock next late warp s r control x
