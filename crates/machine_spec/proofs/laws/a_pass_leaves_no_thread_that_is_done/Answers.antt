use Rattle.machine_spec.proofs.Passes.{without_done-alive}
use Rattle.machine_spec.proofs.laws.a_pass_leaves_no_thread_that_is_done.Goals as goal

pub returns : goal.returns
returns c = without_done-alive
