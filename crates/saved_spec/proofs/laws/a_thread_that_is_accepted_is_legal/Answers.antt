use Rattle.saved_spec.proofs.Accepted.{accepted}
use Rattle.saved_spec.proofs.laws.a_thread_that_is_accepted_is_legal.Goals as goal

pub returns : goal.returns
returns c = accepted
