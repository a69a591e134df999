-- Motion changes instances that are there.
use Rattle.std.proofs.Common.{refl}
use Rattle.executions.proofs.Crew.{one_each-cast}
use Rattle.executions.proofs.state.State.apply_step.Goals as goal

pub returns-clause-kept : goal.returns-clause-kept
returns-clause-kept g c = record {
  threads = refl;
  next_thread = refl;
  next_instance = refl;
  targets = c.apply_step-redraw.ensures.cast.targets;
  one_each = one_each-cast c.args.self.now.targets c.apply_step-redraw.new.targets c.apply_step-redraw.ensures.cast;
  free = λ n e. e;
}
