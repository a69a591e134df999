-- Motion changes instances that are there, and its controls are of the thread alone.
use Rattle.std.proofs.Common.{length, refl}
use Rattle.project_check.specs.Loaded.{program_of}
use Rattle.executions.proofs.Clonable.{own_clones}
use Rattle.executions.proofs.Crew.{one_each-cast}
use Rattle.executions.proofs.state.State.apply_motion.Goals as goal

pub returns-in-Ok-clause-kept : goal.returns-in-Ok-clause-kept
returns-in-Ok-clause-kept g c = record {
  fits = c.in-Ok.ensures.fits;
  own = λ e. absurd (cc (e, c.in-Ok.ensures.own));
  afresh = λ e. absurd (cc (e, c.in-Ok.ensures.own));
  clones = own_clones c.args.here (length (program_of c.args.project.now).records.targets) c.in-Ok.control c.in-Ok.ensures.own;
  left = record {
    threads = refl;
    next_thread = refl;
    next_instance = refl;
    targets = c.apply.ensures.cast.targets;
    one_each = one_each-cast c.args.self.now.targets c.apply.new.targets c.apply.ensures.cast;
    free = λ n e. e;
  };
}
