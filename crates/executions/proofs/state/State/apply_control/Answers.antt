-- A clone is made of the instance itself, or of an original.
use Rattle.std.proofs.Common.{refl}
use Rattle.project_check.specs.Loaded.{program_of}
use Rattle.executions.proofs.Clonable.{clones}
use Rattle.executions.proofs.Crew.{one_each-cast}
use Rattle.executions.proofs.state.State.apply_control.Goals as goal

pub returns-in-Ok-clause-kept : goal.returns-in-Ok-clause-kept
returns-in-Ok-clause-kept g c = record {
  fits = c.in-Ok.ensures.fits;
  own = c.in-Ok.ensures.own;
  afresh = c.in-Ok.ensures.afresh;
  clones = clones (program_of c.args.project.now) c.args.here _ _ _ _ _ _ _ _ c.in-Ok.ensures.ok c.in-Ok.ensures.alone;
  left = record {
    threads = refl;
    next_thread = refl;
    next_instance = refl;
    targets = c.apply.ensures.cast.targets;
    one_each = one_each-cast c.args.self.now.targets c.apply.new.targets c.apply.ensures.cast;
    free = λ n e. e;
  };
}
