-- A block of data goes on, and keeps nothing.
use Rattle.std.proofs.Common.{refl}
use Rattle.executions.proofs.state.State.apply.Goals as goal

pub returns-in-Ok-clause-kept : goal.returns-in-Ok-clause-kept
returns-in-Ok-clause-kept g c = record {
  fits = refl;
  own = λ e. refl;
  afresh = λ e. absurd (cc e);
  clones = refl;
  left = c.in-Ok.ensures.kept;
}
