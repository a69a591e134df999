use Rattle.std.proofs.Common.{◌≡◌, drop}
use Rattle.shared_stacks.specs.Chains.{IsIn, values}
use Rattle.shared_stacks.proofs.pool.Pool.get.Given as goal

abbrev pub invariant-loop-step : goal.invariant-loop-step
invariant-loop-step g l = record {
  there : IsIn l.self l.rest;
  below : values l.self l.rest ≡ drop l.step (values l.self l.fn.stack);
}
