-- The first time the backdrop is switched.
use Rattle.std.specs.Prelude.{Bool}
use Rattle.machine_spec.specs.declared.threads.Control.{Control}
use Rattle.looks_blocks.proofs.Waiting.{stops_first}
use Rattle.looks_blocks.proofs.backdrops.switch_and_wait.Goals as goal

pub returns-in-Err-clause-stop : goal.returns-in-Err-clause-stop
returns-in-Err-clause-stop g c = λ d. stops_first Control (Control × Bool) c.in-Err.stop _ _ _ _ _ c.in_default.not-Started c.in-Err.ensures.stop
