use Rattle.std.proofs.Common.{refl}
use Rattle.project_spec.specs.Blocks.{call_by}
use Rattle.block_table.proofs.Saying.{bad_said}
use Rattle.block_table.proofs.objects.call.Goals as goal

pub returns-in-Err : goal.returns-in-Err
returns-in-Err c = bad_said (λ code. code) call_by (λ r. refl) _ _ _ c.bad.ensures c.in-Err.ensures
