use Rattle.std.proofs.Common.{refl}
use Rattle.project_spec.specs.Blocks.{prototype_by}
use Rattle.mutations.specs.FilePrototype.{prototype_of}
use Rattle.block_table.proofs.Saying.{bad_said}
use Rattle.block_table.proofs.objects.prototype.Goals as goal

pub returns-in-Err : goal.returns-in-Err
returns-in-Err c = bad_said prototype_of prototype_by (λ r. refl) _ _ _ c.bad.ensures c.in-Err.ensures
