use Rattle.project_spec.proofs.Unrolling.{script-none, script-at}
use Rattle.project_spec.proofs.laws.a_script_unrolls.Goals as goal

pub returns-clause-none : goal.returns-clause-none
returns-clause-none c = script-none

pub returns-clause-block : goal.returns-clause-block
returns-clause-block c = λ sheet ranks k b ranked h. script-at sheet ranks ranked k b h
