use Rattle.project_spec.proofs.Unrolling.{expression-at}
use Rattle.project_spec.proofs.laws.an_expression_unrolls.Goals as goal

pub returns : goal.returns
returns c = λ sheet ranks k b ranked h. expression-at sheet ranks ranked k b h
