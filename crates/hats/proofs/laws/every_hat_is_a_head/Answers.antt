-- The heads of a target are what its blocks tell.
use Rattle.hats.proofs.Headed.{starts-headed, edges-headed}
use Rattle.hats.proofs.laws.every_hat_is_a_head.Goals as goal

pub returns-clause-starts : goal.returns-clause-starts
returns-clause-starts c = λ p f is. starts-headed p is f

pub returns-clause-edges : goal.returns-clause-edges
returns-clause-edges c = λ p is ts. edges-headed p is ts
