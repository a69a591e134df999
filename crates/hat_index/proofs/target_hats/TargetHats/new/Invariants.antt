use Rattle.hat_index.proofs.Adding.{AreEmpty}
use Rattle.hat_index.proofs.target_hats.TargetHats.new.Given as goal

-- so many rows have no hats
abbrev pub invariant-loop : goal.invariant-loop
invariant-loop l = AreEmpty l.rows.items l.counter
