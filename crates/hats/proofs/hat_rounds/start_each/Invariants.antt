use Rattle.std.proofs.Common.{◌≡◌, drop, map}
use Rattle.hats.specs.Indexed.{hat_by, AreAllHeld}
use Rattle.hats.specs.Rounds.{IsKept}
use Rattle.hats.specs.Started.{crowd_of, started_all}
use Rattle.hats.proofs.hat_rounds.start_each.Given as goal

-- the hats that are left, from the threads so far, are all from the first threads
abbrev pub invariant-loop-start : goal.invariant-loop-start
invariant-loop-start l = record {
  walk : started_all l.round.running (map (hat_by l.round.opcode l.instance) (drop l.start-index l.starts)) (crowd_of l.threads l.numbers) ≡ started_all l.round.running (map (hat_by l.round.opcode l.instance) l.starts) (crowd_of l.initial.threads l.initial.numbers);
  kept : IsKept (λ sheets. AreAllHeld (sheets l.instance.of) l.starts) l.initial.threads l.threads l.initial.numbers l.numbers;
}
