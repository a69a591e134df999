use Rattle.std.proofs.Common.{◌≡◌, reverse}
use Rattle.std.specs.Prelude.{flat_map}
use Rattle.hat_index.specs.Index.{found}
use Rattle.hats.specs.Indexed.{AreHeld}
use Rattle.hats.specs.Started.{crowd_of, started_all}
use Rattle.hats.specs.Rounds.{asked_in, hats_if_meant, IsKept}
use Rattle.hats.proofs.hat_rounds.start_round.Given as goal

-- the instances that are left, from the threads so far, are all instances from the first threads
abbrev pub invariant-loop-instance : goal.invariant-loop-instance
invariant-loop-instance l = record {
  walk : started_all l.round.running (flat_map (hats_if_meant (found l.round.index.now) l.round.filter.now (asked_in l.round)) (reverse l.instance-iterator.iter.rest.now)) (crowd_of l.threads l.numbers) ≡ started_all l.round.running (flat_map (hats_if_meant (found l.round.index.now) l.round.filter.now (asked_in l.round)) (reverse l.fn.instances)) (crowd_of l.initial.threads l.initial.numbers);
  kept : IsKept (λ sheets. AreHeld sheets (found l.round.index.now)) l.initial.threads l.threads l.initial.numbers l.numbers;
}
