-- The instances that are left, from the threads so far, are all instances.
use Rattle.hat_index.specs.Index.{found}
use Rattle.hats.specs.Started.{crowd_of}
use Rattle.hats.specs.Rounds.{asked_in, hats_if_meant}
use Rattle.hats.proofs.Turns.{kept-more, back-more, back-stop}
use Rattle.hats.proofs.hat_rounds.start_round.Goals as goal

pub loop-instance-preserved : goal.loop-instance-preserved
loop-instance-preserved c = record {
  walk = back-more c.args.round.now.running (hats_if_meant (found c.args.round.now.index.now) c.args.round.now.filter.now (asked_in c.args.round.now)) _ c.loop-instance.instance-iterator.iter.rest.now c.next.new.self.iter.rest.now c.in-Some.instance.now (crowd_of c.loop-instance.threads c.loop-instance.numbers) (crowd_of c.start_instance.new.threads c.start_instance.new.numbers) c.in-Some.ensures.steps c.loop-instance.invariant.walk c.in-Ok.ensures.ok;
  kept = kept-more _ _ _ _ _ _ _ c.loop-instance.invariant.kept c.start_instance.ensures.kept;
}

pub returns-in-Err-clause-stop : goal.returns-in-Err-clause-stop
returns-in-Err-clause-stop c =
    back-stop c.args.round.now.running (hats_if_meant (found c.args.round.now.index.now) c.args.round.now.filter.now (asked_in c.args.round.now)) _ (Unit {0}) (Unit {0}) c.in-Err.stop c.loop-instance.instance-iterator.iter.rest.now c.next.new.self.iter.rest.now c.in-Some.instance.now (crowd_of c.loop-instance.threads c.loop-instance.numbers) c.in-Some.ensures.steps c.loop-instance.invariant.walk c.in-Err.ensures.stop
