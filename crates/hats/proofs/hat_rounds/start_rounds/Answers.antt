-- The second round goes on from the threads that the first has left.
use Rattle.std.proofs.Common.{◌≡◌, [], sym, ap, ◌∙◌, subst}
use Rattle.std.specs.Prelude.{OnOk}
use Rattle.std.specs.Option.{option_map_or}
use Rattle.machine_spec.specs.Outcome.{Goes, StopIs}
use Rattle.machine_spec.specs.Starting.{meant}
use Rattle.hat_index.specs.ByIndex.{first_asked, second_asked}
use Rattle.hat_index.specs.Index.{found}
use Rattle.hats.specs.Indexed.{hats_among}
use Rattle.hats.specs.Rounds.{asked_in}
use Rattle.hats.specs.Started.{crowd_of, started_all}
use Rattle.hats.proofs.Outcomes.{all-more, all-stop, stop-same}
use Rattle.hats.proofs.Rounds.{first_round}
use Rattle.hats.proofs.hat_rounds.start_rounds.Goals as goal

pub returns-in-Err-clause-stop : goal.returns-in-Err-clause-stop
returns-in-Err-clause-stop c =
    let r = c.args.round.now in
    let is = meant r.filter.now c.args.instances.now in
    let first = first_round (found r.index.now) r.filter.now (asked_in r) c.args.instances.now c.requires.first in
    all-stop r.running (Unit {0}) (Unit {0}) c.in-Err.stop (hats_among (found r.index.now) (first_asked r.filter.now) is) (option_map_or (λ a. hats_among (found r.index.now) a is) (second_asked r.filter.now) [])
    (crowd_of c.args.threads.now c.args.numbers.now)
    (stop-same (Unit {0}) (Unit {0}) c.in-Err.stop _ _ (ap (λ xs. started_all r.running xs (crowd_of c.args.threads.now c.args.numbers.now)) first) c.in-Err.ensures.stop)

pub returns-clause-ok : goal.returns-clause-ok
returns-clause-ok c =
    let r = c.args.round.now in
    let is = meant r.filter.now c.args.instances.now in
    let first = first_round (found r.index.now) r.filter.now (asked_in r) c.args.instances.now c.requires.first in
    let begun = ap (λ xs. started_all r.running xs (crowd_of c.args.threads.now c.args.numbers.now)) (sym first) ∙ c.in-Ok.ensures.ok in
    subst (λ o. OnOk c.start_second.result (o ≡ Goes (crowd_of c.start_second.new.threads c.start_second.new.numbers)))
    (sym (all-more r.running (hats_among (found r.index.now) (first_asked r.filter.now) is) (option_map_or (λ a. hats_among (found r.index.now) a is) (second_asked r.filter.now) [])
    (crowd_of c.args.threads.now c.args.numbers.now) (crowd_of c.start_round.new.threads c.start_round.new.numbers) begun))
    c.start_second.ensures.ok

pub returns-clause-stop : goal.returns-clause-stop
returns-clause-stop c =
    let r = c.args.round.now in
    let is = meant r.filter.now c.args.instances.now in
    let first = first_round (found r.index.now) r.filter.now (asked_in r) c.args.instances.now c.requires.first in
    let begun = ap (λ xs. started_all r.running xs (crowd_of c.args.threads.now c.args.numbers.now)) (sym first) ∙ c.in-Ok.ensures.ok in
    subst (StopIs c.start_second.result)
    (sym (all-more r.running (hats_among (found r.index.now) (first_asked r.filter.now) is) (option_map_or (λ a. hats_among (found r.index.now) a is) (second_asked r.filter.now) [])
    (crowd_of c.args.threads.now c.args.numbers.now) (crowd_of c.start_round.new.threads c.start_round.new.numbers) begun))
    c.start_second.ensures.stop
