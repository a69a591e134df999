-- What is no click has no second round.
use Rattle.std.proofs.Common.{◌≡◌, [], sym, ap, ◌∙◌, subst}
use Rattle.std.specs.Prelude.{OnOk}
use Rattle.std.specs.Option.{option_map_or}
use Rattle.machine_spec.specs.Outcome.{Goes, StopIs}
use Rattle.machine_spec.specs.Starting.{meant}
use Rattle.hat_index.specs.Index.{found}
use Rattle.hats.specs.Indexed.{hats_among}
use Rattle.hats.specs.Started.{crowd_of, started_all}
use Rattle.hats.proofs.Rounds.{second_round, second_none}
use Rattle.hats.proofs.hat_rounds.start_second.Goals as goal

pub returns-in-Some-clause-ok : goal.returns-in-Some-clause-ok
returns-in-Some-clause-ok c =
    subst (λ xs. OnOk c.start_round.result (started_all c.args.round.now.running xs (crowd_of c.args.threads.now c.args.numbers.now) ≡ Goes (crowd_of c.start_round.new.threads c.start_round.new.numbers)))
    (second_round (found c.args.round.now.index.now) c.args.round.now.filter.now c.in-Some.opcode c.args.instances.now (sym c.second_opcode.ensures ∙ c.in-Some.is)) c.start_round.ensures.ok

pub returns-in-Some-clause-stop : goal.returns-in-Some-clause-stop
returns-in-Some-clause-stop c =
    subst (λ xs. StopIs c.start_round.result (started_all c.args.round.now.running xs (crowd_of c.args.threads.now c.args.numbers.now)))
    (second_round (found c.args.round.now.index.now) c.args.round.now.filter.now c.in-Some.opcode c.args.instances.now (sym c.second_opcode.ensures ∙ c.in-Some.is)) c.start_round.ensures.stop

pub returns-in-None-clause-ok : goal.returns-in-None-clause-ok
returns-in-None-clause-ok c =
    let r = c.args.round.now in
    ap (λ o. started_all r.running (option_map_or (λ a. hats_among (found r.index.now) a (meant r.filter.now c.args.instances.now)) o []) (crowd_of c.args.threads.now c.args.numbers.now))
    (second_none r.filter.now (sym c.second_opcode.ensures ∙ c.in-None.is))
