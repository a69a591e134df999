use Rattle.std.proofs.Common.{◌≡◌, ◌+◌, length, drop, refl, subst, ap, ◌++◌, arith, bytes_eq}
use Rattle.std.specs.List.{list_any, filter}
use Rattle.std.proofs.lemmas.List.{drop_all}
use Rattle.target_records.proofs.Sizes.{drop_turn}
use Rattle.report_command.specs.Unknown.{firsts}
use Rattle.report_command.proofs.Firsts.{is_new, none_seen, one_more, few_more, as_many_as_told, all_seen}
use Rattle.report_command.proofs.unknown.firsts.Goals as goal

pub loop-name-init : goal.loop-name-init
loop-name-init c = record {
  seen = none_seen c.new-seen.result (firsts c.args.names.now) c.new-seen.ensures;
  few = (let n = ap length c.new-seen.ensures in omega arith);
}

pub returns-then-len-eq-MOST_TOLD : goal.returns-then-len-eq-MOST_TOLD
returns-then-len-eq-MOST_TOLD c =
    let n = c.len.ensures in
    let t = c.if-len-eq-MOST_TOLD.true in
    as_many_as_told c.loop-name.seen _ (firsts c.args.names.now) c.loop-name.invariant.seen (omega arith)

pub loop-name-preserved : goal.loop-name-preserved
loop-name-preserved c =
    let n = c.len.ensures in
    let t = c.if-len-eq-MOST_TOLD.false in
    let few = c.loop-name.invariant.few in
    let x = c.name-item.result in
    let turn = drop_turn c.args.names.now c.loop-name.name-index x c.loop-name-test.true c.name-item.is in
    record {
      seen = one_more c.loop-name.seen c.push_first.new.names (drop (c.loop-name.name-index + 1) c.args.names.now) (firsts c.args.names.now) x (list_any (λ other. bytes_eq other x) c.loop-name.seen) refl c.in_ok-push_first.ensures
          (subst (λ rest. c.loop-name.seen ++ filter (is_new c.loop-name.seen) (firsts rest) ≡ firsts c.args.names.now) turn c.loop-name.invariant.seen);
      few = few_more c.loop-name.seen c.push_first.new.names x (list_any (λ other. bytes_eq other x) c.loop-name.seen) c.in_ok-push_first.ensures (omega arith);
    }

pub returns : goal.returns
returns c =
    let t = c.loop-name-test.false in
    all_seen c.loop-name.seen (drop c.loop-name.name-index c.args.names.now) (firsts c.args.names.now) (drop_all c.loop-name.name-index c.args.names.now (omega arith)) c.loop-name.invariant.seen c.loop-name.invariant.few
