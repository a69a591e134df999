use Rattle.std.proofs.Common.{◌≡◌, ◌+◌, ℕ, length, ap, sym, ◌∙◌, subst, rules}
use Rattle.std.specs.List.{All, enumerate_from}
use Rattle.std.specs.Vec.Iter.{into_iter_items}
use Rattle.std.proofs.lemmas.List.{length_push}
use Rattle.std.proofs.lemmas.List.Elements.{All-push}
use Rattle.std.proofs.lemmas.Result.{err_from_is_err_and}
use Rattle.machine_spec.specs.declared.records.TargetRecord.{TargetRecord}
use Rattle.project_spec.specs.Limits.{target_measures, target_place, first_too_many}
use Rattle.std.specs.Prelude.{flat_map}
use Rattle.target_records.specs.Held.{IsSmall, HasShortLists}
use Rattle.target_records.proofs.Counts.{turn_stop, turn_pass, turn_all}
use Rattle.target_records.proofs.text_lengths.bounded_targets.Goals as goal

pub returns-in_err-target : goal.returns-in_err-target
returns-in_err-target c =
    let p = err_from_is_err_and c.from_residual.result c.from_residual.ensures.1 in
    let n : ℕ = length c.loop-target.bounded.items in
    let here : c.item.result ≡ target_place n = search rules in
    rw (p.1, p.2) (turn_stop (λ t. t) (λ ts. ts) c.in-Some.target c.args.targets _ (λ (x : ℕ × TargetRecord). target_measures (target_place x.0) x.1) (n, c.in-Some.target) (enumerate_from n (into_iter_items c.loop-target.target-iterator)) (enumerate_from (n + 1) (into_iter_items c.next.new.self)) _ (rw here at c.in_err-target.ensures.bounds) (ap (enumerate_from n) c.in-Some.ensures.steps.0) c.loop-target.invariant.many)

pub loop-target-preserved : goal.loop-target-preserved
loop-target-preserved c =
    let n : ℕ = length c.loop-target.bounded.items in
    let here : c.item.result ≡ target_place n = search rules in
    let none = rw here at c.in_ok-target.ensures.bounds.1 in
    let long : length c.push.new.self.items ≡ n + 1 = ap length c.in_ok-push.ensures.items ∙ length_push c.loop-target.bounded.items c.in_ok-target.target in
    record {
      all = turn_all c.loop-target.bounded.items c.push.new.self.items (into_iter_items c.loop-target.target-iterator) (into_iter_items c.next.new.self) c.args.targets c.in-Some.target c.in_ok-target.target c.in_ok-push.ensures.items c.in_ok-target.ensures.bounds.0 c.in-Some.ensures.steps.0 c.loop-target.invariant.all;
      many =
          ap (λ k. first_too_many (flat_map (λ (x : ℕ × TargetRecord). target_measures (target_place x.0) x.1) (enumerate_from k (into_iter_items c.next.new.self)))) long
          ∙ turn_pass (λ (x : ℕ × TargetRecord). target_measures (target_place x.0) x.1) (n, c.in-Some.target) (enumerate_from n (into_iter_items c.loop-target.target-iterator)) (enumerate_from (n + 1) (into_iter_items c.next.new.self)) _ none (ap (enumerate_from n) c.in-Some.ensures.steps.0) c.loop-target.invariant.many;
      small = subst (All IsSmall) (sym c.in_ok-push.ensures.items) (All-push IsSmall c.loop-target.bounded.items c.in_ok-target.target c.loop-target.invariant.small c.in_ok-target.ensures.small);
      short = subst (All HasShortLists) (sym c.in_ok-push.ensures.items) (All-push HasShortLists c.loop-target.bounded.items c.in_ok-target.target c.loop-target.invariant.short c.in_ok-target.ensures.short);
    }
