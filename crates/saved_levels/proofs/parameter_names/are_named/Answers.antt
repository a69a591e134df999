-- Name by name, the parameters are those of the prototype so far.
use Rattle.std.proofs.Common.{◌≡◌, ◌==◌, ◌+◌, [], map, rules, arith, sym, ap, ◌∙◌, drop, drop_of_length-le}
use Rattle.std.proofs.lemmas.List.{length-map}
use Rattle.saved_levels.proofs.Names.{left_from, name_before, name_here, name_not, none_left}
use Rattle.saved_levels.proofs.parameter_names.are_named.Goals as goal
use Rattle.saved_levels.proofs.parameter_names.are_named.Goals.{then-not-is_before+then-is_at, else-not-is_before}

pub returns-else-is_at : goal.returns-else-is_at
returns-else-is_at c =
    let same = length-map c.args.params.now (λ p. p.name) in
    name_not (λ p. p.name) c.args.params.now c.args.names.now _ c.loop-name.name-index c.loop-name.count c.name-item.result c.as_str-name.result.now c.is_before.result
    c.loop-name-test.true c.name-item.is c.as_str-name.ensures c.loop-name.invariant.left c.is_before.ensures
    (search rules) (omega (arith, same, c.loop-name.invariant.within)) c.is_at.result c.is_at.ensures (search rules)

pub loop-name-preserved : goal.loop-name-preserved
loop-name-preserved c =
    let same = length-map c.args.params.now (λ p. p.name) in
    elim c.if-not-is_before.branch [
      | then-not-is_before+then-is_at w ↦
          let next = name_here (λ p. p.name) c.args.params.now c.args.names.now _ c.loop-name.name-index c.loop-name.count c.name-item.result c.as_str-name.result.now c.is_before.result
          c.loop-name-test.true c.name-item.is c.as_str-name.ensures c.loop-name.invariant.left c.is_before.ensures (search rules) w.is_at.result w.is_at.ensures (search rules) in
          record { within = omega (arith, same, next.1, w.count-is); left = ap (λ k. left_from (map (λ p. p.name) c.args.params.now) k (drop (c.loop-name.name-index + 1) c.args.names.now)) w.count-is ∙ next.0 }
      | else-not-is_before w ↦
          let next = name_before (λ p. p.name) c.args.params.now c.args.names.now _ c.loop-name.name-index c.loop-name.count c.name-item.result c.as_str-name.result.now c.is_before.result
          c.loop-name-test.true c.name-item.is c.as_str-name.ensures c.loop-name.invariant.left c.is_before.ensures (search rules) in
          record { within = omega (arith, c.loop-name.invariant.within, w.count-is); left = ap (λ k. left_from (map (λ p. p.name) c.args.params.now) k (drop (c.loop-name.name-index + 1) c.args.names.now)) w.count-is ∙ next }
    ]

pub returns : goal.returns
returns c =
    let same = length-map c.args.params.now (λ p. p.name) in
    let all : drop c.loop-name.name-index c.args.names.now ≡ [] = drop_of_length-le c.args.names.now c.loop-name-test.false in
    ap (λ n. c.loop-name.count == n) (sym same)
    ∙ none_left (map (λ p. p.name) c.args.params.now) _ c.loop-name.count (ap (left_from (map (λ p. p.name) c.args.params.now) c.loop-name.count) (sym all) ∙ c.loop-name.invariant.left) (omega (arith, same, c.loop-name.invariant.within))
