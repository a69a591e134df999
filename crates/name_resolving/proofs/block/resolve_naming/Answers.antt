use Rattle.std.proofs.Common.{◌≡◌, [], ◌∷◌, ◌++◌, sym, subst}
use Rattle.std.proofs.lemmas.Result.{on_ok_weaker}
use Rattle.target_records.specs.Records.{records_in}
use Rattle.name_resolving.specs.Naming.{naming_in}
use Rattle.name_resolving.specs.Passing.{Passes}
use Rattle.name_resolving.proofs.Passed.{resolved, passes-one}
use Rattle.name_resolving.proofs.block.resolve_naming.Goals as goal

pub returns-in_ok-part-in-Some : goal.returns-in_ok-part-in-Some
returns-in_ok-part-in-Some c =
    let n = naming_in c.in-Some.naming in
    let ref = c.in_ok-variable-in-Some.variable in
    let done = c.args.refs.now in
    let answer = c.in_ok-variable-in-Some.ensures in
    let one = passes-one c.args.scope.now c.resolve.new.self n (records_in c.args.records.now) (records_in c.resolve.new.records) ref done c.requires.scope answer.resolved answer.scope answer.target in
    let pushed = rw c.in_ok-part-in-Some.ensures.cases at c.push.ensures.ok in
    rw c.in-Some.is (on_ok_weaker c.push.result (λ (e : c.push.new.self ≡ done ++ resolved n ref ∷ []). subst (λ all. Passes c.args.scope.now c.resolve.new.self (n ∷ []) (records_in c.args.records.now) done (records_in c.resolve.new.records) all) (sym e) one) pushed)
