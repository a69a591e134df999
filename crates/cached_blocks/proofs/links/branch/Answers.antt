use Rattle.std.proofs.Common.{◌≡◌, ◌∙◌, ℕ, true, false, List, [], Option, bytes_eq, ap, sym, subst}
use Rattle.std.proofs.lemmas.Slice.Eq.{bytes_eq-Decides}
use Rattle.project_spec.specs.Linked.{is_branch}
use Rattle.cached_blocks.proofs.Branches.{branch-past, branch-here}
use Rattle.cached_blocks.proofs.links.branch.Goals as goal

pub returns-then-eq : goal.returns-then-eq
returns-then-eq c =
    let same : bytes_eq c.loop-own-item.result.0 c.args.name.now ≡ true = rw c.as_str.ensures at (sym c.eq.ensures ∙ c.if-eq.true) in
    let is : is_branch c.loop-own-item.result.0 ≡ true = subst (λ n. is_branch n ≡ true) (sym ((bytes_eq-Decides c.loop-own-item.result.0 c.args.name.now).0 same)) c.requires in
    sym (ap (λ (p : List ℕ × Option ℕ). p.1) (c.first_of.ensures [])) ∙ branch-here c.args.name.now c.args.inputs.now c.loop-own.own-index c.loop-own-item.result c.loop-own-test.true c.loop-own-item.is is same c.loop-own.invariant

pub loop-own-preserved : goal.loop-own-preserved
loop-own-preserved c =
    branch-past c.args.name.now c.args.inputs.now c.loop-own.own-index c.loop-own-item.result c.loop-own-test.true c.loop-own-item.is (rw c.as_str.ensures at (sym c.eq.ensures ∙ c.if-eq.false)) c.loop-own.invariant
