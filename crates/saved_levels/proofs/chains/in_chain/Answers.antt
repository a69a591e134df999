-- Link by link, the block is where the chain has it.
use Rattle.std.proofs.Common.{◌≡◌, ◌==◌, ◌<◌, false, sym, ap, subst, ◌∙◌, arith}
use Rattle.project_check.specs.Loaded.{ranks_at, sheet_at}
use Rattle.project_spec.specs.Trees.{script}
use Rattle.saved_spec.specs.Levels.{script_from}
use Rattle.saved_levels.proofs.Linked.{ends_none, ends_absent, finds_here, goes_on, fewer_left, left_at}
use Rattle.saved_levels.proofs.chains.in_chain.Goals as goal

pub returns-in-None : goal.returns-in-None
returns-in-None c =
    ends_absent (sheet_at c.args.target c.args.project.now) c.args.wanted _ c.in-Some.id (sym c.in-None.ensures.block)
    (ap (λ o. script_from c.args.wanted (script (sheet_at c.args.target c.args.project.now) o)) (sym c.in-Some.is) ∙ c.loop-at.invariant)

pub returns-then-from-wanted : goal.returns-then-from-wanted
returns-then-from-wanted c =
    finds_here (sheet_at c.args.target c.args.project.now) c.args.wanted _ (ranks_at c.args.target c.args.project.now) c.in-Some-ranked.ensures.ranks c.in-Some.id c.in-Some-ranked.block.now (sym c.in-Some-ranked.ensures.block)
    (ap (λ o. script_from c.args.wanted (script (sheet_at c.args.target c.args.project.now) o)) (sym c.in-Some.is) ∙ c.loop-at.invariant)
    (omega arith)

pub loop-at-smaller : goal.loop-at-smaller
loop-at-smaller c =
    subst (λ o. left_at (ranks_at c.args.target c.args.project.now) c.linked-at.result < left_at (ranks_at c.args.target c.args.project.now) o) (sym c.in-Some.is)
    (fewer_left (sheet_at c.args.target c.args.project.now) (ranks_at c.args.target c.args.project.now) c.in-Some-ranked.ensures.ranks c.in-Some.id c.in-Some-ranked.block.now (sym c.in-Some-ranked.ensures.block) c.linked-at.result c.linked-at.ensures)

pub loop-at-preserved : goal.loop-at-preserved
loop-at-preserved c =
    let off : (c.in-Some.id == c.args.wanted) ≡ false = grind arith in
    ap (λ o. script_from c.args.wanted (script (sheet_at c.args.target c.args.project.now) o)) c.linked-at.ensures
    ∙ goes_on (sheet_at c.args.target c.args.project.now) c.args.wanted _ (ranks_at c.args.target c.args.project.now) c.in-Some-ranked.ensures.ranks c.in-Some.id c.in-Some-ranked.block.now (sym c.in-Some-ranked.ensures.block)
    (ap (λ o. script_from c.args.wanted (script (sheet_at c.args.target c.args.project.now) o)) (sym c.in-Some.is) ∙ c.loop-at.invariant) off

pub returns : goal.returns
returns c =
    ends_none (sheet_at c.args.target c.args.project.now) c.args.wanted _
    (ap (λ o. script_from c.args.wanted (script (sheet_at c.args.target c.args.project.now) o)) (sym c.in_default.is) ∙ c.loop-at.invariant)
