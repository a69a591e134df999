-- Level by level, the markers that are looked at.
use Rattle.std.proofs.Common.{◌≡◌, ◌-◌, ◌+◌, suc, List, Some, sym, ap, ◌∙◌, subst, arith}
use Rattle.std.specs.Prelude.{◌||◌, slice_get}
use Rattle.std.specs.Option.{option_copied}
use Rattle.machine_spec.specs.Pending as machine
use Rattle.project_check.specs.Loaded.{sheet_at}
use Rattle.thread_frames.specs.Fit.{AllUnder}
use Rattle.thread_frames.specs.declared.level.Level.{Level}
use Rattle.thread_frames.specs.Levels.{without_top}
use Rattle.thread_frames.specs.Reading.{beneath}
use Rattle.thread_moves.specs.Moves.{levels_at}
use Rattle.thread_moves.proofs.Recursion.{rec_start, rec_none, rec_step, rec_zero, under_first, under_rest}
use Rattle.thread_moves.proofs.procedure_calls.is_recursive.Goals as goal

pub loop-looked_at-init : goal.loop-looked_at-init
loop-looked_at-init c =
    let sheet = sheet_at c.args.target c.args.project.now in
    let rest : c.under-rest.result ≡ without_top (levels_at c.args.which c.args.threads.now) = c.under-rest.ensures ∙ ap without_top c.levels_at.ensures in
    record {
      under = subst (AllUnder sheet) (sym rest) c.requires.under;
      same = rec_start sheet c.args.code.now (levels_at c.args.which c.args.threads.now) ∙ ap (λ (ls : List Level). machine.is_recursive c.args.code.now 6 (beneath sheet ls)) (sym rest);
    }

pub has_called-requires : goal.has_called-requires
has_called-requires c = under_first (sheet_at c.args.target c.args.project.now) c.args.code.now c.loop-looked_at.rest _ c.loop-looked_at.invariant.under (sym c.top.ensures ∙ ap option_copied c.in-Some.is)

pub returns-then-has_called : goal.returns-then-has_called
returns-then-has_called c =
    let sheet = sheet_at c.args.target c.args.project.now in
    let at : slice_get c.loop-looked_at.rest 0 ≡ Some c.in-Some.level.now = sym c.top.ensures ∙ ap option_copied c.in-Some.is in
    let u = under_first sheet c.args.code.now c.loop-looked_at.rest _ c.loop-looked_at.invariant.under at in
    let left : 6 - c.loop-looked_at.looked_at ≡ suc (6 - (c.loop-looked_at.looked_at + 1)) = omega arith in
    let t = sym (c.has_called.ensures u) ∙ c.if-has_called.true in
    sym (
    c.loop-looked_at.invariant.same
    ∙ ap (λ n. machine.is_recursive c.args.code.now n (beneath sheet c.loop-looked_at.rest)) left
    ∙ rec_step sheet c.args.code.now (6 - (c.loop-looked_at.looked_at + 1)) c.loop-looked_at.rest _ u at
    ∙ ap (λ x. x || machine.is_recursive c.args.code.now (6 - (c.loop-looked_at.looked_at + 1)) (beneath sheet (without_top c.loop-looked_at.rest))) t
    )

pub returns-in-None : goal.returns-in-None
returns-in-None c =
    sym (c.loop-looked_at.invariant.same ∙ rec_none (sheet_at c.args.target c.args.project.now) c.args.code.now _ c.loop-looked_at.rest (sym c.top.ensures ∙ ap option_copied c.in-None.is))

pub loop-looked_at-preserved : goal.loop-looked_at-preserved
loop-looked_at-preserved c =
    let sheet = sheet_at c.args.target c.args.project.now in
    let at : slice_get c.loop-looked_at.rest 0 ≡ Some c.in-Some.level.now = sym c.top.ensures ∙ ap option_copied c.in-Some.is in
    let u = under_first sheet c.args.code.now c.loop-looked_at.rest _ c.loop-looked_at.invariant.under at in
    let left : 6 - c.loop-looked_at.looked_at ≡ suc (6 - (c.loop-looked_at.looked_at + 1)) = omega arith in
    let t = sym (c.has_called.ensures u) ∙ c.if-has_called.false in
    record {
      under = subst (AllUnder sheet) (sym c.under-rest-in-loop-looked_at.ensures) (under_rest sheet c.args.code.now c.loop-looked_at.rest c.loop-looked_at.invariant.under);
      same =
          c.loop-looked_at.invariant.same
          ∙ ap (λ n. machine.is_recursive c.args.code.now n (beneath sheet c.loop-looked_at.rest)) left
          ∙ rec_step sheet c.args.code.now (6 - (c.loop-looked_at.looked_at + 1)) c.loop-looked_at.rest _ u at
          ∙ ap (λ x. x || machine.is_recursive c.args.code.now (6 - (c.loop-looked_at.looked_at + 1)) (beneath sheet (without_top c.loop-looked_at.rest))) t
          ∙ ap (λ (ls : List Level). machine.is_recursive c.args.code.now (6 - (c.loop-looked_at.looked_at + 1)) (beneath sheet ls)) (sym c.under-rest-in-loop-looked_at.ensures);
    }

pub returns : goal.returns
returns c =
    let sheet = sheet_at c.args.target c.args.project.now in
    let none : 6 - c.loop-looked_at.looked_at ≡ 0 = omega arith in
    sym (
    c.loop-looked_at.invariant.same
    ∙ ap (λ n. machine.is_recursive c.args.code.now n (beneath sheet c.loop-looked_at.rest)) none
    ∙ rec_zero sheet c.args.code.now c.loop-looked_at.rest c.loop-looked_at.invariant.under
    )
