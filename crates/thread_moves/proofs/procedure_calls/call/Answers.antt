-- The procedure is entered, or the block is passed.
use Rattle.std.proofs.Common.{◌≡◌, Some, None, true, sym, ap, ◌∙◌, refl, subst, arith}
use Rattle.std.specs.Prelude.{◌||◌, option_map}
use Rattle.opcode_table.specs.Kinds.{kind}
use Rattle.machine_spec.specs.Keeping.{is_calls}
use Rattle.machine_spec.specs.Called.{called}
use Rattle.machine_spec.specs.Pending as machine
use Rattle.machine_spec.specs.Program.{procedure}
use Rattle.machine_spec.specs.Starting.{open_levels}
use Rattle.machine_spec.specs.Step.{entered_some}
use Rattle.machine_spec.specs.declared.threads.Context.TheVariants.{Called}
use Rattle.machine_spec.specs.declared.threads.Report.{Report}
use Rattle.project_check.specs.Loaded.{program_of, sheet_at}
use Rattle.project_check.specs.Procedures.{callee_in, procedure_in}
use Rattle.project_spec.specs.Trees.{call_code, statement}
use Rattle.project_spec.proofs.Unrolling.{script-at}
use Rattle.thread_frames.specs.Levels.{with_context, with_params, warp_flag}
use Rattle.thread_frames.specs.Reading.{pending}
use Rattle.thread_frames.specs.Threads.{frames}
use Rattle.thread_moves.specs.Moves.{MovesOn, levels_at}
use Rattle.thread_moves.proofs.InPlace.{no_room, top_at, moves_on}
use Rattle.thread_moves.proofs.Moves.{told, cached, cached_is, top_stacked}
use Rattle.thread_moves.proofs.Calls.{call_is, enters}
use Rattle.thread_moves.proofs.Opened.{levels_three, only_three, stops_two}
use Rattle.thread_moves.proofs.procedure_calls.call.Goals as goal
use Rattle.thread_moves.proofs.procedure_calls.call.Goals.{then-warp, else-warp}

pub pass-report-requires : goal.pass-report-requires
pass-report-requires c = top_at _ _ _ _ _ c.requires.at

pub is_recursive-recursive-requires : goal.is_recursive-recursive-requires
is_recursive-recursive-requires c = record { under = top_stacked _ _ _ c.linked-block.ensures.ranked (top_at _ _ _ _ _ c.requires.at) }

pub returns-in-None-clause-at : goal.returns-in-None-clause-at
returns-in-None-clause-at c =
    let ranked = c.linked-block.ensures.ranked in
    let th = top_at _ _ _ _ _ c.requires.at in
    let b = cached_is _ _ _ ranked th _ c.linked-block.ensures.block in
    let calls = cached _ _ _ ranked th (λ x. is_calls (kind x.op) ≡ true) _ c.linked-block.ensures.block c.requires.calls in
    let none : procedure c.args.target (call_code th.block.mutation) (program_of c.args.project.now) ≡ None =
    ap (λ t. procedure c.args.target t (program_of c.args.project.now)) (sym (c.as_str.ensures ∙ ap (λ x. x.code) b)) ∙ sym c.callee.ensures.procedure ∙ ap (option_map (λ d. procedure_in (sheet_at c.args.target c.args.project.now) (callee_in d))) c.in-None.is in
    subst (MovesOn c.args.project.now c.args.which c.args.target c.args.id (λ s rest warp. entered_some (called (program_of c.args.project.now) s) c.args.late warp s rest c.args.params) c.args.threads.now c.report_of.new.threads) (sym c.report_of.ensures.same)
    (moves_on _ _ _ _ _ c.requires.at _ _ c.pass-report.result c.pass-report.ensures.only
    c.report_of.ensures.status (λ s rest warp. entered_some (called (program_of c.args.project.now) s) c.args.late warp s rest c.args.params)
    (told _ _ _ ranked th (λ s rest. entered_some (called (program_of c.args.project.now) s) c.args.late (warp_flag (levels_at c.args.which c.args.threads.now)) s rest c.args.params) _ _
    (enters c.args.project.now c.args.target _ _ ranked th calls None _ _ _ _ none
    (c.pass-report.ensures.at (statement (sheet_at c.args.target c.args.project.now) c.args.id th.block) _ (script-at (sheet_at c.args.target c.args.project.now) ranked.ranks ranked.falls c.args.id th.block th.found)))))

pub returns-in-Ok-clause-at : goal.returns-in-Ok-clause-at
returns-in-Ok-clause-at c =
    let ranked = c.linked-block.ensures.ranked in
    let th = top_at _ _ _ _ _ c.requires.at in
    let b = cached_is _ _ _ ranked th _ c.linked-block.ensures.block in
    let sheet = sheet_at c.args.target c.args.project.now in
    let calls = cached _ _ _ ranked th (λ x. is_calls (kind x.op) ≡ true) _ c.linked-block.ensures.block c.requires.calls in
    let q = procedure_in sheet (callee_in c.in-Some.callee) in
    let some : procedure c.args.target (call_code th.block.mutation) (program_of c.args.project.now) ≡ Some q =
    ap (λ t. procedure c.args.target t (program_of c.args.project.now)) (sym (c.as_str.ensures ∙ ap (λ x. x.code) b)) ∙ sym c.callee.ensures.procedure ∙ ap (option_map (λ d. procedure_in sheet (callee_in d))) c.in-Some.is in
    let w_is : c.if-warp.push ≡ (c.is_warp-warp.result || q.warp) = elim c.if-warp.branch [ then-warp w ↦ grind arith | else-warp w ↦ grind arith ] in
    subst (MovesOn c.args.project.now c.args.which c.args.target c.args.id (λ s rest warp. entered_some (called (program_of c.args.project.now) s) c.args.late warp s rest c.args.params) c.args.threads.now c.report_of-in-Some.new.threads) (sym c.report_of-in-Some.ensures.same)
    (moves_on _ _ _ _ _ c.requires.at _ _ c.call_report-report.result
    (only_three _ _ _ _ _ c.requires.at (with_context Called) (with_params c.args.params) _ _ c.set_context.ensures c.set_params.ensures _ _ c.in-Ok.ensures.ok)
    c.report_of-in-Some.ensures.status (λ s rest warp. entered_some (called (program_of c.args.project.now) s) c.args.late warp s rest c.args.params)
    (told _ _ _ ranked th (λ s rest. entered_some (called (program_of c.args.project.now) s) c.args.late (warp_flag (levels_at c.args.which c.args.threads.now)) s rest c.args.params) _ _
    (enters c.args.project.now c.args.target _ _ ranked th calls (Some q) _ _ _ _ some
    (call_is c.args.project.now c.args.target _ _ ranked th calls q c.in-Some.callee.definition _ c.args.params c.is_warp-warp.result c.if-warp.push _ c.args.late _ refl (c.in-Some.ensures.member) c.is_warp-warp.ensures w_is
    (c.is_recursive-recursive.ensures ∙ ap (λ t. machine.is_recursive t 6 (pending sheet (levels_at c.args.which c.args.threads.now))) c.as_str-code.ensures) c.call_report-report.ensures.report c.call_report-report.ensures.goes_on
    (levels_three _ _ _ _ _ c.requires.at (with_context Called) (with_params c.args.params) _ _ c.set_context.ensures c.set_params.ensures _ _ c.in-Ok.ensures.ok)))))

pub returns-in-Err-clause-stop : goal.returns-in-Err-clause-stop
returns-in-Err-clause-stop c = stops_two _ _ _ _ _ c.requires.at (with_context Called) (with_params c.args.params) _ _ c.set_context.ensures c.set_params.ensures (Unit {0}) Report c.in-Err.stop _ _ c.in-Err.ensures.stop

pub returns-then-levels-ge-MOST_LEVELS-clause-stop : goal.returns-then-levels-ge-MOST_LEVELS-clause-stop
returns-then-levels-ge-MOST_LEVELS-clause-stop c = no_room (open_levels frames c.args.threads.now) c.args.threads.now (omega (arith, c.levels.ensures.open, c.if-levels-ge-MOST_LEVELS.true))
