-- A call enters its procedure, or goes on.
use Rattle.std.proofs.Common.{◌≡◌, ℕ, Bool, true, false, List, ◌∷◌, ◌++◌, Option, Some, refl, sym, ap, ◌∙◌, subst}
use Rattle.std.specs.Prelude.{is_some, ◌||◌}
use Rattle.opcode_table.specs.declared.kinds.Kind.{Kind}
use Rattle.opcode_table.specs.declared.kinds.Kind.TheVariants.{Calls}
use Rattle.machine_spec.specs.Script.{Statement}
use Rattle.machine_spec.specs.Program.{Program, Procedure, procedure}
use Rattle.machine_spec.specs.Called.{called_by, called}
use Rattle.machine_spec.specs.Threads.{Params}
use Rattle.machine_spec.specs.declared.threads.Context.TheVariants.{Called}
use Rattle.machine_spec.specs.declared.threads.Report.{Report}
use Rattle.machine_spec.specs.Keeping.{is_calls, under_fits}
use Rattle.machine_spec.specs.Pending.{Item, Back, dos, is_recursive, call_report, entered}
use Rattle.machine_spec.specs.Step.{entered_some}
use Rattle.project_spec.specs.Trees.{Sheet, target_of_link, script, call_code}
use Rattle.project_check.specs.declared.project.Project.{Project}
use Rattle.project_check.specs.Loaded.{program_of, sheet_at}
use Rattle.thread_frames.specs.declared.level.Level.{Level}
use Rattle.thread_frames.specs.Levels.{new_level, on_top, with_context, with_params, top_block, warp_flag}
use Rattle.thread_frames.specs.Reading.{params_in, marker_by, marker, beneath, pending}
use Rattle.thread_frames.specs.Fit.{kind_of, IsHeld}
use Rattle.thread_moves.specs.Ranked.{IsRanked}
use Rattle.thread_moves.specs.Standing.{IsAt, IsReadyUnless, is_ended, TopHolds}
use Rattle.thread_moves.proofs.Fits.{calls_no_branch, call_under}
use Rattle.thread_moves.proofs.Recursion.{rec_dos, rec_first}
use Rattle.thread_moves.proofs.Moves.{s, r, warp_is, no_loop, r_is, pushed}

-- a call's procedure is found by its code
by_kind : (k : Kind) (p : Program) (target : ℕ) (code : List ℕ) → is_calls k ≡ true → called_by k p target code ≡ procedure target code p
by_kind Calls p target code h = refl
by_kind k p target code h = absurd (cc)

module _ (p : Project) (target : ℕ) (old : List Level) (k : ℕ) (ranked : IsRanked (sheet_at target p)) (th : TopHolds (sheet_at target p) old k) (calls : is_calls (kind_of th.block) ≡ true) where
  abbrev sheet : Sheet
  sheet = sheet_at target p

  abbrev statement_is : Statement
  statement_is = s sheet old k ranked th

  abbrev rest_is : List Item
  rest_is = r sheet old k ranked th

  pub called_is : called (program_of p) statement_is ≡ procedure target (call_code th.block.mutation) (program_of p)
  called_is = by_kind (kind_of th.block) (program_of p) target (call_code th.block.mutation) calls

  recursive_is : (code : List ℕ) (n : ℕ) → is_recursive code n (pending sheet old) ≡ is_recursive code n rest_is
  recursive_is code n =
      ap (λ o. is_recursive code n (pending sheet o)) th.is
      ∙ rec_first sheet code n th.top th.top.block (beneath sheet th.under)
      ∙ sym (rec_dos sheet code n (script sheet (target_of_link th.block.next)) (beneath sheet th.under))
      ∙ ap (is_recursive code n) (sym (r_is sheet old k ranked th))

  pub call_is : (q : Procedure) (first : ℕ) (mid : List Level) (ps : Params) (in_warp warp recursive late : Bool) (report : Report)
      → script sheet (Some first) ≡ q.body → IsHeld sheet (Some first) → in_warp ≡ warp_flag old → warp ≡ (in_warp || q.warp) → recursive ≡ is_recursive q.code 6 (pending sheet old)
      → report ≡ call_report in_warp late q.warp recursive → is_ended report ≡ false
      → mid ≡ new_level (Some first) warp ∷ on_top (with_params ps) (on_top (with_context Called) old)
      → IsAt sheet (entered late (warp_flag old) statement_is rest_is q ps) mid report
  call_is q first mid ps in_warp warp recursive late report body held was w_is rec_is report_is on e =
      let l : Level = with_params ps (with_context Called th.top) in
      let loop : th.top.is_loop ≡ false = no_loop sheet old k ranked th (calls_no_branch (kind_of th.block) calls) in
      let mark : marker l statement_is ≡ Back statement_is ps (warp_flag old) = ap (λ x. marker_by x Called (params_in l) th.top.warp statement_is) loop ∙ ap (Back statement_is ps) (sym (warp_is sheet old k ranked th)) in
      let fit : under_fits Called th.top.is_loop (kind_of th.block) ≡ true = ap (λ x. under_fits Called x (kind_of th.block)) loop ∙ call_under (kind_of th.block) calls in
      let mid_is : mid ≡ new_level (Some first) warp ∷ l ∷ th.under = e ∙ ap (λ o. new_level (Some first) warp ∷ on_top (with_params ps) (on_top (with_context Called) o)) th.is in
      let is = pushed sheet old k ranked th mid (Some first) warp l (Back statement_is ps (warp_flag old)) mid_is held th.holds fit refl mark in
      record {
        items = is.2 ∙ ap (λ t. dos t ++ Back statement_is ps (warp_flag old) ∷ rest_is) body;
        warp = is.1 ∙ w_is ∙ ap (λ x. x || q.warp) was;
        report_is = report_is ∙ ap (λ x. call_report x late q.warp recursive) was ∙ ap (call_report (warp_flag old) late q.warp) (rec_is ∙ recursive_is q.code 6);
        ready = subst (λ x. IsReadyUnless x sheet mid) (sym on) (record { fit = is.0; holds = ap (λ o. is_some (top_block o)) mid_is });
      }

  -- what the call does, by its procedure
  pub enters : (o : Option Procedure) (late : Bool) (ps : Params) (new : List Level) (report : Report) → procedure target (call_code th.block.mutation) (program_of p) ≡ o
      → IsAt sheet (entered_some o late (warp_flag old) statement_is rest_is ps) new report
      → IsAt sheet (entered_some (called (program_of p) statement_is) late (warp_flag old) statement_is rest_is ps) new report
  enters o late ps new report e at = subst (λ x. IsAt sheet (entered_some x late (warp_flag old) statement_is rest_is ps) new report) (sym (called_is ∙ e)) at
