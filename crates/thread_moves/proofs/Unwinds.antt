-- Levels that are given up.
use Rattle.std.proofs.Common.{◌≡◌, Bool, true, false, List, [], ◌∷◌, ◌++◌, length, refl, sym, ap, ◌∙◌, subst, arith, inl, inr}
use Rattle.std.specs.Prelude.{nat_lt}
use Rattle.std.proofs.lemmas.Bool.{cases_Bool}
use Rattle.std.proofs.lemmas.Bool.Decides.{nat_tests}
use Rattle.machine_spec.specs.Script.{Script, End, Then, Statement}
use Rattle.machine_spec.specs.Keeping.{is_called}
use Rattle.machine_spec.specs.declared.threads.Context.{Context}
use Rattle.machine_spec.specs.declared.threads.Context.TheVariants.{Fresh, Repeat, Wait, Glide, Started, Asked, Spoken, Called}
use Rattle.machine_spec.specs.declared.threads.Report.{Report}
use Rattle.machine_spec.specs.declared.threads.Report.TheVariants.{Go, Ended}
use Rattle.machine_spec.specs.Pending.{Item, Back, dos, unwind}
use Rattle.project_spec.specs.Trees.{Sheet, target_of_link, script, statement}
use Rattle.thread_frames.specs.declared.level.Level.{Level}
use Rattle.thread_frames.specs.Levels.{from_call}
use Rattle.thread_frames.specs.Reading.{params_in, first_by, first_item, marker_by, marker, beneath}
use Rattle.thread_frames.specs.Fit.{kind_of, IsUnder, AllUnder}
use Rattle.thread_moves.specs.Standing.{IsAt}
use Rattle.thread_moves.proofs.Fits.{under_marker}
use Rattle.thread_moves.proofs.Items.{at_block}
use Rattle.thread_moves.proofs.Settles.{IsAt-move, under_ready, at_end}

pub unwind_dos : (t : Script) (r : List Item) → unwind (dos t ++ r) ≡ unwind r
unwind_dos End r = refl
unwind_dos (Then s rest) r = unwind_dos rest r

called_is : (c : Context) → is_called c ≡ true → c ≡ Called
called_is Called h = refl
called_is Fresh h = absurd (cc)
called_is (Repeat n) h = absurd (cc)
called_is (Wait k) h = absurd (cc)
called_is (Glide k) h = absurd (cc)
called_is (Started ns) h = absurd (cc)
called_is Asked h = absurd (cc)
called_is Spoken h = absurd (cc)

-- a report of levels that were unwound
abbrev pub unwound_report : List Level → Report
unwound_report [] = Ended
unwound_report (l ∷ ls) = Go

module _ (sheet : Sheet) where
  module _ (l : Level) (ls : List Level) (u : IsUnder sheet l) (below : AllUnder sheet ls) where
    abbrev s : Statement
    s = statement sheet u.id u.block

    abbrev r : List Item
    r = dos (script sheet (target_of_link u.block.next)) ++ beneath sheet ls

    here : beneath sheet (l ∷ ls) ≡ marker l s ∷ r
    here = ap (λ x. x ++ beneath sheet ls) (at_block sheet (marker l) l.block u.id u.block u.holds u.found)

    -- a level that has called
    at_call : is_called l.context ≡ true → l.is_loop ≡ false → IsAt sheet (unwind (beneath sheet (l ∷ ls))) (l ∷ ls) Go
    at_call calls no_loop =
        let c : l.context ≡ Called = called_is l.context calls in
        let mark : marker l s ≡ Back s (params_in l) l.warp = ap (λ m. marker_by m l.context (params_in l) l.warp s) no_loop ∙ ap (λ x. marker_by false x (params_in l) l.warp s) c in
        IsAt-move sheet _ (unwind (Back s (params_in l) l.warp ∷ r)) (l ∷ ls) (l ∷ ls) Go
        (ap unwind (here ∙ ap (λ x. x ∷ r) mark)) refl
        (record {
          items = ap (λ x. x ++ beneath sheet ls) (at_block sheet (first_item l) l.block u.id u.block u.holds u.found) ∙ ap (λ m. first_by m l.context (params_in l) s ∷ r) no_loop ∙ ap (λ x. first_by false x (params_in l) s ∷ r) c;
          warp = refl;
          report_is = refl;
          ready = under_ready sheet l ls u below;
        })

    -- a level that has not
    past : is_called l.context ≡ false → unwind (beneath sheet (l ∷ ls)) ≡ unwind (beneath sheet ls)
    past none =
        ap unwind here
        ∙ under_marker (λ x. unwind (x ∷ r) ≡ unwind r) l.context l.is_loop (kind_of u.block) (params_in l) l.warp s u.fits (λ k m. absurd (cc)) (λ k. refl) (λ k. refl)
        ∙ unwind_dos (script sheet (target_of_link u.block.next)) (beneath sheet ls)

    no_loop_of : is_called l.context ≡ true → l.is_loop ≡ false
    no_loop_of calls = loops l.context l.is_loop calls u.fits
      where
        loops : (c : Context) (m : Bool) → is_called c ≡ true → Rattle.machine_spec.specs.Keeping.under_fits c m (kind_of u.block) ≡ true → m ≡ false
        loops Called false h f = refl
        loops Called true h f = absurd (cc)
        loops c m h f = absurd (cc)

  pub unwound_is : (ls : List Level) → AllUnder sheet ls → IsAt sheet (unwind (beneath sheet ls)) (from_call ls) (unwound_report (from_call ls))
  unwound_is [] h = at_end sheet false
  unwound_is (l ∷ ls) h = elim (cases_Bool (is_called l.context)) [
    | inl y ↦ (let e : from_call (l ∷ ls) ≡ l ∷ ls = rw y refl in subst (λ x. IsAt sheet (unwind (beneath sheet (l ∷ ls))) x (unwound_report x)) (sym e) (at_call l ls h.0 h.1 y (no_loop_of l ls h.0 h.1 y)))
    | inr n ↦ (let e : from_call (l ∷ ls) ≡ from_call ls = rw n refl in subst (λ x. IsAt sheet (unwind (beneath sheet (l ∷ ls))) x (unwound_report x)) (sym e) (subst (λ x. IsAt sheet x (from_call ls) (unwound_report (from_call ls))) (sym (past l ls h.0 h.1 n)) (unwound_is ls h.1)))
  ]

-- a level was found, or none was
pub found_report : (ls : List Level) → nat_lt 0 (length ls) ≡ true → Go ≡ unwound_report ls
found_report [] h = absurd (cc)
found_report (l ∷ ls) h = refl

pub none_report : (ls : List Level) → nat_lt 0 (length ls) ≡ false → Ended ≡ unwound_report ls
none_report [] h = refl
none_report (l ∷ ls) h = let lt : nat_lt 0 (length (l ∷ ls)) ≡ true = grind (arith, nat_tests) in absurd (cc (h, lt))
