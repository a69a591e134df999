-- What stands over a level.
use Rattle.std.proofs.Common.{◌≡◌, ℕ, Bool, true, false, List, ◌∷◌, ◌++◌, ◌||◌, Some, None, refl, sym, ap, ◌∙◌}
use Rattle.std.specs.Prelude.{slice_get}
use Rattle.machine_spec.specs.declared.threads.Context.{Context}
use Rattle.machine_spec.specs.declared.threads.Context.TheVariants.{Fresh, Repeat, Wait, Glide, Started, Asked, Spoken, Called}
use Rattle.machine_spec.specs.Called.{called, branch_scripts, scripts_in, scripts_over, warp_in, warp_over}
use Rattle.machine_spec.specs.Legal.{scripts_on, warp_on}
use Rattle.machine_spec.specs.Pending.{Item, dos}
use Rattle.machine_spec.specs.Program.{Program}
use Rattle.machine_spec.specs.Script.{Script, Statement, branches_of}
use Rattle.machine_spec.specs.Threads.{Params}
use Rattle.project_spec.specs.declared.blocks.Block.{Block}
use Rattle.project_spec.specs.Trees.{Sheet, script, statement, target_of_link}
use Rattle.project_check.specs.Procedures.{procedure_in}
use Rattle.project_spec.specs.declared.blocks.Prototype.{Prototype}
use Rattle.thread_frames.specs.declared.level.Level.{Level}
use Rattle.thread_frames.specs.Reading.{params_in, marker_by, marker, block_items, items_at, beneath}
use Rattle.saved_levels.specs.declared.floors.Floor.{Floor}
use Rattle.saved_levels.specs.declared.floors.Room.TheVariants.{Under, In}
use Rattle.saved_levels.specs.Found.{scripts_under}
use Rattle.saved_levels.specs.Standing.{IsFloor, IsOver}

-- any marker stands on its statement
scripts-marker : (p : Program) (hat : Script) (m : Bool) (c : Context) (ps : Params) (w : Bool) (s : Statement) (r : List Item) → scripts_on p hat (marker_by m c ps w s ∷ r) ≡ scripts_over p s
scripts-marker p hat true c ps w s r = refl
scripts-marker p hat false Called ps w s r = refl
scripts-marker p hat false Fresh ps w s r = refl
scripts-marker p hat false (Repeat n) ps w s r = refl
scripts-marker p hat false (Wait v) ps w s r = refl
scripts-marker p hat false (Glide v) ps w s r = refl
scripts-marker p hat false (Started ns) ps w s r = refl
scripts-marker p hat false Asked ps w s r = refl
scripts-marker p hat false Spoken ps w s r = refl

warp-marker : (p : Program) (hat : Script) (m : Bool) (c : Context) (ps : Params) (w : Bool) (s : Statement) (r : List Item) → warp_on p hat (marker_by m c ps w s ∷ r) ≡ warp_over p s w
warp-marker p hat true c ps w s r = refl
warp-marker p hat false Called ps w s r = refl
warp-marker p hat false Fresh ps w s r = refl
warp-marker p hat false (Repeat n) ps w s r = refl
warp-marker p hat false (Wait v) ps w s r = refl
warp-marker p hat false (Glide v) ps w s r = refl
warp-marker p hat false (Started ns) ps w s r = refl
warp-marker p hat false Asked ps w s r = refl
warp-marker p hat false Spoken ps w s r = refl

same_number : (a b : ℕ) → Some a ≡ Some b → a ≡ b
same_number a b e = cc e

-- a floor over the block of a level is one over the level
pub over_level : (sheet : Sheet) (p : Program) (hat : Script) (l : Level) (rest : List Level) (id : ℕ) (b : Block) (f : Floor) → l.block ≡ Some id → slice_get sheet.blocks id ≡ Some b
    → IsOver sheet p (statement sheet id b) l.warp f → IsFloor sheet p hat (beneath sheet (l ∷ rest)) f
over_level sheet p hat l rest id b f holds held over =
    let s : Statement = statement sheet id b in
    let more : List Item = dos (script sheet (target_of_link b.next)) ++ beneath sheet rest in
    let items : beneath sheet (l ∷ rest) ≡ marker l s ∷ more = ap (λ o. items_at sheet (marker l) o ++ beneath sheet rest) holds ∙ ap (λ o. block_items sheet (marker l) id o ++ beneath sheet rest) held in record {
      scripts = over.scripts ∙ sym (scripts-marker p hat l.is_loop l.context (params_in l) l.warp s more) ∙ ap (scripts_on p hat) (sym items);
      warp_is = over.warp_is ∙ sym (warp-marker p hat l.is_loop l.context (params_in l) l.warp s more) ∙ ap (warp_on p hat) (sym items);
    }

module _ (sheet : Sheet) (p : Program) (id : ℕ) (b : Block) (w : Bool) where
  abbrev here : Statement
  here = statement sheet id b

  pub over_call : (first : ℕ) (q : Prototype) (v : Bool) → called p here ≡ Some (procedure_in sheet (first, q)) → v ≡ (w || q.warp) → IsOver sheet p here w (record { room = Under (Some first); warp = v })
  over_call first q v calls flag = record {
    scripts = ap (λ o. scripts_in o (branch_scripts (branches_of here))) (sym calls);
    warp_is = flag ∙ ap (λ o. warp_in o w) (sym calls);
  }

  pub over_branches : slice_get sheet.blocks id ≡ Some b → called p here ≡ None → IsOver sheet p here w (record { room = In id; warp = w })
  over_branches held none = record {
    scripts = ap (scripts_under sheet) held ∙ ap (λ o. scripts_in o (branch_scripts (branches_of here))) (sym none);
    warp_is = ap (λ o. warp_in o w) (sym none);
  }
