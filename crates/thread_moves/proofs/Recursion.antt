-- The levels that call a procedure are the markers that do.
use Rattle.std.proofs.Common.{◌≡◌, ℕ, suc, Bool, false, List, [], ◌∷◌, ◌++◌, Option, Some, None, refl, sym, ap, ◌∙◌, subst}
use Rattle.std.specs.Prelude.{slice_get, ◌||◌, ◌&&◌, bytes_eq}
use Rattle.machine_spec.specs.Script.{Script, End, Then}
use Rattle.machine_spec.specs.Keeping.{is_called}
use Rattle.machine_spec.specs.Pending.{Item, dos, is_recursive}
use Rattle.project_spec.specs.declared.blocks.Block.{Block}
use Rattle.project_spec.specs.Trees.{Sheet, target_of_link, script, statement, call_code}
use Rattle.thread_frames.specs.declared.level.Level.{Level}
use Rattle.thread_frames.specs.Reading.{params_in, first_item, marker, block_items, items_at, beneath, pending}
use Rattle.thread_frames.specs.Fit.{kind_of, IsUnder, AllUnder}
use Rattle.thread_frames.specs.Levels.{without_top}
use Rattle.thread_moves.proofs.Fits.{under_marker}
use Rattle.thread_moves.proofs.Items.{first_is, at_block}

module _ (sheet : Sheet) (code : List ℕ) where
  pub rec_dos : (n : ℕ) (t : Script) (r : List Item) → is_recursive code n (dos t ++ r) ≡ is_recursive code n r
  rec_dos n End r = refl
  rec_dos n (Then s rest) r = rec_dos n rest r

  -- no marker is in the top level
  pub rec_first : (n : ℕ) (l : Level) (o : Option ℕ) (r : List Item) → is_recursive code n (items_at sheet (first_item l) o ++ r) ≡ is_recursive code n r
  rec_first n l None r = refl
  rec_first n l (Some i) r = go (slice_get sheet.blocks i)
    where
      go : (b : Option Block) → is_recursive code n (block_items sheet (first_item l) i b ++ r) ≡ is_recursive code n r
      go None = refl
      go (Some b) =
          let after = rec_dos n (script sheet (target_of_link b.next)) r in
          first_is (λ x. is_recursive code n (x ∷ dos (script sheet (target_of_link b.next)) ++ r) ≡ is_recursive code n r) l.is_loop l.context (params_in l) (statement sheet i b) after (λ c. after) after

  -- nor does it count where the levels under it are looked at
  pub rec_start : (levels : List Level) → is_recursive code 6 (pending sheet levels) ≡ is_recursive code 6 (beneath sheet (without_top levels))
  rec_start [] = refl
  rec_start (t ∷ ls) = rec_first 6 t t.block (beneath sheet ls)

  pub rec_zero : (ls : List Level) → AllUnder sheet ls → is_recursive code 0 (beneath sheet ls) ≡ false
  rec_zero [] h = refl
  rec_zero (l ∷ ls) h =
      let u = h.0 in
      let r : List Item = dos (script sheet (target_of_link u.block.next)) ++ beneath sheet ls in
      ap (λ x. is_recursive code 0 (x ++ beneath sheet ls)) (at_block sheet (marker l) l.block u.id u.block u.holds u.found)
      ∙ under_marker (λ x. is_recursive code 0 (x ∷ r) ≡ false) l.context l.is_loop (kind_of u.block) (params_in l) l.warp (statement sheet u.id u.block) u.fits (λ k m. refl) (λ k. refl) (λ k. refl)

  rec_under : (n : ℕ) (l : Level) (ls : List Level) (u : IsUnder sheet l) → is_recursive code (suc n) (beneath sheet (l ∷ ls)) ≡ (is_called l.context && bytes_eq (call_code u.block.mutation) code || is_recursive code n (beneath sheet ls))
  rec_under n l ls u =
      let r : List Item = dos (script sheet (target_of_link u.block.next)) ++ beneath sheet ls in
      let calls : Bool = bytes_eq (call_code u.block.mutation) code in
      let whole : Bool = is_called l.context && calls || is_recursive code n r in
      ap (λ x. is_recursive code (suc n) (x ++ beneath sheet ls)) (at_block sheet (marker l) l.block u.id u.block u.holds u.found)
      ∙ under_marker (λ x. is_recursive code (suc n) (x ∷ r) ≡ whole) l.context l.is_loop (kind_of u.block) (params_in l) l.warp (statement sheet u.id u.block) u.fits
      (λ k m. ap (λ x. x && calls || is_recursive code n r) (sym k))
      (λ k. ap (λ x. x && calls || is_recursive code n r) (sym k))
      (λ k. ap (λ x. x && calls || is_recursive code n r) (sym k))
      ∙ ap (λ x. is_called l.context && calls || x) (rec_dos n (script sheet (target_of_link u.block.next)) (beneath sheet ls))

  -- the nearest of the levels, and those under it

  pub under_first : (ls : List Level) (l : Level) → AllUnder sheet ls → slice_get ls 0 ≡ Some l → IsUnder sheet l
  under_first [] l h e = absurd (cc e)
  under_first (x ∷ ls) l h e = let same : x ≡ l = cc e in subst (IsUnder sheet) same h.0

  pub under_rest : (ls : List Level) → AllUnder sheet ls → AllUnder sheet (without_top ls)
  under_rest [] h = h
  under_rest (x ∷ ls) h = h.1

  pub rec_step : (n : ℕ) (ls : List Level) (l : Level) (u : IsUnder sheet l) → slice_get ls 0 ≡ Some l → is_recursive code (suc n) (beneath sheet ls) ≡ (is_called l.context && bytes_eq (call_code u.block.mutation) code || is_recursive code n (beneath sheet (without_top ls)))
  rec_step n [] l u e = absurd (cc e)
  rec_step n (x ∷ ls) l u e =
      let same : x ≡ l = cc e in
      ap (λ y. is_recursive code (suc n) (beneath sheet (y ∷ ls))) same ∙ rec_under n l ls u

  pub rec_none : (n : ℕ) (ls : List Level) → slice_get ls 0 ≡ None → is_recursive code n (beneath sheet ls) ≡ false
  rec_none n [] e = refl
  rec_none n (x ∷ ls) e = absurd (cc e)
