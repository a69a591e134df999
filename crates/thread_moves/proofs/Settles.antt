-- Levels without a block are left.
use Rattle.std.proofs.Common.{◌≡◌, ℕ, ◌<◌, Bool, true, false, List, [], ◌∷◌, ◌++◌, length, Option, Some, None, refl, sym, ap, ◌∙◌, subst, arith}
use Rattle.std.specs.Prelude.{slice_get, is_some, option_map}
use Rattle.machine_spec.specs.Script.{Statement}
use Rattle.machine_spec.specs.declared.threads.Report.{Report}
use Rattle.machine_spec.specs.declared.threads.Report.TheVariants.{Go, Uncovered, Ended}
use Rattle.machine_spec.specs.Pending.{Item, Again, dos, Position, settle}
use Rattle.project_spec.specs.declared.blocks.Block.{Block}
use Rattle.project_spec.specs.Trees.{Sheet, target_of_link, script, statement}
use Rattle.project_spec.proofs.Unrolling.{held_at}
use Rattle.thread_frames.specs.declared.level.Level.{Level}
use Rattle.thread_frames.specs.Levels.{new_level, on_top, mark_of, without_top, at_next, top_block, warp_flag}
use Rattle.thread_frames.specs.Reading.{params_in, first_by, first_item, marker_by, marker, items_at, beneath, pending}
use Rattle.thread_frames.specs.Fit.{IsUnder, AllUnder, AreStacked, LevelsFit, IsReadyAt, IsHeld}
use Rattle.thread_moves.specs.Ranked.{IsRanked}
use Rattle.thread_moves.specs.Standing.{IsAt, IsCovered, IsOpened, SettlesAlike, emptied}
use Rattle.thread_moves.proofs.Fits.{fresh_top}
use Rattle.thread_moves.proofs.Items.{settle_first, settle_plain, next_held, at_block, fresh_items, under_held, under_is_top}

pub IsAt-move : (sheet : Sheet) (x y : Position) (a b : List Level) (r : Report) → x ≡ y → a ≡ b → IsAt sheet y b r → IsAt sheet x a r
IsAt-move sheet x y a b r e h at = subst (λ z. IsAt sheet z a r) (sym e) (subst (λ l. IsAt sheet y l r) (sym h) at)

pub some_of : {X : Type 0} (o : Option X) → is_some o ≡ true → (x : X) × (o ≡ Some x)
some_of None h = absurd (cc)
some_of (Some x) h = (x, refl)

pub under_ready : (sheet : Sheet) (l : Level) (ls : List Level) → IsUnder sheet l → AllUnder sheet ls → IsReadyAt sheet (l ∷ ls)
under_ready sheet l ls u h = record { fit = (under_is_top sheet l u, h); holds = ap is_some u.holds }

pub stacked : (sheet : Sheet) (levels : List Level) → LevelsFit sheet levels → AreStacked sheet levels
stacked sheet [] h = record { under = tt }
stacked sheet (t ∷ ls) h = record { under = h.1 }

-- the top level was given up, and this level was under it
pub record Left (sheet : Sheet) (old new : List Level) (top : Level) : Type 0 where
  pub first : Level
  pub rest : List Level
  pub old_is : old ≡ first ∷ top ∷ rest
  pub new_is : new ≡ top ∷ rest
  pub under : IsUnder sheet top
  pub below : AllUnder sheet rest

pub left : (sheet : Sheet) (old new : List Level) (top : Level) → LevelsFit sheet old → new ≡ without_top old → slice_get new 0 ≡ Some top → Left sheet old new top
left sheet [] new top fit e h = let none : slice_get {X = Level} [] 0 ≡ Some top = subst (λ n. slice_get n 0 ≡ Some top) e h in absurd (cc none)
left sheet (t ∷ []) new top fit e h = let none : slice_get {X = Level} [] 0 ≡ Some top = subst (λ n. slice_get n 0 ≡ Some top) e h in absurd (cc none)
left sheet (t ∷ (l ∷ ls)) new top fit e h =
    let some : Some l ≡ Some top = subst (λ n. slice_get n 0 ≡ Some top) e h in
    let same : l ≡ top = cc some in
    record {
      first = t;
      rest = ls;
      old_is = ap (λ x. t ∷ (x ∷ ls)) same;
      new_is = e ∙ ap (λ x. x ∷ ls) same;
      under = subst (IsUnder sheet) same fit.1.0;
      below = fit.1.1;
    }

pub left_id : (sheet : Sheet) (old new : List Level) (top : Level) (i : ℕ) → Left sheet old new top → top.block ≡ Some i → i < length sheet.blocks
left_id sheet old new top i c e = subst (IsHeld sheet) e (under_held sheet top c.under)

pub left_some : (sheet : Sheet) (old new : List Level) (top : Level) → Left sheet old new top → top.block ≡ None → ⊥
left_some sheet old new top c e = let u = c.under.holds in cc

pub at_end : (sheet : Sheet) (w : Bool) → IsAt sheet (settle [] w) [] Ended
at_end sheet w = record { items = refl; warp = refl; report_is = refl; ready = refl }

pub leave_ended : (sheet : Sheet) (old new : List Level) → IsCovered sheet old → new ≡ without_top old → slice_get new 0 ≡ None → IsAt sheet (settle (pending sheet old) (warp_flag old)) new Ended
leave_ended sheet [] new cov e z = absurd (omega (arith, cov.there))
leave_ended sheet (t ∷ []) new cov e z =
    IsAt-move sheet _ (settle [] t.warp) new [] Ended (ap (λ o. settle (items_at sheet (first_item t) o ++ []) t.warp) cov.empty) e (at_end sheet t.warp)
leave_ended sheet (t ∷ (l ∷ ls)) new cov e z = let none : Some l ≡ None = subst (λ n. slice_get n 0 ≡ None) e z in absurd (cc none)

module _ (sheet : Sheet) (old new : List Level) (top : Level) (cov : IsCovered sheet old) (c : Left sheet old new top) where
  abbrev s : Statement
  s = statement sheet c.under.id c.under.block

  abbrev r : List Item
  r = dos (script sheet (target_of_link c.under.block.next)) ++ beneath sheet c.rest

  empty : c.first.block ≡ None
  empty = sym (ap top_block c.old_is) ∙ cov.empty

  -- what is pending under a top level without a block
  left_pending : settle (pending sheet old) (warp_flag old) ≡ settle (marker top s ∷ r) c.first.warp
  left_pending =
      ap (λ o. settle (pending sheet o) (warp_flag o)) c.old_is
      ∙ ap (λ o. settle (items_at sheet (first_item c.first) o ++ beneath sheet (top ∷ c.rest)) c.first.warp) empty
      ∙ ap (λ x. settle (x ++ beneath sheet c.rest) c.first.warp) (at_block sheet (marker top) top.block c.under.id c.under.block c.under.holds c.under.found)

  pub leave_loop : top.is_loop ≡ true → IsAt sheet (settle (pending sheet old) (warp_flag old)) new Uncovered
  leave_loop loop =
      IsAt-move sheet _ (settle (Again s top.context top.warp ∷ r) c.first.warp) new (top ∷ c.rest) Uncovered
      (left_pending ∙ ap (λ m. settle (marker_by m top.context (params_in top) top.warp s ∷ r) c.first.warp) loop) c.new_is
      (record {
        items = ap (λ x. x ++ beneath sheet c.rest) (at_block sheet (first_item top) top.block c.under.id c.under.block c.under.holds c.under.found) ∙ ap (λ m. first_by m top.context (params_in top) s ∷ r) loop;
        warp = refl;
        report_is = refl;
        ready = under_ready sheet top c.rest c.under c.below;
      })

  pub leave_on : (final : List Level) (i : ℕ) (b : Block) → IsRanked sheet → top.is_loop ≡ false → top.block ≡ Some i → slice_get sheet.blocks i ≡ Some b → final ≡ on_top (at_next (target_of_link b.next)) new → SettlesAlike sheet old final
  leave_on final i b ranked no_loop holds found e =
      let same : c.under.block ≡ b = let u = c.under.holds in let f = c.under.found in cc in
      let final_is : final ≡ at_next (target_of_link b.next) top ∷ c.rest = e ∙ ap (on_top (at_next (target_of_link b.next))) c.new_is in
      let next = next_held sheet i b ranked found in
      record {
        fit = subst (LevelsFit sheet) (sym final_is) (fresh_top sheet (target_of_link b.next) top.warp next, c.below);
        same =
            ap (λ o. settle (pending sheet o) (warp_flag o)) final_is
            ∙ ap (λ x. settle (x ++ beneath sheet c.rest) top.warp) (fresh_items sheet (target_of_link b.next) ranked next)
            ∙ ap (λ x. settle (dos (script sheet (target_of_link x.next)) ++ beneath sheet c.rest) top.warp) (sym same)
            ∙ sym (settle_plain top.context (params_in top) s top.warp c.first.warp r)
            ∙ ap (λ m. settle (marker_by m top.context (params_in top) top.warp s ∷ r) c.first.warp) (sym no_loop)
            ∙ sym left_pending;
      }

-- a top level with a block stays
pub settled : (sheet : Sheet) (levels : List Level) (top : Level) → LevelsFit sheet levels → slice_get levels 0 ≡ Some top → is_some top.block ≡ true → IsAt sheet (settle (pending sheet levels) (warp_flag levels)) levels Go
settled sheet [] top fit h some = absurd (cc h)
settled sheet (t ∷ ls) top fit h some =
    let same : t ≡ top = cc h in
    let here : is_some t.block ≡ true = ap (λ l. is_some l.block) same ∙ some in
    let (i, holds) = some_of t.block here in
    let (b, found) = held_at sheet.blocks i (subst (IsHeld sheet) holds fit.0.held) in
    let r : List Item = dos (script sheet (target_of_link b.next)) ++ beneath sheet ls in
    let all : pending sheet (t ∷ ls) ≡ first_item t (statement sheet i b) ∷ r = ap (λ x. x ++ beneath sheet ls) (at_block sheet (first_item t) t.block i b holds found) in
    IsAt-move sheet _ (record { items = first_item t (statement sheet i b) ∷ r; warp = t.warp; report = Go }) _ (t ∷ ls) Go
    (ap (λ x. settle x t.warp) all ∙ settle_first t.is_loop t.context (params_in t) (statement sheet i b) r t.warp) refl
    (record { items = all; warp = refl; report_is = refl; ready = record { fit = fit; holds = here } })

pub settled_is : (sheet : Sheet) (old levels : List Level) (top : Level) → SettlesAlike sheet old levels → slice_get levels 0 ≡ Some top → is_some top.block ≡ true → IsAt sheet (settle (pending sheet old) (warp_flag old)) levels Go
settled_is sheet old levels top alike h some = IsAt-move sheet _ _ levels levels Go (sym alike.same) refl (settled sheet levels top alike.fit h some)

-- Levels are left one after another

without_top-emptied : (levels : List Level) → without_top (emptied levels) ≡ without_top levels
without_top-emptied [] = refl
without_top-emptied (t ∷ ls) = refl

pub none_of : {X : Type 0} (o : Option X) → is_some o ≡ false → o ≡ None
none_of None h = refl
none_of (Some x) h = absurd (cc)

-- a level with this mark and block is there
record Marked (o : Option Level) (m : Bool) (b : Option ℕ) : Type 0 where
  pub top : Level
  pub is : o ≡ Some top
  pub loop : top.is_loop ≡ m
  pub block : top.block ≡ b

marked : (o : Option Level) (m : Bool) (b : Option ℕ) → Some (m, b) ≡ option_map mark_of o → Marked o m b
marked None m b e = absurd (cc e)
marked (Some t) m b e =
    let same : (m, b) ≡ mark_of t = cc in
    record { top = t; is = refl; loop = sym (ap (λ x. x.0) same); block = sym (ap (λ x. x.1) same) }

unmarked : (o : Option Level) → None ≡ option_map mark_of o → o ≡ None
unmarked None e = refl
unmarked (Some t) e = absurd (cc e)

-- the top level was given up, and the one under it has this mark and this block
pub record Uncovers (sheet : Sheet) (old new : List Level) (m : Bool) (b : Option ℕ) : Type 0 where
  pub top : Level
  pub left : Left sheet (emptied old) new top
  pub loop : top.is_loop ≡ m
  pub block : top.block ≡ b

module _ (sheet : Sheet) (old new : List Level) (cov : IsCovered sheet (emptied old)) (e : new ≡ without_top old) where
  pub uncovers : (m : Bool) (b : Option ℕ) → Some (m, b) ≡ option_map mark_of (slice_get (without_top old) 0) → Uncovers sheet old new m b
  uncovers m b h =
      let k = marked (slice_get (without_top old) 0) m b h in
      record { top = k.top; left = left sheet (emptied old) new k.top cov.fit (e ∙ sym (without_top-emptied old)) (ap (λ ls. slice_get ls 0) e ∙ k.is); loop = k.loop; block = k.block }

  pub uncovers_none : None ≡ option_map mark_of (slice_get (without_top old) 0) → IsAt sheet (settle (pending sheet (emptied old)) (warp_flag (emptied old))) new Ended
  uncovers_none h = leave_ended sheet (emptied old) new cov (e ∙ sym (without_top-emptied old)) (ap (λ ls. slice_get ls 0) e ∙ unmarked (slice_get (without_top old) 0) h)

  pub one_fewer : length new < length old
  one_fewer = by old cov.there e
    where
      by : (ls : List Level) → 0 < length (emptied ls) → new ≡ without_top ls → length new < length ls
      by [] there is = absurd (omega (arith, there))
      by (t ∷ ls) there is = omega (arith, ap length is)

-- a block follows that of the top level
pub gone_on : (sheet : Sheet) (old new final : List Level) (top : Level) (next : Option ℕ) → Left sheet old new top → SettlesAlike sheet old final → final ≡ on_top (at_next next) new → is_some next ≡ true
    → IsAt sheet (settle (pending sheet old) (warp_flag old)) final Go
gone_on sheet old new final top next c alike e some =
    settled_is sheet old final (at_next next top) alike (ap (λ ls. slice_get ls 0) (e ∙ ap (on_top (at_next next)) c.new_is)) some

-- and none does, so the next one is left
pub covered : (sheet : Sheet) (old new : List Level) (top : Level) → Left sheet old new top → SettlesAlike sheet old (emptied new) → IsCovered sheet (emptied new)
covered sheet old new top c alike = record {
  fit = alike.fit;
  there = omega (arith, ap (λ ls. length (emptied ls)) c.new_is);
  empty = ap (λ ls. top_block (emptied ls)) c.new_is;
}

-- the next block is there
pub settled_next : (sheet : Sheet) (levels under : List Level) (next : Option ℕ) (top : Level) → levels ≡ on_top (at_next next) (top ∷ under) → LevelsFit sheet levels → is_some next ≡ true
    → IsAt sheet (settle (pending sheet levels) (warp_flag levels)) levels Go
settled_next sheet levels under next top e fit some = settled sheet levels (at_next next top) fit (ap (λ ls. slice_get ls 0) e) some

-- a level that was just opened begins with its first block
pub opened_first : (sheet : Sheet) (first : Option ℕ) (levels : List Level) → IsOpened sheet first levels → is_some first ≡ true → IsAt sheet (settle (pending sheet levels) (warp_flag levels)) levels Go
opened_first sheet first levels o some = settled sheet levels (new_level first o.warp) o.fit (ap (λ ls. slice_get ls 0) o.is) some

-- and is left where it has none
pub opened_empty : (sheet : Sheet) (first : Option ℕ) (levels : List Level) → IsOpened sheet first levels → first ≡ None
    → IsCovered sheet (emptied levels) × (settle (pending sheet (emptied levels)) (warp_flag (emptied levels)) ≡ settle (pending sheet levels) (warp_flag levels))
opened_empty sheet first levels o none =
    let is : levels ≡ new_level None o.warp ∷ o.under = o.is ∙ ap (λ f. new_level f o.warp ∷ o.under) none in
    let same : emptied levels ≡ levels = ap emptied is ∙ sym is in (
      record { fit = subst (LevelsFit sheet) (sym same) o.fit; there = omega (arith, ap (λ ls. length (emptied ls)) is); empty = ap (λ ls. top_block (emptied ls)) is },
      ap (λ ls. settle (pending sheet ls) (warp_flag ls)) same,
    )
