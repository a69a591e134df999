-- Levels that go on behind the block that waited.
use Rattle.std.proofs.Common.{◌≡◌, ℕ, ◌<◌, ◌≤◌, Bool, true, false, List, [], ◌∷◌, ◌++◌, length, Option, Some, None, refl, sym, ap, ◌∙◌, subst, arith}
use Rattle.std.specs.Prelude.{is_some}
use Rattle.machine_spec.specs.Outcome.{most_levels}
use Rattle.machine_spec.specs.declared.threads.Which.{Which}
use Rattle.machine_spec.specs.Places.{Places, at_place}
use Rattle.machine_spec.specs.Starting.{open_levels}
use Rattle.machine_spec.specs.declared.threads.Report.{Report}
use Rattle.machine_spec.specs.Pending.{dos, settle}
use Rattle.machine_spec.specs.Tasks.{behind_first}
use Rattle.project_spec.specs.Trees.{Sheet, target_of_link, script, statement}
use Rattle.project_spec.proofs.Unrolling.{held_at, script-at}
use Rattle.thread_frames.specs.declared.level.Level.{Level}
use Rattle.thread_frames.specs.Levels.{new_level, without_top, top_block, warp_flag}
use Rattle.thread_frames.specs.Reading.{first_item, items_at, beneath, pending}
use Rattle.thread_frames.specs.Threads.{Thread, frames, levels_of}
use Rattle.thread_frames.specs.Fit.{top_at, IsHeld, IsAtRest}
use Rattle.thread_moves.specs.Moves.{OnlyLevels, levels_at}
use Rattle.thread_moves.specs.Ranked.{IsRanked}
use Rattle.thread_moves.specs.Standing.{IsAt, IsReadyUnless, is_ended, TopHolds, MovesTo}
use Rattle.thread_moves.specs.Resuming.{IsResumed, behind_top, kept_open}
use Rattle.thread_moves.proofs.Fits.{fresh_top}
use Rattle.thread_moves.proofs.InPlace.{open_moved}
use Rattle.thread_moves.proofs.Items.{at_block, block_at_is}

-- the top level of levels that are at rest
pub rest_holds : (sheet : Sheet) (levels : List Level) (k : ℕ) → IsAtRest sheet levels → top_block levels ≡ Some k → TopHolds sheet levels k
rest_holds sheet [] k h e = absurd (cc e)
rest_holds sheet (t ∷ ls) k h e =
    let (b, found) = held_at sheet.blocks k (subst (IsHeld sheet) e h.fit.0.held) in
    record {
      block = b;
      top = t;
      under = ls;
      before = t.context;
      is = refl;
      holds = e;
      found = found;
      fits = ap (λ o. top_at o t.context t.is_loop) (sym (block_at_is sheet t.block k b e found)) ∙ h.fit.0.fits;
      params = h.fit.0.params;
      below = h.fit.1;
    }

-- one level without a block is at rest
alone : (sheet : Sheet) → IsAtRest sheet (new_level None false ∷ [])
alone sheet = record { fit = (fresh_top sheet None false tt, tt); there = omega arith; single = λ e. refl }

ready_rest : (b : Bool) (sheet : Sheet) (l : Level) (ls : List Level) → IsReadyUnless b sheet (l ∷ ls) → IsAtRest sheet (l ∷ ls)
ready_rest true sheet l ls h = absurd (cc h)
ready_rest false sheet l ls h = record { fit = h.fit; there = omega arith; single = λ e. let some = h.holds in absurd (cc (some, e)) }

-- one level is kept where none is left
kept_by : (sheet : Sheet) (old mid : List Level) (report : Report) → IsAt sheet (behind_top sheet old) mid report → IsResumed sheet old (kept_open mid)
kept_by sheet old [] report at = record { items = at.items; warp = at.warp; rest = alone sheet }
kept_by sheet old (l ∷ ls) report at = record { items = at.items; warp = at.warp; rest = ready_rest (is_ended report) sheet l ls at.ready }

module _ (sheet : Sheet) (old : List Level) (k : ℕ) (ranked : IsRanked sheet) (th : TopHolds sheet old k) where
  -- what stands behind the block
  behind_is : behind_first (pending sheet old) ≡ dos (script sheet (target_of_link th.block.next)) ++ beneath sheet (without_top old)
  behind_is =
      ap (λ o. behind_first (pending sheet o)) th.is
      ∙ ap (λ x. behind_first (x ++ beneath sheet th.under)) (at_block sheet (first_item th.top) th.top.block k th.block th.holds th.found)
      ∙ sym (ap (λ o. dos (script sheet (target_of_link th.block.next)) ++ beneath sheet (without_top o)) th.is)

  pub gone_on : (mid new : List Level) (report : Report) → MovesTo sheet k (λ s rest. settle rest (warp_flag old)) old mid report → new ≡ kept_open mid → IsResumed sheet old new
  gone_on mid new report at e =
      let stands = at (statement sheet k th.block) (script sheet (target_of_link th.block.next)) (script-at sheet ranked.ranks ranked.falls k th.block th.found) in
      subst (IsResumed sheet old) (sym e) (kept_by sheet old mid report (subst (λ x. IsAt sheet (settle x (warp_flag old)) mid report) (sym behind_is) stands))

-- a thread with nothing left keeps one level without a block
pub nothing_resumed : (sheet : Sheet) (old new : List Level) → IsAtRest sheet old → top_block old ≡ None → new ≡ new_level None false ∷ [] → IsResumed sheet old new
nothing_resumed sheet [] new h none e = absurd (omega (arith, h.there))
nothing_resumed sheet (t ∷ []) new h none e = record {
  items = ap (pending sheet) e ∙ sym (ap (λ o. (settle (behind_first (items_at sheet (first_item t) o ++ [])) t.warp).items) none);
  warp = ap warp_flag e ∙ sym (ap (λ o. (settle (behind_first (items_at sheet (first_item t) o ++ [])) t.warp).warp) none);
  rest = subst (IsAtRest sheet) (sym e) (alone sheet);
}
nothing_resumed sheet (t ∷ (l ∷ ls)) new h none e = absurd (let one = h.single none in omega (arith, one))

-- it is the only one that it had
pub only_level : (sheet : Sheet) (old : List Level) → IsAtRest sheet old → top_block old ≡ None → without_top old ≡ []
only_level sheet [] h none = refl
only_level sheet (t ∷ []) h none = refl
only_level sheet (t ∷ (l ∷ ls)) h none = absurd (let one = h.single none in omega (arith, one))

-- levels that are left are kept
pub kept_some : (ls : List Level) → 0 < length ls → ls ≡ kept_open ls
kept_some [] lt = absurd (omega (arith, lt))
kept_some (l ∷ ls) lt = refl

pub kept_none : (ls : List Level) → ls ≡ [] → new_level None false ∷ ls ≡ kept_open ls
kept_none [] e = refl
kept_none (l ∷ ls) e = absurd (cc e)

pub none_there : (ls : List Level) → length ls ≤ 0 → ls ≡ []
none_there [] le = refl
none_there (l ∷ ls) le = absurd (omega (arith, le))

-- a thread with levels is there
pub rest_there : (sheet : Sheet) (which : Which) (ts : Places Thread) → IsAtRest sheet (levels_at which ts) → is_some (at_place which ts) ≡ true
rest_there sheet which ts h = by (at_place which ts) h.there
  where
    by : (o : Option Thread) → 0 < length (levels_of o) → is_some o ≡ true
    by None lt = absurd (omega (arith, lt))
    by (Some t) lt = refl

-- and there is room for a level where it has given up its own
pub room_left : (sheet : Sheet) (which : Which) (ts new : Places Thread) → IsAtRest sheet (levels_at which ts) → OnlyLevels which ts new → open_levels frames ts ≤ most_levels → levels_at which new ≡ [] → open_levels frames new < most_levels
room_left sheet which ts new h only few none = by (at_place which ts) refl
  where
    by : (o : Option Thread) → at_place which ts ≡ o → open_levels frames new < most_levels
    by None e = absurd (let there = h.there in let nothing : length (levels_at which ts) ≡ 0 = ap (λ o. length (levels_of o)) e in omega (arith, there, nothing))
    by (Some t) e = let there = h.there in let m = open_moved which ts new t e only in omega (arith, there, m, few, ap length none)
