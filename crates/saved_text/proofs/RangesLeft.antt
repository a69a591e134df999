-- What is left to do is in range where the levels are.
use Rattle.std.proofs.Common.{◌≡◌, ℕ, suc, Bool, true, false, List, [], ◌∷◌, length, map, slice_get, Option, Some, None, refl, subst, arith, inl, inr}
use Rattle.std.specs.List.{All}
use Rattle.std.proofs.lemmas.List.Elements.{All-append, All-cons, All-head, All-nil, All-tail}
use Rattle.std.proofs.lemmas.Option.{slice_get_cases}
use Rattle.machine_spec.specs.declared.threads.Context.{Context}
use Rattle.machine_spec.specs.declared.threads.Context.TheVariants.{Fresh, Repeat, Wait, Glide, Started, Asked, Spoken, Called}
use Rattle.machine_spec.specs.Pending.{dos}
use Rattle.machine_spec.specs.Script.{Script, End, Then, Statement}
use Rattle.machine_spec.specs.Threads.{Params}
use Rattle.project_spec.specs.declared.blocks.Block.{Block}
use Rattle.project_spec.specs.Trees.{Sheet, statement, script, target_of_link}
use Rattle.thread_frames.specs.declared.level.Level.{Level}
use Rattle.thread_frames.specs.Fit.{IsHeld, IsAtRest}
use Rattle.thread_frames.specs.Reading as reading
use Rattle.thread_frames.specs.Reading.{params_in, first_by, first_item, marker_by, marker, items_at, beneath, pending}
use Rattle.thread_frames.specs.Threads.{Thread}
use Rattle.saved_text.specs.Laws.{IsKept as IsKeptThread}
use Rattle.saved_spec.specs.Ranges.{IsBlock, IsKept, IsFirst, IsMarker, IsPlace, IsTask, IsWhole, AreItems}
use Rattle.saved_text.specs.Ranges.{IsLevel, IsThread}

marker_ranges : (is_loop : Bool) (c : Context) (params : Params) (w : Bool) (s : Statement) → IsPlace s → IsKept params c → IsMarker (marker_by is_loop c params w s)
marker_ranges true Called params w s place kept = (place, tt)
marker_ranges true Fresh params w s place kept = (place, tt)
marker_ranges true (Repeat n) params w s place kept = (place, kept)
marker_ranges true (Wait state) params w s place kept = (place, kept)
marker_ranges true (Glide state) params w s place kept = (place, kept)
marker_ranges true (Started serials) params w s place kept = (place, kept)
marker_ranges true Asked params w s place kept = (place, tt)
marker_ranges true Spoken params w s place kept = (place, tt)
marker_ranges false Called params w s place kept = (place, kept)
marker_ranges false Fresh params w s place kept = place
marker_ranges false (Repeat n) params w s place kept = place
marker_ranges false (Wait state) params w s place kept = place
marker_ranges false (Glide state) params w s place kept = place
marker_ranges false (Started serials) params w s place kept = place
marker_ranges false Asked params w s place kept = place
marker_ranges false Spoken params w s place kept = place

first_ranges : (is_loop : Bool) (c : Context) (params : Params) (s : Statement) → IsPlace s → IsKept params c → IsFirst (first_by is_loop c params s)
first_ranges true Called params s place kept = (place, tt)
first_ranges true Fresh params s place kept = (place, tt)
first_ranges true (Repeat n) params s place kept = (place, kept)
first_ranges true (Wait state) params s place kept = (place, kept)
first_ranges true (Glide state) params s place kept = (place, kept)
first_ranges true (Started serials) params s place kept = (place, kept)
first_ranges true Asked params s place kept = (place, tt)
first_ranges true Spoken params s place kept = (place, tt)
first_ranges false Called params s place kept = (place, kept)
first_ranges false Fresh params s place kept = place
first_ranges false (Repeat n) params s place kept = (place, kept)
first_ranges false (Wait state) params s place kept = (place, kept)
first_ranges false (Glide state) params s place kept = (place, kept)
first_ranges false (Started serials) params s place kept = (place, kept)
first_ranges false Asked params s place kept = (place, tt)
first_ranges false Spoken params s place kept = (place, tt)

module _ (sheet : Sheet) where
  dos_ranges : (s : Script) → All IsMarker (dos s)
  dos_ranges End = All-nil IsMarker
  dos_ranges (Then s rest) = All-cons IsMarker _ _ tt (dos_ranges rest)

  -- a level under another
  at_block : (l : Level) (k : ℕ) (o : Option Block) → slice_get sheet.blocks k ≡ o → IsWhole k → IsLevel l → All IsMarker (reading.block_items sheet (marker l) k o)
  at_block l k None found whole h = All-nil IsMarker
  at_block l k (Some b) found whole h = All-cons IsMarker _ _ (marker_ranges l.is_loop l.context (params_in l) l.warp (statement sheet k b) whole h.kept) (dos_ranges (script sheet (target_of_link b.next)))

  at_level : (l : Level) (o : Option ℕ) → l.block ≡ o → IsLevel l → All IsMarker (items_at sheet (marker l) o)
  at_level l None holds h = All-nil IsMarker
  at_level l (Some k) holds h = at_block l k (slice_get sheet.blocks k) refl (subst IsBlock holds h.block) h

  beneath_ranges : (ls : List Level) → All IsLevel ls → All IsMarker (beneath sheet ls)
  beneath_ranges [] h = All-nil IsMarker
  beneath_ranges (l ∷ ls) h = All-append IsMarker (items_at sheet (marker l) l.block) (beneath sheet ls) (at_level l l.block refl (All-head IsLevel l ls h)) (beneath_ranges ls (All-tail IsLevel l ls h))

  none_left : (ls : List Level) → suc (length ls) ≡ 1 → ls ≡ []
  none_left [] one = refl
  none_left (l ∷ ls) one = absurd (grind (arith, one))

  -- all levels of a thread
  pub pending_ranges : (ls : List Level) → IsAtRest sheet ls → All IsLevel ls → AreItems (pending sheet ls)
  pending_ranges [] rest h = tt
  pending_ranges (top ∷ ls) rest h = by_block top.block refl
    where
      by_found : (k : ℕ) → top.block ≡ Some k → (b : Block) → slice_get sheet.blocks k ≡ Some b → AreItems (pending sheet (top ∷ ls))
      by_found k holds b found = rw (holds, found) (
        first_ranges top.is_loop top.context (params_in top) (statement sheet k b) (subst IsBlock holds (All-head IsLevel top ls h).block) (All-head IsLevel top ls h).kept,
        All-append IsMarker (dos (script sheet (target_of_link b.next))) (beneath sheet ls) (dos_ranges (script sheet (target_of_link b.next))) (beneath_ranges ls (All-tail IsLevel top ls h)),
      )

      by_block : (o : Option ℕ) → top.block ≡ o → AreItems (pending sheet (top ∷ ls))
      by_block None holds = rw (holds, none_left ls (rest.single holds)) tt
      by_block (Some k) holds = elim (slice_get_cases sheet.blocks k).1 [
        | inl there ↦ by_found k holds there.0 there.2
        | inr past ↦ absurd (let w = subst (IsHeld sheet) holds rest.fit.0.held in let p = past.0 in omega (arith, w, p))
      ]

pub task_ranges : (sheets : ℕ → Sheet) (t : Thread) → IsKeptThread sheets t → IsThread t → IsTask (reading.task sheets t)
task_ranges sheets t kept h = record {
  serial = h.its_serial;
  of = h.its_instance;
  hat = h.its_hat;
  items = pending_ranges (sheets t.target) t.levels (kept.fits.open_levels kept.alive) h.its_levels;
}

pub tasks_ranges : (sheets : ℕ → Sheet) (ts : List Thread) → All (IsKeptThread sheets) ts → All IsThread ts → All IsTask (map (reading.task sheets) ts)
tasks_ranges sheets [] kept h = All-nil IsTask
tasks_ranges sheets (t ∷ ts) kept h = All-cons IsTask _ _ (task_ranges sheets t (All-head (IsKeptThread sheets) t ts kept) (All-head IsThread t ts h)) (tasks_ranges sheets ts (All-tail (IsKeptThread sheets) t ts kept) (All-tail IsThread t ts h))
