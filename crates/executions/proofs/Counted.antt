-- The levels that are open are seen in the world.
use Rattle.std.proofs.Common.{◌≡◌, ℕ, ◌+◌, Bool, true, false, List, [], ◌∷◌, ◌++◌, length, map, Option, Some, None, refl, sym, ap, ◌∙◌, arith}
use Rattle.std.specs.Prelude.{slice_get, sum_by, option_map, IfSome, if◌then◌else◌}
use Rattle.std.specs.List.{All}
use Rattle.std.proofs.lemmas.List.Elements.{All-head, All-tail}
use Rattle.std.proofs.lemmas.List.Sums.{sum_by-cons}
use Rattle.machine_spec.specs.Script.{Script, End, Then}
use Rattle.machine_spec.specs.Threads.{is_done}
use Rattle.machine_spec.specs.Pending.{Item, dos, markers}
use Rattle.machine_spec.specs.Places.{Places, sum_some}
use Rattle.machine_spec.specs.Starting.{open_levels}
use Rattle.machine_spec.specs.Tasks.{depth, tasks}
use Rattle.project_spec.specs.declared.blocks.Block.{Block}
use Rattle.project_spec.specs.Trees.{Sheet, target_of_link, script, statement}
use Rattle.thread_frames.specs.declared.level.Level.{Level}
use Rattle.thread_frames.specs.Reading.{params_in, first_item, marker, block_items, items_at, beneath, pending, task}
use Rattle.thread_frames.specs.Threads.{Thread, frames}
use Rattle.thread_frames.specs.Fit.{kind_of, AllUnder, IsAtRest, Fits}
use Rattle.thread_moves.proofs.Fits.{under_marker}
use Rattle.thread_moves.proofs.Items.{first_is, at_block}
use Rattle.project_check.specs.declared.project.Project.{Project}
use Rattle.executions.specs.Seen.{sheets, seen_threads}
use Rattle.executions.specs.Ready.{AllFit}

markers_dos : (t : Script) (r : List Item) → markers (dos t ++ r) ≡ markers r
markers_dos End r = refl
markers_dos (Then s rest) r = markers_dos rest r

module _ (sheet : Sheet) where
  markers_first : (l : Level) (o : Option ℕ) (r : List Item) → markers (items_at sheet (first_item l) o ++ r) ≡ markers r
  markers_first l None r = refl
  markers_first l (Some k) r = go (slice_get sheet.blocks k)
    where
      go : (b : Option Block) → markers (block_items sheet (first_item l) k b ++ r) ≡ markers r
      go None = refl
      go (Some b) = first_is (λ x. markers (x ∷ dos (script sheet (target_of_link b.next)) ++ r) ≡ markers r) l.is_loop l.context (params_in l) (statement sheet k b) (markers_dos (script sheet (target_of_link b.next)) r) (λ c. markers_dos (script sheet (target_of_link b.next)) r) (markers_dos (script sheet (target_of_link b.next)) r)

  markers_beneath : (ls : List Level) → AllUnder sheet ls → markers (beneath sheet ls) ≡ length ls
  markers_beneath [] h = refl
  markers_beneath (l ∷ ls) h =
      let u = h.0 in
      let r : List Item = dos (script sheet (target_of_link u.block.next)) ++ beneath sheet ls in
      let more : markers r ≡ length ls = markers_dos (script sheet (target_of_link u.block.next)) (beneath sheet ls) ∙ markers_beneath ls h.1 in
      let here : markers (beneath sheet (l ∷ ls)) ≡ markers r + 1 =
      ap (λ x. markers (x ++ beneath sheet ls)) (at_block sheet (marker l) l.block u.id u.block u.holds u.found)
      ∙ under_marker (λ x. markers (x ∷ r) ≡ markers r + 1) l.context l.is_loop (kind_of u.block) (params_in l) l.warp (statement sheet u.id u.block) u.fits (λ k m. refl) (λ k. refl) (λ k. refl) in
      omega (arith, here, more)

  depth_open : (ls : List Level) → IsAtRest sheet ls → markers (pending sheet ls) + 1 ≡ length ls
  depth_open [] h = absurd (omega (arith, h.there))
  depth_open (l ∷ ls) h = omega (arith, markers_first l l.block (beneath sheet ls), markers_beneath ls h.fit.1)

module _ (p : Project) where
  depth_by : (t : Thread) (done : Bool) → is_done t.status ≡ done → Fits (sheets p) t → (if done then 0 else markers (pending (sheets p t.target) t.levels) + 1) ≡ length t.levels
  depth_by t true e h = sym (ap length (h.done e))
  depth_by t false e h = depth_open (sheets p t.target) t.levels (h.open_levels e)

  pub depth_is : (t : Thread) → Fits (sheets p) t → depth (task (sheets p) t) ≡ length t.levels
  depth_is t h = depth_by t (is_done t.status) refl h

  sum_is : (xs : List Thread) → All (Fits (sheets p)) xs → sum_by depth (map (task (sheets p)) xs) ≡ sum_by (λ t. length t.levels) xs
  sum_is [] h = refl
  sum_is (x ∷ xs) h =
      omega (arith, sum_by-cons depth (task (sheets p) x) (map (task (sheets p)) xs), sum_by-cons (λ (t : Thread). length t.levels) x xs, depth_is x (All-head (Fits (sheets p)) x xs h), sum_is xs (All-tail (Fits (sheets p)) x xs h))

  some_is : (o : Option Thread) → IfSome o (Fits (sheets p)) → sum_some depth (option_map (task (sheets p)) o) ≡ sum_some (λ t. length t.levels) o
  some_is None h = refl
  some_is (Some t) h = depth_is t h

  pub open_seen : (ts : Places Thread) → AllFit p ts → open_levels tasks (seen_threads p ts) ≡ open_levels frames ts
  open_seen ts h = omega (arith, sum_is ts.list h.all.listed, some_is ts.detached h.all.detached)
