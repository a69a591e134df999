-- A turn is a slice, or the end of a thread with nothing to do.
use Rattle.std.proofs.Common.{◌≡◌, ℕ, Bool, true, false, List, [], ◌∷◌, ◌++◌, Option, Some, None, refl, sym, ap, ◌∙◌, subst, arith}
use Rattle.std.specs.Prelude.{is_some}
use Rattle.std.specs.Option.{option_map}
use Rattle.rand_core.specs.Stream.{Stream}
use Rattle.machine_spec.specs.declared.threads.Which.{Which}
use Rattle.machine_spec.specs.declared.threads.Report.TheVariants.{Ended}
use Rattle.machine_spec.specs.Pending.{Item, gone}
use Rattle.machine_spec.specs.Places.{Places, at_place, place, put, on_place}
use Rattle.machine_spec.specs.Outcome.{Goes}
use Rattle.machine_spec.specs.Slice.{turn, turn_of, turn_by, slice, most_executions}
use Rattle.project_spec.specs.Trees.{Sheet}
use Rattle.project_spec.proofs.Unrolling.{held_at}
use Rattle.thread_frames.specs.declared.level.Level.{Level}
use Rattle.thread_frames.specs.Levels.{top_block}
use Rattle.thread_frames.specs.Fit.{Fits, IsHeld, LevelsFit, IsAtRest}
use Rattle.thread_frames.specs.Reading.{task, pending, beneath, items_at, first_item}
use Rattle.thread_frames.specs.Threads.{Thread, levels_of, finish}
use Rattle.thread_moves.specs.Standing.{IsAt}
use Rattle.thread_moves.proofs.Items.{at_block}
use Rattle.project_check.specs.declared.project.Project.{Project}
use Rattle.project_check.specs.Loaded.{program_of}
use Rattle.executions.specs.declared.state.State.{State}
use Rattle.thread_moves.specs.Moves.{with_levels}
use Rattle.executions.specs.Ready.{IsKept, IsReady}
use Rattle.executions.specs.Seen.{sheets, seen}
use Rattle.machine_spec.proofs.Placing.{on_is, everyone_at, running_seen}
use Rattle.executions.proofs.Worlds.{moved_is, after}
use Rattle.frames.specs.Turns.{CanTurn}

none_of : (o : Option ℕ) → false ≡ is_some o → o ≡ None
none_of None e = refl
none_of (Some k) e = absurd (cc e)

-- nothing is left where the only level is empty
none_pending : (sheet : Sheet) (levels : List Level) → IsAtRest sheet levels → false ≡ is_some (top_block levels) → pending sheet levels ≡ []
none_pending sheet [] rest e = refl
none_pending sheet (t ∷ []) rest e = ap (λ o. items_at sheet (first_item t) o ++ []) (none_of t.block e)
none_pending sheet (t ∷ (l ∷ ls)) rest e = let one = rest.single (none_of t.block e) in absurd (omega (arith, one))

-- something is left where the top level holds a block
pub record Begins (items : List Item) : Type 0 where
  pub item : Item
  pub rest : List Item
  pub is : items ≡ item ∷ rest

some_pending : (sheet : Sheet) (levels : List Level) → LevelsFit sheet levels → true ≡ is_some (top_block levels) → Begins (pending sheet levels)
some_pending sheet [] fit e = absurd (cc e)
some_pending sheet (t ∷ ls) fit e = go t.block refl e
  where
    go : (o : Option ℕ) → t.block ≡ o → true ≡ is_some o → Begins (pending sheet (t ∷ ls))
    go None holds some = absurd (cc some)
    go (Some k) holds some =
        let (b, found) = held_at sheet.blocks k (subst (IsHeld sheet) holds fit.0.held) in
        record { item = _; rest = _; is = ap (λ xs. xs ++ beneath sheet ls) (at_block sheet (first_item t) t.block k b holds found) }

module _ {R : Type 0} (stream : R → Stream) (p : Project) (budget i : ℕ) (w : State R) (can : CanTurn p i w) (which : Which) (at : which ≡ place i w.threads) where
  abbrev sheet : Sheet
  sheet = sheets p can.thread.target

  there : at_place which w.threads ≡ Some can.thread
  there = ap (λ z. at_place z w.threads) at ∙ can.found

  rest : IsAtRest sheet can.thread.levels
  rest = let fits = everyone_at (Fits (sheets p)) (place i w.threads) w.threads can.thread can.kept.threads.all can.found in fits.open_levels can.alive

  holds : (b : Bool) → b ≡ is_some (top_block (levels_of (at_place which w.threads))) → b ≡ is_some (top_block can.thread.levels)
  holds b e = e ∙ ap (λ o. is_some (top_block (levels_of o))) there

  turn_is : turn (program_of p) budget i (seen stream p w) ≡ turn_of (program_of p) budget i (pending sheet can.thread.levels) (seen stream p w)
  turn_is = ap (λ o. turn_by (program_of p) budget i o (seen stream p w)) (running_seen (task (sheets p)) i w.threads ∙ ap (option_map (task (sheets p))) can.found)

  module _ (some : true ≡ is_some (top_block (levels_of (at_place which w.threads)))) where
    pub turn_ready : IsReady p i w
    turn_ready = record {
      thread = can.thread;
      found = can.found;
      alive = can.alive;
      ready = record { fit = rest.fit; holds = sym (holds true some) };
      kept = can.kept;
    }

    pub turn_slices : turn (program_of p) budget i (seen stream p w) ≡ slice (program_of p) budget i most_executions 0 (seen stream p w)
    turn_slices =
        let begins = some_pending sheet can.thread.levels rest.fit (holds true some) in
        turn_is ∙ ap (λ xs. turn_of (program_of p) budget i xs (seen stream p w)) begins.is

  module _ (none : false ≡ is_some (top_block (levels_of (at_place which w.threads)))) (ts : Places Thread) (finished : ts ≡ on_place finish which w.threads) where
    ended : IsAt sheet gone [] Ended
    ended = record { items = refl; warp = refl; report_is = refl; ready = refl }

    new_is : ts ≡ put (place i w.threads) (with_levels [] Ended can.thread) w.threads
    new_is = on_is finish which w.threads ts can.thread there finished ∙ ap (λ z. put z (finish can.thread) w.threads) at

    pub turn_done : turn (program_of p) budget i (seen stream p w) ≡ Goes (seen stream p (record w { threads = ts }))
    turn_done =
        turn_is ∙ ap (λ xs. turn_of (program_of p) budget i xs (seen stream p w)) (none_pending sheet can.thread.levels rest (holds false none))
        ∙ ap (λ m. Goes m.world) (moved_is stream p i w ts can.thread gone [] Ended ended can.found new_is)

    pub turn_kept : IsKept p (record w { threads = ts })
    turn_kept = after p can.thread gone [] Ended ended i w ts can.found new_is can.alive can.kept
