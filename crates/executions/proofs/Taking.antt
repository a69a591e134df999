-- The context of the running thread's block was taken out.
use Rattle.std.proofs.Common.{◌≡◌, ℕ, zero, suc, List, [], ◌∷◌, map, Some, refl, sym, ap, ◌∙◌, subst}
use Rattle.std.specs.Prelude.{slice_get, slice_set}
use Rattle.machine_spec.specs.Threads.{Listed}
use Rattle.machine_spec.specs.declared.threads.Context.TheVariants.{Fresh}
use Rattle.machine_spec.specs.declared.threads.Which.{Which}
use Rattle.machine_spec.specs.declared.threads.Which.TheVariants.{Slot, Detached}
use Rattle.machine_spec.specs.Places.{Places, at_place, put, place, on_place}
use Rattle.project_spec.specs.Trees.{Sheet}
use Rattle.project_spec.proofs.Unrolling.{held_at}
use Rattle.project_check.specs.declared.project.Project.{Project}
use Rattle.thread_frames.specs.declared.level.Level.{Level}
use Rattle.thread_frames.specs.Levels.{on_top, with_context, top_block}
use Rattle.thread_frames.specs.Fit.{top_at, IsReadyAt, IsHeld}
use Rattle.thread_frames.specs.Reading.{task}
use Rattle.thread_frames.specs.Threads.{Thread, on_levels, listed}
use Rattle.thread_moves.specs.Standing.{TopHolds}
use Rattle.thread_moves.proofs.Items.{block_at_is}
use Rattle.executions.specs.declared.state.State.{State}
use Rattle.executions.specs.Seen.{sheets, seen_threads}
use Rattle.executions.specs.Ready.{IsReady}
use Rattle.thread_moves.specs.Moves.{IsAtBlock}
use Rattle.machine_spec.proofs.Placing.{on_is, put_at}

-- the top level of levels that are ready
pub holds_by : (sheet : Sheet) (levels : List Level) (k : ℕ) → IsReadyAt sheet levels → top_block levels ≡ Some k → TopHolds sheet levels k
holds_by sheet [] k h e = absurd (cc e)
holds_by sheet (t ∷ ls) k h e =
    let (b, found) = held_at sheet.blocks k (subst (IsHeld sheet) e h.fit.0.held) in
    record {
      block = b;
      top = t;
      under = ls;
      before = t.context;
      is = refl;
      holds = e;
      found = found;
      fits = ap (λ o. top_at o t.context t.is_loop) (sym (block_at_is sheet t.block k b e found)) ∙ h.fit.0.fits;
      params = h.fit.0.params;
      below = h.fit.1;
    }

pub holds_before : (sheet : Sheet) (levels : List Level) (k : ℕ) (h : IsReadyAt sheet levels) (e : top_block levels ≡ Some k) → (holds_by sheet levels k h e).before ≡ (holds_by sheet levels k h e).top.context
unfolding holds_by
holds_before sheet [] k h e = absurd (cc e)
holds_before sheet (t ∷ ls) k h e = refl

-- the same block is on top where what it kept was taken out
pub taken_by : (sheet : Sheet) (levels : List Level) (k : ℕ) → TopHolds sheet levels k → TopHolds sheet (on_top (with_context Fresh) levels) k
taken_by sheet levels k th = record {
  block = th.block;
  top = with_context Fresh th.top;
  under = th.under;
  before = th.before;
  is = ap (on_top (with_context Fresh)) th.is;
  holds = th.holds;
  found = th.found;
  fits = th.fits;
  params = th.params;
  below = th.below;
}

abbrev pub without : Thread → Thread
without t = on_levels (on_top (with_context Fresh)) t

list_listed : (xs : List Thread) (i : ℕ) (t u : Thread) → slice_get xs i ≡ Some t → u.serial ≡ t.serial → u.status ≡ t.status
    → ◌≡◌ {A = List Listed} (map (λ x. record { serial = x.serial; status = x.status }) (slice_set xs i u)) (map (λ x. record { serial = x.serial; status = x.status }) xs)
list_listed [] i t u at e f = refl
list_listed (x ∷ xs) zero t u at e f =
    let same : x ≡ t = cc at in
    λ j. record { serial = (e ∙ ap (λ y. y.serial) (sym same)) j; status = (f ∙ ap (λ y. y.status) (sym same)) j } ∷ map (λ y. record { serial = y.serial; status = y.status }) xs
list_listed (x ∷ xs) (suc i) t u at e f = ap (λ l. record { serial = x.serial; status = x.status } ∷ l) (list_listed xs i t u at e f)

pub put_listed : (which : Which) (ts : Places Thread) (t u : Thread) → at_place which ts ≡ Some t → u.serial ≡ t.serial → u.status ≡ t.status → listed (put which u ts) ≡ listed ts
put_listed (Slot i) ts t u at e f = list_listed ts.list i t u at e f
put_listed Detached ts t u at e f = refl

seen_list : (p : Project) (xs : List Thread) → ◌≡◌ {A = List Listed} (map (λ t. record { serial = t.serial; status = t.status }) (map (task (sheets p)) xs)) (map (λ t. record { serial = t.serial; status = t.status }) xs)
seen_list p [] = refl
seen_list p (x ∷ xs) = ap (λ l. record { serial = x.serial; status = x.status } ∷ l) (seen_list p xs)

module _ {R : Type 0} (p : Project) (i k : ℕ) (w : State R) (ready : IsReady p i w) (holds : top_block ready.thread.levels ≡ Some k) (which : Which) (at : which ≡ place i w.threads) (mid : Places Thread) (taken : mid ≡ on_place (on_levels (on_top (with_context Fresh))) which w.threads) where
  pub found : at_place which w.threads ≡ Some ready.thread
  found = ap (λ z. at_place z w.threads) at ∙ ready.found

  pub mid_is : mid ≡ put which (without ready.thread) w.threads
  mid_is = on_is (on_levels (on_top (with_context Fresh))) which w.threads mid ready.thread found taken

  pub at_block : IsAtBlock p which mid ready.thread.target k
  at_block = record {
    thread = without ready.thread;
    found = ap (at_place which) mid_is ∙ put_at which w.threads ready.thread (without ready.thread) found;
    target_is = refl;
    alive = ready.alive;
    top = taken_by (sheets p ready.thread.target) ready.thread.levels k (holds_by (sheets p ready.thread.target) ready.thread.levels k ready.ready holds);
  }

  pub listing : map (λ t. record { serial = t.serial; status = t.status }) (seen_threads p w.threads).list ≡ listed mid
  listing = seen_list p w.threads.list ∙ sym (ap listed mid_is ∙ put_listed which w.threads ready.thread (without ready.thread) found refl refl)
