-- The threads of an instance are ended one after another, from the last slot down.
use Rattle.std.proofs.Common.{◌≡◌, ℕ, suc, List, [], ◌∷◌, map, length, Bool, true, false, cond, Option, Some, None, slice_get, refl, sym, ap, ◌∙◌}
use Rattle.std.specs.Prelude.{◌==◌, ◌&&◌, not}
use Rattle.instance_index.specs.Slots.{last_below}
use Rattle.instance_index.proofs.Walk.{VisitedAbove, VisitedAbove-begin, VisitedAbove-then, VisitedAbove-end, mapped_from-is, slice_get-visited}
use Rattle.machine_spec.specs.declared.threads.Which.{Which}
use Rattle.machine_spec.specs.declared.threads.Which.TheVariants.{Slot}
use Rattle.machine_spec.specs.Places.{Places, on_place, put, put_some}
use Rattle.machine_spec.specs.Starting.{finished_from, finished_of, is_spared}
use Rattle.shared_stacks.specs.declared.pool.Pool.{Pool}
use Rattle.thread_frames.specs.Levels.{Level}
use Rattle.thread_frames.specs.Entries.{Entry, seen}
use Rattle.thread_frames.specs.Threads.{Thread, frames, finish}
use Rattle.thread_frames.specs.Stopping.{is_some_stopped, stopped}
use Rattle.thread_frames.specs.Indexing.{keys_of, instances_of}
use Rattle.thread_frames.proofs.Maps.{put_same}

abbrev pub own : Thread → ℕ
own t = t.of

-- the instances of threads, as entries and their keys tell
pub owns_seen : (p : Pool Level) (es : List Entry) (ts : List Thread) → map (seen p) es ≡ ts → map (λ e. e.thread.of) es ≡ map own ts
owns_seen p es ts same = by es ∙ ap (map own) same
  where
    by : (xs : List Entry) → map (λ (e : Entry). e.thread.of) xs ≡ map own (map (seen p) xs)
    by [] = refl
    by (x ∷ xs) = ap (λ os. x.thread.of ∷ os) (by xs)

pub owns_keys : (p : Pool Level) (es : List Entry) (ts : List Thread) → map (seen p) es ≡ ts → instances_of (keys_of es) ≡ map own ts
owns_keys p es ts same = by es ∙ ap (map own) same
  where
    by : (xs : List Entry) → instances_of (keys_of xs) ≡ map own (map (seen p) xs)
    by [] = refl
    by (x ∷ xs) = ap (λ os. x.thread.of ∷ os) (by xs)

pub count_keys : (es : List Entry) → length (instances_of (keys_of es)) ≡ length es
count_keys [] = refl
count_keys (x ∷ xs) = ap suc (count_keys xs)

pub count_owns : (es : List Entry) → length (map (λ (e : Entry). e.thread.of) es) ≡ length es
count_owns [] = refl
count_owns (x ∷ xs) = ap suc (count_owns xs)

pub count_seen : (p : Pool Level) (es : List Entry) (ts : List Thread) → map (seen p) es ≡ ts → length es ≡ length ts
count_seen p es ts same = by es ∙ ap length same
  where
    by : (xs : List Entry) → length xs ≡ length (map (seen p) xs)
    by [] = refl
    by (x ∷ xs) = ap suc (by xs)

module _ (spared : Option Which) (of : ℕ) where
  stopped_by : (slot : ℕ) (o : Option Thread) (ts : Places Thread) → o ≡ slice_get ts.list slot → is_some_stopped spared of slot o ≡ true → put_some o finish (Slot slot) ts ≡ put_some o (stopped spared of slot) (Slot slot) ts
  stopped_by slot None ts at e = refl
  stopped_by slot (Some t) ts at e = ap (λ b. put (Slot slot) (cond b (finish t) t) ts) (sym e)

  spared_by : (slot : ℕ) (o : Option Thread) (ts : Places Thread) → o ≡ slice_get ts.list slot → is_some_stopped spared of slot o ≡ false → ts ≡ put_some o (stopped spared of slot) (Slot slot) ts
  spared_by slot None ts at e = refl
  spared_by slot (Some t) ts at e = sym (ap (λ b. put (Slot slot) (cond b (finish t) t) ts) e ∙ put_same (Slot slot) t ts (sym at))

  pub stopped-true : (slot : ℕ) (ts : Places Thread) → is_some_stopped spared of slot (slice_get ts.list slot) ≡ true → on_place finish (Slot slot) ts ≡ on_place (stopped spared of slot) (Slot slot) ts
  stopped-true slot ts e = stopped_by slot (slice_get ts.list slot) ts refl e

  pub stopped-false : (slot : ℕ) (ts : Places Thread) → is_some_stopped spared of slot (slice_get ts.list slot) ≡ false → ts ≡ on_place (stopped spared of slot) (Slot slot) ts
  stopped-false slot ts e = spared_by slot (slice_get ts.list slot) ts refl e

  -- A walk over the threads of the instance

  stays : (k : ℕ) (t : Thread) → (own t == of) ≡ false → stopped spared of k t ≡ t
  stays k t other = ap (λ b. cond (b && not (is_spared spared k)) (finish t) t) other

  keeps : (k : ℕ) (t : Thread) → own (stopped spared of k t) ≡ own t
  keeps k t = by (t.of == of && not (is_spared spared k))
    where
      by : (b : Bool) → own (cond b (finish t) t) ≡ own t
      by true = refl
      by false = refl

  -- those above the next slot are ended, and the detached thread is as it was
  pub record Walks (next : Option ℕ) (old now : Places Thread) : Type 0 where
    pub list : VisitedAbove own (stopped spared of) of next old.list now.list
    pub detached : now.detached ≡ old.detached

  pub walk_begins : (next : Option ℕ) (ts us : Places Thread) → us ≡ ts → next ≡ last_below of (map own us.list) (length us.list) → Walks next ts us
  walk_begins next ts us same last =
      rw same (record {
        list = VisitedAbove-begin own (stopped spared of) of stays next ts.list (last ∙ ap (λ (x : Places Thread). last_below of (map own x.list) (length x.list)) same);
        detached = refl;
      })

  pub walk_at : (k : ℕ) (here : Option ℕ) (old now : Places Thread) → Walks here old now → here ≡ Some k → slice_get (map own now.list) k ≡ Some of
  walk_at k here old now walk is = slice_get-visited own (stopped spared of) of keeps k here old.list now.list walk.list is

  put_list : (k : ℕ) (t : Thread) (now new : Places Thread) → new ≡ on_place (stopped spared of k) (Slot k) now → slice_get now.list k ≡ Some t → new ≡ put (Slot k) (stopped spared of k t) now
  put_list k t now new changed at = changed ∙ ap (λ o. put_some o (stopped spared of k) (Slot k) now) at

  detached_by : (k : ℕ) (o : Option Thread) (now : Places Thread) → (put_some o (stopped spared of k) (Slot k) now).detached ≡ now.detached
  detached_by k None now = refl
  detached_by k (Some t) now = refl

  pub walk_on : (k : ℕ) (here next : Option ℕ) (old now new : Places Thread) → Walks here old now → here ≡ Some k → new ≡ on_place (stopped spared of k) (Slot k) now → next ≡ last_below of (map own now.list) k → Walks next old new
  walk_on k here next old now new walk is changed last = record {
    list =
        VisitedAbove-then own (stopped spared of) of keeps stays k here next old.list now.list new.list walk.list is
        (λ t at. ap (λ (x : Places Thread). x.list) (put_list k t now new changed at)) last;
    detached = ap (λ (x : Places Thread). x.detached) changed ∙ detached_by k (slice_get now.list k) now ∙ walk.detached;
  }

  pub walk_ends : (next : Option ℕ) (old now : Places Thread) → Walks next old now → next ≡ None → now ≡ finished_of frames spared of old
  walk_ends next old now walk none =
      let list = VisitedAbove-end own (stopped spared of) of next old.list now.list walk.list none
      ∙ mapped_from-is (stopped spared of) (finished_from frames spared of) (λ j. refl) (λ j x xs. refl) 0 old.list in
      ap (λ xs. record { list = xs; detached = now.detached }) list ∙ ap (λ o. record { list = finished_from frames spared of 0 old.list; detached = o }) walk.detached
