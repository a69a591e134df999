-- How a start of hats stops: where a thread has no number, or no level is left for it.
use Rattle.std.proofs.Common.{ℕ, ◌==◌, Bool, true, false, if◌then◌else◌, List, [], ◌∷◌, Option, Some, None, refl, subst, position}
use Rattle.std.specs.Prelude.{nat_lt, slice_get, Result, Ok, Err, IfErr}
use Rattle.std.specs.List.{list_any}
use Rattle.opcode_table.specs.Kinds.{hat_kind}
use Rattle.script_words.specs.declared.stops.CounterKind.{CounterKind}
use Rattle.script_words.specs.declared.stops.CounterKind.TheVariants as counter
use Rattle.script_words.specs.declared.stops.Stop.{Stop}
use Rattle.script_words.specs.declared.stops.Stop.TheVariants.{Stack, Text, Counter, NoMemory}
use Rattle.machine_spec.specs.Outcome.{Outcome, Goes, Full, TooLong, Spent, StopIs, then_do, with_number, with_room, last_number, most_levels}
use Rattle.machine_spec.specs.declared.threads.Which.TheVariants.{Slot}
use Rattle.machine_spec.specs.Places.{Places, on_place}
use Rattle.machine_spec.specs.Script.{op_of}
use Rattle.machine_spec.specs.Starting.{Handle, Pair, Crowd, open_levels, restarts, runs_at, replaced, replaced_at, placed, appended, joined, is_of, is_alive_of, new_thread, ignored_or_appended, start_by, start_one, start_all}
use Rattle.thread_frames.specs.Threads.{Thread, frames}
use Rattle.hats.specs.declared.hat_threads.Hat.{Hat}
use Rattle.hats.specs.Started.{entered, is_ignored, new_of, started, started_all}
use Rattle.hats.specs.Stops.{IsOfThreadsOrMemory}

-- an outcome that meets no other limits than these
abbrev pub Meets : (Stop → Type 0) → {A : Type 0} → Outcome A → Type 0
Meets P (Goes x) = Unit {0}
Meets P Full = P Stack
Meets P (TooLong n) = P (Text n)
Meets P (Spent which) = P (Counter which)

-- a stop tells the limit that was met
pub stop_of : (P : Stop → Type 0) {T A : Type 0} (r : Result T Stop) (o : Outcome A) → P NoMemory → Meets P o → StopIs r o → IfErr r P
stop_of P (Ok x) o m h s = tt
stop_of P (Err Stack) o m h s = subst (Meets P) s h
stop_of P (Err (Text n)) o m h s = subst (Meets P) s h
stop_of P (Err (Counter which)) o m h s = subst (Meets P) s h
stop_of P (Err NoMemory) o m h s = m

module _ (P : Stop → Type 0) where
  pub then_meets : {A B : Type 0} (o : Outcome A) (f : A → Outcome B) → Meets P o → ((x : A) → Meets P (f x)) → Meets P (then_do o f)
  then_meets (Goes x) f h k = k x
  then_meets Full f h k = h
  then_meets (TooLong n) f h k = h
  then_meets (Spent which) f h k = h

  number_by : {A : Type 0} (b : Bool) (which : CounterKind) (o : Outcome A) → P (Counter which) → Meets P o → Meets P (if b then Spent which else o)
  number_by true which o p h = p
  number_by false which o p h = h

  pub number_meets : {A : Type 0} (which : CounterKind) (next : ℕ) (o : Outcome A) → P (Counter which) → Meets P o → Meets P (with_number which next o)
  number_meets which next o p h = number_by (next == last_number) which o p h

  room_by : {A : Type 0} (b : Bool) (x : A) → P Stack → Meets P (if b then Goes x else Full)
  room_by true x p = tt
  room_by false x p = p

  room_meets : {A : Type 0} (levels : ℕ) (x : A) → P Stack → Meets P (with_room levels x)
  room_meets levels x p = room_by (nat_lt levels most_levels) x p

  -- a start that may meet these two limits meets no other
  module _ (full : P Stack) (spent : P (Counter counter.Thread)) {A : Type 0} (k : Handle A) (running : Option ℕ) where
    replaced_meets : (runs : Bool) (j : ℕ) (old new : A) (ts : Places A) → Meets P (replaced k runs j old new ts)
    replaced_meets true j old new ts = room_meets (open_levels k ts) _ full
    replaced_meets false j old new ts = room_meets (open_levels k (on_place k.finish (Slot j) ts)) _ full

    at_meets : (runs : Bool) (j : ℕ) (old : Option A) (new : A) (ts : Places A) → Meets P (replaced_at k runs j old new ts)
    at_meets runs j None new ts = tt
    at_meets runs j (Some old) new ts = replaced_meets runs j old new ts

    placed_meets : (j : Option ℕ) (new : A) (ts : Places A) → Meets P (placed k running j new ts)
    placed_meets None new ts = room_meets (open_levels k ts) _ full
    placed_meets (Some j) new ts = at_meets (runs_at running j ts.detached) j (slice_get ts.list j) new ts

    joined_meets : (c : Crowd A) (o : Outcome (Places A)) → Meets P o → Meets P (joined c o)
    joined_meets c o h = number_meets counter.Thread c.next _ spent (then_meets o _ h (λ ts. tt))

    ignored_meets : (b : Bool) (x : Pair) (c : Crowd A) → Meets P (ignored_or_appended b k x c)
    ignored_meets true x c = tt
    ignored_meets false x c = joined_meets c _ (room_meets (open_levels k c.threads) _ full)

    by_meets : (restarting : Bool) (x : Pair) (c : Crowd A) → Meets P (start_by restarting k running x c)
    by_meets true x c = joined_meets c _ (placed_meets (position (is_of k x) c.threads.list) (new_thread k x c) c.threads)
    by_meets false x c = ignored_meets (list_any (is_alive_of k x) c.threads.list) x c

    one_meets : (x : Pair) (c : Crowd A) → Meets P (start_one k running x c)
    one_meets x c = by_meets (restarts (hat_kind (op_of x.head.hat))) x c

    pub all_meets : (xs : List Pair) (c : Crowd A) → Meets P (start_all k running xs c)
    all_meets [] c = tt
    all_meets (x ∷ xs) c = then_meets (start_one k running x c) _ (one_meets x c) (λ d. all_meets xs d)

-- hats that are at hand stop as those of the machine do
module _ (P : Stop → Type 0) (full : P Stack) (spent : P (Counter counter.Thread)) (running : Option ℕ) where
  entered_by : (again : Bool) (j : Option ℕ) (new : Thread) (ts : Places Thread) → Meets P (if again then placed frames running j new ts else appended frames new ts)
  entered_by true j new ts = placed_meets P full spent frames running j new ts
  entered_by false j new ts = room_meets P (open_levels frames ts) _ full

  started_by : (ignored : Bool) (c : Crowd Thread) (o : Outcome (Places Thread)) → Meets P o → Meets P (if ignored then Goes c else joined c o)
  started_by true c o h = tt
  started_by false c o h = joined_meets P full spent frames running c o h

  started_meets : (h : Hat) (c : Crowd Thread) → Meets P (started running h c)
  started_meets h c = started_by (is_ignored h c.threads) c (entered running h c.next c.threads) (entered_by h.restarts _ (new_of h c.next) c.threads)

  hats_meet : (hs : List Hat) (c : Crowd Thread) → Meets P (started_all running hs c)
  hats_meet [] c = tt
  hats_meet (h ∷ hs) c = then_meets P (started running h c) _ (started_meets h c) (λ d. hats_meet hs d)

pub hats_stop : {T : Type 0} (r : Result T Stop) (running : Option ℕ) (hs : List Hat) (c : Crowd Thread) → StopIs r (started_all running hs c) → IfErr r IsOfThreadsOrMemory
hats_stop r running hs c s = stop_of IsOfThreadsOrMemory r (started_all running hs c) tt (hats_meet IsOfThreadsOrMemory tt refl running hs c) s
