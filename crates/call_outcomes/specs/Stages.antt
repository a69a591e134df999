-- What the stages of a call owe: a fetch, the writing of texts, and a put.
use Rattle.std.specs.Prelude.{◌≡◌, ℕ, ◌≤◌, List, [], Vec, Result, Err, ⊤}
use Rattle.std.specs.declared.alloc.Global.{Global}
use Rattle.sv_channels.specs.Counts.{next_count, Rose, NoneFell, NoneRose}
use Rattle.sv_channels.specs.Shelf.{FetchAnswer, FetchCounts, PutAnswer, PutCounts}
use Rattle.sv_channels.specs.Sink.{Gained}
use Rattle.sv_channels.specs.declared.errors.FetchError.{FetchError}
use Rattle.sv_channels.specs.declared.errors.FetchError.TheVariants as fetch
use Rattle.sv_channels.specs.declared.errors.PutError.{PutError}
use Rattle.sv_channels.specs.declared.errors.SinkError.{SinkError}
use Rattle.sv_channels.specs.declared.errors.SinkError.TheVariants as sink
use Rattle.call_outcomes.specs.Course.{Course, usage, read_fault, write_fault, no_memory, silent, whole}
use Rattle.call_outcomes.specs.Faults.{FetchFailed, Wanted, WritesSteadily}
use Rattle.call_outcomes.specs.Seen.{ShelfNow, SinkNow}
use Rattle.call_outcomes.specs.Writes.{Wrote}

-- want of memory is counted
abbrev pub WantCause : ShelfNow → ShelfNow → Result (Vec ℕ Global) FetchError → Type 0
WantCause s t (Err fetch.NoMemory) = Wanted s t
WantCause s t answer = ⊤

-- one fetch
pub record Fetches (name : List ℕ) (limit : ℕ) (s t : ShelfNow) (answer : Result (Vec ℕ Global) FetchError) : Type 0 where
  pub told : FetchAnswer s.held name limit (FetchFailed s t name) answer
  pub wanted : WantCause s t answer
  pub held : t.held ≡ s.held
  pub fetch_faults : NoneFell s.fetch_faults t.fetch_faults
  pub steady : FetchCounts s.fetch_faults t.fetch_faults answer
  pub put_faults : NoneRose s.put_faults t.put_faults
  pub calls : t.calls ≡ next_count s.calls

-- one put
pub record PutsOnce (name text : List ℕ) (s t : ShelfNow) (answer : Result Unit PutError) : Type 0 where
  pub told : PutAnswer s.held t.held name text (Rose (s.put_faults name) (t.put_faults name)) answer
  pub fetch_faults : NoneRose s.fetch_faults t.fetch_faults
  pub steady : PutCounts s.put_faults t.put_faults answer
  pub calls : t.calls ≡ next_count s.calls

-- a writing of texts ends in one of three ways
abbrev pub IsWriting : Course → Type 0
IsWriting whole = ⊤
IsWriting write_fault = ⊤
IsWriting no_memory = ⊤
IsWriting usage = ⊥
IsWriting read_fault = ⊥
IsWriting silent = ⊥

-- the writing of these texts, and a put behind them if one may fail; the count of failed writes falls in no course
pub record Writes (k l : SinkNow) (put_failed : Type 0) (texts : List (List ℕ)) (course : Course) : Type 0 where
  pub only : IsWriting course
  pub wrote : Wrote k l put_failed texts course
  pub steady : WritesSteadily k l course
  pub grown : k.faults ≤ l.faults

-- a write that wanted memory wrote nothing
abbrev pub Unwritten : SinkNow → SinkNow → Result Unit SinkError → Type 0
Unwritten k l (Err sink.NoMemory) = Gained k.written l.written []
Unwritten k l answer = ⊤
