-- What is owed about faults: none is told that was not, and none is hidden.
use Rattle.std.specs.Prelude.{◌≡◌, ℕ, ◌≤◌, List, Option, None, Some, ⊤}
use Rattle.sv_channels.specs.Counts.{Rose, NoneRose}
use Rattle.call_outcomes.specs.Course.{Course, usage, read_fault, write_fault, no_memory, silent, whole}
use Rattle.call_outcomes.specs.Seen.{ShelfNow, SinkNow}

-- a fault only where its count rose
abbrev pub FaultCause : (fetch_failed write_failed : Type 0) → Course → Type 0
FaultCause fetch_failed write_failed read_fault = fetch_failed
FaultCause fetch_failed write_failed write_fault = write_failed
FaultCause fetch_failed write_failed course = ⊤

-- a fetch of the name, a put under the name if there is one, and a write have failed in this call
abbrev pub FetchFailed : ShelfNow → ShelfNow → List ℕ → Type 0
FetchFailed s t name = Rose (s.fetch_faults name) (t.fetch_faults name)

abbrev pub PutFailed : ShelfNow → ShelfNow → Option (List ℕ) → Type 0
PutFailed s t None = ⊥
PutFailed s t (Some name) = Rose (s.put_faults name) (t.put_faults name)

abbrev pub WriteFailed : SinkNow → SinkNow → Type 0
WriteFailed k l = Rose k.faults l.faults

-- the shelf wanted memory in this call
abbrev pub Wanted : ShelfNow → ShelfNow → Type 0
Wanted s t = Rose s.wants t.wants

-- no fetch, put or write failed in this call
pub record NothingFailed (s t : ShelfNow) (k l : SinkNow) : Type 0 where
  pub fetches : NoneRose s.fetch_faults t.fetch_faults
  pub puts : NoneRose s.put_faults t.put_faults
  pub writes : l.faults ≡ k.faults

-- a fault of one kind is the only fault of its call, and in every other course nothing failed
abbrev pub HidesNothing : (s t : ShelfNow) → (k l : SinkNow) → Course → Type 0
HidesNothing s t k l read_fault = NoneRose s.put_faults t.put_faults × (l.faults ≡ k.faults)
HidesNothing s t k l write_fault = NoneRose s.fetch_faults t.fetch_faults
HidesNothing s t k l usage = NothingFailed s t k l
HidesNothing s t k l no_memory = NothingFailed s t k l
HidesNothing s t k l silent = NothingFailed s t k l
HidesNothing s t k l whole = NothingFailed s t k l

-- the count of failed writes rises in no course but this one
abbrev pub WritesSteadily : SinkNow → SinkNow → Course → Type 0
WritesSteadily k l write_fault = ⊤
WritesSteadily k l course = l.faults ≡ k.faults
