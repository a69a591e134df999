-- What was written, and by which writes: each text by one write. So nothing of the second text is written by the write of the
-- first, and wherever the sink may stop, whole texts were written but for the one whose write failed.
use Rattle.std.specs.Prelude.{◌≡◌, ◌⊎◌, ℕ, suc, ◌≤◌, List, [], ◌∷◌, ◌++◌, length, take}
use Rattle.std.specs.List.{concat}
use Rattle.sv_channels.specs.Sink.{Gained}
use Rattle.call_outcomes.specs.Calls.{counted}
use Rattle.call_outcomes.specs.Course.{Course, usage, read_fault, write_fault, no_memory, silent, whole}
use Rattle.call_outcomes.specs.Faults.{WriteFailed}
use Rattle.call_outcomes.specs.Seen.{SinkNow}

-- all of them
abbrev pub WroteAll : SinkNow → SinkNow → (texts : List (List ℕ)) → Type 0
WroteAll k l texts = Gained k.written l.written (concat texts) × (l.calls ≡ counted (length texts) k.calls)

-- the first ones, and of the next one a first part, by a write that failed
pub record WroteSome (k l : SinkNow) (texts : List (List ℕ)) : Type 0 where
  pub done : List (List ℕ)
  pub next : List ℕ
  pub rest : List (List ℕ)
  pub texts_are : texts ≡ done ++ next ∷ rest
  pub count : ℕ
  pub part : count ≤ length next
  pub bytes : Gained k.written l.written (concat done ++ take count next)
  pub calls : l.calls ≡ counted (suc (length done)) k.calls

-- the first ones, and then no more, or nothing by a write of the next one that wanted memory
pub record WroteFront (k l : SinkNow) (texts : List (List ℕ)) : Type 0 where
  pub done : List (List ℕ)
  pub rest : List (List ℕ)
  pub texts_are : texts ≡ done ++ rest
  pub bytes : Gained k.written l.written (concat done)
  pub calls : (l.calls ≡ counted (length done) k.calls) ⊎ ((1 ≤ length rest) × (l.calls ≡ counted (suc (length done)) k.calls))

-- nothing, by no write
abbrev pub WroteNone : SinkNow → SinkNow → Type 0
WroteNone k l = Gained k.written l.written [] × (l.calls ≡ k.calls)

-- Where the call came to its end, all texts; after want of memory the first ones; after a write that failed the first ones and
-- a part of the next; after a put that failed all of them; and else nothing.
abbrev pub Wrote : SinkNow → SinkNow → (put_failed : Type 0) → (texts : List (List ℕ)) → Course → Type 0
Wrote k l put_failed texts whole = WroteAll k l texts
Wrote k l put_failed texts no_memory = WroteFront k l texts
Wrote k l put_failed texts write_fault = (WriteFailed k l × WroteSome k l texts) ⊎ (put_failed × WroteAll k l texts)
Wrote k l put_failed texts usage = WroteNone k l
Wrote k l put_failed texts read_fault = WroteNone k l
Wrote k l put_failed texts silent = WroteNone k l

-- a course in which nothing is written leaves nothing written, whatever is told of the files
abbrev pub IsSilent : SinkNow → SinkNow → Course → Type 0
IsSilent k l usage = WroteNone k l
IsSilent k l read_fault = WroteNone k l
IsSilent k l silent = WroteNone k l
IsSilent k l course = Unit {0}
