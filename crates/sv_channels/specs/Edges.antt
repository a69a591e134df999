-- What the shelf over the files of the system and the sink over the standard output count: their own calls alone.
use Rattle.std.specs.Prelude.{ℕ, Vec, Result, Err}
use Rattle.std.specs.declared.alloc.Global.{Global}
use Rattle.sv_channels.specs.Counts.{next_count}
use Rattle.sv_channels.specs.declared.errors.FetchError.{FetchError}
use Rattle.sv_channels.specs.declared.errors.FetchError.TheVariants as fetch
use Rattle.sv_channels.specs.declared.errors.PutError.{PutError}
use Rattle.sv_channels.specs.declared.errors.PutError.TheVariants as put
use Rattle.sv_channels.specs.declared.errors.SinkError.{SinkError}
use Rattle.sv_channels.specs.declared.errors.SinkError.TheVariants as sink

-- how many fetches and how many puts have failed, how many calls were made, and how many have wanted memory
pub record FileCounts : Type 0 where
  pub fetches : ℕ
  pub puts : ℕ
  pub calls : ℕ
  pub wants : ℕ

-- one more call
abbrev pub one_call : FileCounts → FileCounts
one_call counts = record counts { calls = next_count counts.calls }

-- the counts after a fetch
abbrev pub counts_after_fetch : FileCounts → Result (Vec ℕ Global) FetchError → FileCounts
counts_after_fetch counts (Err fetch.Failed) = record (one_call counts) { fetches = next_count counts.fetches }
counts_after_fetch counts (Err fetch.NoMemory) = record (one_call counts) { wants = next_count counts.wants }
counts_after_fetch counts answer = one_call counts

-- the counts after a put, which takes no memory
abbrev pub counts_after_put : FileCounts → Result Unit PutError → FileCounts
counts_after_put counts (Err put.Failed) = record (one_call counts) { puts = next_count counts.puts }
counts_after_put counts answer = one_call counts

-- how many writes have failed, and how many were called for
pub record OutputCounts : Type 0 where
  pub faults : ℕ
  pub calls : ℕ

-- the counts after a write, which takes no memory
abbrev pub counts_after_write : OutputCounts → Result Unit SinkError → OutputCounts
counts_after_write counts (Err sink.Failed) = record { faults = next_count counts.faults; calls = next_count counts.calls }
counts_after_write counts answer = record counts { calls = next_count counts.calls }
