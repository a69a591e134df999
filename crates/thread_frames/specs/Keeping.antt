-- What is kept beside threads: the pool of their levels, and the indexes; the invariant of `Threads` alone cites it.
use Rattle.shared_stacks.specs.declared.pool.Pool.{Pool}
use Rattle.shared_stacks.specs.Shared.{Stand}
use Rattle.machine_spec.specs.Outcome.{most_levels}
use Rattle.machine_spec.specs.Places.{Places}
use Rattle.thread_frames.specs.Levels.{Level}
use Rattle.thread_frames.specs.Entries.{Entry, stacks_of}
use Rattle.thread_frames.specs.Indexing.{AreIndexed, keys_of}
use Rattle.thread_frames.specs.declared.indexes.Indexes.{Indexes}

-- the stacks of all threads, the detached one among them, are those of the pool: no used slot is in none of them or in two, no
-- more than the most levels are open, and there is room for these
pub record IsKept (pool : Pool Level) (index : Indexes) (ts : Places Entry) : Type 0 where
  pub stand : Stand most_levels pool (stacks_of ts)
  pub indexed : AreIndexed index (keys_of ts.list)
