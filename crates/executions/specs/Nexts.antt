-- What a thread executes next; the contracts of private functions alone cite it.
use Rattle.std.specs.Prelude.{ℕ, Option, Some, None}
use Rattle.thread_frames.specs.Levels.{top_block}
use Rattle.thread_frames.specs.Threads.{Thread}
use Rattle.executions.specs.declared.execution.Next.{Next}

abbrev pub next_by : Thread → Option ℕ → Option Next
next_by t None = None
next_by t (Some k) = Some (record { target = t.target; here = t.of; serial = t.serial; id = k })

abbrev pub next_of : Option Thread → Option Next
next_of None = None
next_of (Some t) = next_by t (top_block t.levels)
