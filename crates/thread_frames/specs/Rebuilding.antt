-- Threads that are made again from their parts.
use Rattle.std.specs.Prelude.{List, map, reverse, ◌++◌, None}
use Rattle.thread_frames.specs.Levels.{Level}
use Rattle.machine_spec.specs.Places.{Places}
use Rattle.thread_frames.specs.declared.parts.ThreadPart.{ThreadPart}
use Rattle.thread_frames.specs.Threads.{Thread}

-- the thread that has these parts, whose levels are given from the bottom
abbrev pub thread_of : ThreadPart → Thread
thread_of p = record { serial = p.serial; of = p.of; target = p.target; hat = p.hat; status = p.status; levels = reverse p.levels.items }

-- the threads that have these parts, listed in their order; none is detached
abbrev pub threads_of : List ThreadPart → Places Thread
threads_of parts = record { list = map thread_of parts; detached = None }

-- these levels put on others, the first one first
abbrev pub on_all : List Level → List Level → List Level
on_all bottom_first under = reverse bottom_first ++ under
