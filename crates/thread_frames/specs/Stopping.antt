-- A thread of a slot that is ended with the others of its instance, or whose end is carried out; private functions alone cite
-- it.
use Rattle.std.specs.Prelude.{◌≡◌, ℕ, ◌==◌, ◌&&◌, not, Bool, true, false, List, [], map, All, Option, Some, None, if◌then◌else◌}
use Rattle.machine_spec.specs.declared.threads.Which.{Which}
use Rattle.machine_spec.specs.Places.{Places}
use Rattle.machine_spec.specs.Starting.{is_spared}
use Rattle.machine_spec.specs.Threads.{is_done}
use Rattle.thread_frames.specs.Threads.{Thread, finish}

-- it is of the instance, and its slot is not spared
abbrev pub is_stopped : (spared : Option Which) → (of slot : ℕ) → Thread → Bool
is_stopped spared of slot t = t.of == of && not (is_spared spared slot)

abbrev pub is_some_stopped : (spared : Option Which) → (of slot : ℕ) → Option Thread → Bool
is_some_stopped spared of slot None = false
is_some_stopped spared of slot (Some t) = is_stopped spared of slot t

-- done, where it is one to be ended
abbrev pub stopped : (spared : Option Which) → (of slot : ℕ) → Thread → Thread
stopped spared of slot t = if is_stopped spared of slot t then finish t else t

-- without levels, where it is done
abbrev pub emptied : Thread → Thread
emptied t = if is_done t.status then record t { levels = [] } else t

abbrev pub emptied_all : Places Thread → Places Thread
emptied_all ts = record { list = map emptied ts.list; detached = ts.detached }

-- a thread that is done has no levels
abbrev pub IsEmptyIfDone : Thread → Type 0
IsEmptyIfDone t = is_done t.status ≡ true → t.levels ≡ []

abbrev pub DoneAreEmpty : List Thread → Type 0
DoneAreEmpty ts = All IsEmptyIfDone ts
