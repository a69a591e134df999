-- A thread that is replaced in its slot.
use Rattle.std.specs.Prelude.{◌≡◌, ℕ, [], slice_get, slice_set, Bool, Option, Some, None}
use Rattle.machine_spec.specs.Outcome.{Outcome, Goes}
use Rattle.machine_spec.specs.Places.{Places}
use Rattle.machine_spec.specs.Starting.{replaced}
use Rattle.thread_frames.specs.Threads.{Thread, Bare, frames, again, new_bare, with_levels}

abbrev pub restarted_by : (keep : Bool) → (slot serial target : ℕ) → (first : Option ℕ) → Option Thread → Places Thread → Outcome (Places Thread)
restarted_by keep slot serial target first None ts = Goes ts
restarted_by keep slot serial target first (Some old) ts = replaced frames keep slot old (again serial target first old) ts

-- the thread of a slot is replaced by a new one of the same instance and hat: it becomes the detached one, or gives up its
-- levels first
abbrev pub restarted : (keep : Bool) → (slot serial target : ℕ) → (first : Option ℕ) → Places Thread → Outcome (Places Thread)
restarted keep slot serial target first ts = restarted_by keep slot serial target first (slice_get ts.list slot) ts

-- Private functions alone cite these: a new thread of the same instance and hat, whose level is not yet open

abbrev pub renewed : (serial target : ℕ) → Thread → Thread
renewed serial target t = with_levels (new_bare serial t.of target t.hat) []

-- a thread of the same instance and hat as one that is there
pub record IsLike (new : Bare) (old : Option Thread) : Type 0 where
  pub thread : Thread
  pub there : old ≡ Some thread
  pub of : new.of ≡ thread.of
  pub hat : new.hat ≡ thread.hat

-- it takes the slot, without levels, and the one that stood there becomes the detached one
abbrev pub swapped : (slot : ℕ) → Bare → Places Thread → Places Thread
swapped slot new ts = record { list = slice_set ts.list slot (with_levels new []); detached = slice_get ts.list slot }
