-- The threads of a run as contracts see them, whatever keeps their levels.
pub use Rattle.thread_frames.specs.declared.thread.Thread.{Thread as Bare}
use Rattle.std.specs.Prelude.{ℕ, ◌==◌, ◌&&◌, Bool, List, [], ◌∷◌, length, map, filter, not, false, Option, Some, None}
use Rattle.machine_spec.specs.Script.{Script, End, Then, place_of}
use Rattle.machine_spec.specs.Program.{Head, hat_block}
use Rattle.machine_spec.specs.declared.threads.Status.{Status}
use Rattle.machine_spec.specs.declared.threads.Status.TheVariants.{Running, Done}
use Rattle.machine_spec.specs.Threads.{is_done, Listed}
use Rattle.machine_spec.specs.Places.{Places}
use Rattle.machine_spec.specs.Starting.{Handle}
use Rattle.thread_frames.specs.Levels.{Level, new_level}

-- a thread: its number, its instance and the target of that, its hat block, how it stands, and its levels, the top one first
pub record Thread : Type 0 where
  pub serial : ℕ
  pub of : ℕ
  pub target : ℕ
  pub hat : ℕ
  pub status : Status
  pub levels : List Level

-- a thread without its levels, and with these
abbrev pub bare : Thread → Bare
bare t = record { serial = t.serial; of = t.of; target = t.target; hat = t.hat; status = t.status }

abbrev pub with_levels : Bare → List Level → Thread
with_levels t levels = record { serial = t.serial; of = t.of; target = t.target; hat = t.hat; status = t.status; levels = levels }

-- a new thread, whose level is not yet open
abbrev pub new_bare : (serial of target hat : ℕ) → Bare
new_bare serial of target hat = record { serial = serial; of = of; target = target; hat = hat; status = Running }

-- a new thread has one level, which is not warp
abbrev pub new_thread : (serial of target hat : ℕ) → (first : Option ℕ) → Thread
new_thread serial of target hat first =
    record { serial = serial; of = of; target = target; hat = hat; status = Running; levels = new_level first false ∷ [] }

-- a new thread of the same instance and hat
abbrev pub again : (serial target : ℕ) → (first : Option ℕ) → Thread → Thread
again serial target first t = new_thread serial t.of target t.hat first

-- a thread that is done has no levels
abbrev pub finish : Thread → Thread
finish t = record t { status = Done; levels = [] }

abbrev pub with_status : Status → Thread → Thread
with_status status t = record t { status = status }

-- the levels of a thread changed
abbrev pub on_levels : (List Level → List Level) → Thread → Thread
on_levels f t = record t { levels = f t.levels }

abbrev pub levels_of : Option Thread → List Level
levels_of None = []
levels_of (Some t) = t.levels

-- the block that a script begins with
abbrev pub begins_with : Script → Option ℕ
begins_with End = None
begins_with (Then s rest) = Some (place_of s).block

-- a new thread of a head
abbrev pub fresh : (serial of : ℕ) → Head → Thread
fresh serial of head = new_thread serial of (place_of head.hat).target (hat_block head) (begins_with head.script)

-- threads of levels, as starting and ending see them
abbrev pub frames : Handle Thread
frames = record { of = λ t. t.of; hat = λ t. t.hat; is_done = λ t. is_done t.status; depth = λ t. length t.levels; finish = finish; fresh = fresh }

-- a thread of this instance and hat, and one that is not done
abbrev pub is_of : (of hat : ℕ) → Thread → Bool
is_of of hat t = t.of == of && t.hat == hat

abbrev pub is_alive_of : (of hat : ℕ) → Thread → Bool
is_alive_of of hat t = is_of of hat t && not (is_done t.status)

-- the list as rows see it
abbrev pub listed : Places Thread → List Listed
listed ts = map (λ t. record { serial = t.serial; status = t.status }) ts.list

-- the detached thread is gone
abbrev pub without_detached : Places Thread → Places Thread
without_detached ts = record { list = ts.list; detached = None }

-- threads that are done are gone, and so is the detached one
abbrev pub without_done : Places Thread → Places Thread
without_done ts = record { list = filter (λ t. not (is_done t.status)) ts.list; detached = None }

-- there is no thread
abbrev pub no_threads : Places Thread
no_threads = record { list = []; detached = None }
