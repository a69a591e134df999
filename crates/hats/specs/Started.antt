-- A hat that is started, as the code has it at hand.
use Rattle.std.specs.Prelude.{ℕ, List, [], ◌∷◌, position, Bool, not, ◌&&◌, if◌then◌else◌, Option}
use Rattle.std.specs.List.{list_any}
use Rattle.opcode_table.specs.Kinds.{hat_kind}
use Rattle.machine_spec.specs.Outcome.{Outcome, Goes, then_do}
use Rattle.machine_spec.specs.Places.{Places}
use Rattle.machine_spec.specs.Program.{hat_block}
use Rattle.machine_spec.specs.Script.{place_of, op_of}
use Rattle.machine_spec.specs.Starting.{Pair, Crowd, restarts, placed, appended, joined}
use Rattle.thread_frames.specs.Threads.{Thread, frames, new_thread, begins_with, is_of, is_alive_of}
use Rattle.hats.specs.declared.hat_threads.Hat.{Hat}
use Rattle.hats.specs.declared.hat_threads.Numbers.{Numbers}

-- a hat of an instance, as the machine has it
abbrev pub hat_in : Pair → Hat
hat_in x = record { of = x.of; target = (place_of x.head.hat).target; block = hat_block x.head; first = begins_with x.head.script; restarts = restarts (hat_kind (op_of x.head.hat)) }

-- How it is started; private functions alone cite what follows

-- the threads, the number of the next one, and the numbers of those that were started
abbrev pub crowd_of : Places Thread → Numbers → Crowd Thread
crowd_of ts n = record { threads = ts; next = n.next; serials = n.serials }

-- the thread that a hat gets
abbrev pub new_of : Hat → (serial : ℕ) → Thread
new_of h serial = new_thread serial h.of h.target h.block h.first

-- it takes the slot of the thread of a hat that restarts, where there is one
abbrev pub entered : (running : Option ℕ) → Hat → (serial : ℕ) → Places Thread → Outcome (Places Thread)
entered running h serial ts =
    if h.restarts then placed frames running (position (is_of h.of h.block) ts.list) (new_of h serial) ts
    else appended frames (new_of h serial) ts

-- a hat that does not restart is ignored where a thread of it is not done
abbrev pub is_ignored : Hat → Places Thread → Bool
is_ignored h ts = not h.restarts && list_any (is_alive_of h.of h.block) ts.list

-- one hat in turn
abbrev pub started : (running : Option ℕ) → Hat → Crowd Thread → Outcome (Crowd Thread)
started running h c = if is_ignored h c.threads then Goes c else joined c (entered running h c.next c.threads)

-- hats in turn
abbrev pub started_all : (running : Option ℕ) → List Hat → Crowd Thread → Outcome (Crowd Thread)
started_all running [] c = Goes c
started_all running (h ∷ hs) c = then_do (started running h c) (started_all running hs)
