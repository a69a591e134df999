-- The threads of the machine: what each has still to do.
use Rattle.std.specs.Prelude.{ℕ, ◌+◌, ◌==◌, List, [], ◌∷◌, map, Bool, false, Option, if◌then◌else◌}
use Rattle.machine_spec.specs.Lists.{first_changed}
use Rattle.machine_spec.specs.Outcome.{Outcome, Goes, then_do}
use Rattle.machine_spec.specs.Program.{Program, Head, hat_block}
use Rattle.machine_spec.specs.Threads.{Status, Running, Ticking, Waiting, Done, is_done, Filter, Listed}
use Rattle.machine_spec.specs.Pending.{Item, dos, markers, Report, Go, Uncovered, Yielded, Ticked, Waits, Ended, Position, settle}
use Rattle.machine_spec.specs.Starting.{Handle, Crowd, Pair, starts, start_all, open_levels}
use Rattle.machine_spec.specs.World.{World}

-- a thread: its number, instance, hat block, status, warp flag and pending list
pub record Task : Type 0 where
  pub serial : ℕ
  pub of : ℕ
  pub hat : ℕ
  pub status : Status
  pub warp : Bool
  pub items : List Item

-- one level more than markers; none where it is done
abbrev pub depth : Task → ℕ
depth t = if is_done t.status then 0 else markers t.items + 1

abbrev pub status_after : Report → Status
status_after Go = Running
status_after Uncovered = Running
status_after Yielded = Running
status_after Ticked = Ticking
status_after Waits = Waiting
status_after Ended = Done

-- the thread stands there now
abbrev pub at_position : Position → Task → Task
at_position x t = record t { status = status_after x.report; warp = x.warp; items = x.items }

-- a thread that is done has nothing to do
abbrev pub finish : Task → Task
finish t = record t { status = Done; warp = false; items = [] }

-- a new thread has the script under its hat to do
abbrev pub fresh : (serial of : ℕ) → Head → Task
fresh serial of head = record { serial = serial; of = of; hat = hat_block head; status = Running; warp = false; items = dos head.script }

abbrev pub tasks : Handle Task
tasks = record { of = λ t. t.of; hat = λ t. t.hat; is_done = λ t. is_done t.status; depth = depth; finish = finish; fresh = fresh }

-- the list as rows see it
abbrev pub listed : World Task → List Listed
listed w = map (λ t. record { serial = t.serial; status = t.status }) w.threads.list

abbrev pub levels : World Task → ℕ
levels w = open_levels tasks w.threads

-- the world after hats were started, and the serials of the new threads
pub record Begun : Type 0 where
  pub world : World Task
  pub serials : List ℕ

abbrev pub begun : World Task → Crowd Task → Begun
begun w c = record { world = record w { threads = c.threads; next_thread = c.next }; serials = c.serials }

-- these hats are started in turn, while a slot is visited or none
abbrev pub begin_pairs : (running : Option ℕ) → List Pair → World Task → Outcome Begun
begin_pairs running xs w = then_do (start_all tasks running xs (record { threads = w.threads; next = w.next_thread; serials = [] })) (λ c. Goes (begun w c))

abbrev pub begin : Program → (running : Option ℕ) → Filter → World Task → Outcome Begun
begin p running f w = begin_pairs running (starts p f w.targets) w

-- what stands behind the statement that waited
abbrev pub behind_first : List Item → List Item
behind_first [] = []
behind_first (x ∷ r) = r

-- a promise has ended: the thread goes on behind the statement that waited
abbrev pub resumed_task : Task → Task
resumed_task t = let x = settle (behind_first t.items) t.warp in record t { status = Running; warp = x.warp; items = x.items }

-- where the thread is listed
abbrev pub resumed : ℕ → World Task → World Task
resumed serial w = record w { threads = record { list = first_changed (λ t. t.serial == serial) resumed_task w.threads.list; detached = w.threads.detached } }
