-- A slice of executions, a visit of a thread, and a pass over the thread list (after scratch-vm, engine/sequencer.js,
-- stepThread and stepThreads, with counted time in place of clock time).
use Rattle.std.specs.Prelude.{ℕ, zero, suc, ◌+◌, ◌||◌, ◌&&◌, nat_lt, Bool, true, false, not, List, [], ◌∷◌, drop, filter, Option, Some, None, if◌then◌else◌}
use Rattle.machine_spec.specs.Outcome.{Outcome, Goes, then_do}
use Rattle.machine_spec.specs.Program.{Program}
use Rattle.machine_spec.specs.Threads.{Status, Running, Ticking, Waiting, Done, is_running, is_done}
use Rattle.machine_spec.specs.Pending.{Item, Report, Go, Uncovered, Yielded, Ticked, Waits, Ended, gone}
use Rattle.machine_spec.specs.Places.{Slot, running, on_place}
use Rattle.machine_spec.specs.Tasks.{Task}
use Rattle.machine_spec.specs.World.{World}
use Rattle.machine_spec.specs.Step.{Moment, moved, step}

-- goes on with the rest or not
abbrev pub go_on : {W A : Type 0} → Bool → (W → Outcome A) → (W → Outcome A) → W → Outcome A
go_on true rest last w = rest w
go_on false rest last w = last w

-- Slices, whatever a world and its execution are

-- warp time has passed where more executions than the warp budget were counted
abbrev pub is_late : (budget counted : ℕ) → Bool
is_late budget counted = nat_lt budget counted

-- executions are counted from the first at a true warp flag, that one included
abbrev pub counted_after : (counted : ℕ) → (flag : Bool) → ℕ
counted_after m flag = if nat_lt 0 m || flag then m + 1 else m

-- whether a slice goes on behind an execution, by its report and by the flags before and after it: behind a yield where
-- the flag before it was true, at an uncovered loop where the restored flag is true, both while warp time has not passed
abbrev pub slice_goes_on : Report → (before after late : Bool) → Bool
slice_goes_on Go before after late = true
slice_goes_on Uncovered before after late = after && not late
slice_goes_on Yielded before after late = before && not late
slice_goes_on Ticked before after late = false
slice_goes_on Waits before after late = false
slice_goes_on Ended before after late = false

-- an execution, given whether warp time has passed before it, and the warp flag of the running thread
pub record Executing (W : Type 0) : Type 0 where
  pub execute : (late : Bool) → W → Outcome (Moment W)
  pub flag : W → Bool

abbrev pub behind : {W : Type 0} → Executing W → (budget counted : ℕ) → (before : Bool) → (W → Outcome W) → Moment W → Outcome W
behind e budget m before rest x = go_on (slice_goes_on x.report before (e.flag x.world) (is_late budget m)) rest (λ w. Goes w) x.world

-- at most n executions, of which m were counted before
unfoldable pub slice_by : {W : Type 0} → Executing W → (budget n m : ℕ) → W → Outcome W
slice_by e budget zero m w = Goes w
slice_by e budget (suc n) m w =
    then_do (e.execute (is_late budget m) w)
    (behind e budget (counted_after m (e.flag w)) (e.flag w) (slice_by e budget n (counted_after m (e.flag w))))

-- The slice of a thread

abbrev pub flag_of : Option Task → Bool
flag_of None = false
flag_of (Some t) = t.warp

-- the running thread while slot i is visited
abbrev pub executing : Program → (i : ℕ) → Executing (World Task)
executing p i = record { execute = step p i; flag = λ w. flag_of (running i w.threads) }

abbrev pub slice : Program → (budget i n m : ℕ) → World Task → Outcome (World Task)
slice p budget i n m w = slice_by (executing p i) budget n m w

-- the most executions of a slice
abbrev pub most_executions : ℕ
most_executions = 1000000

-- a thread with nothing to do is done, with no execution
abbrev pub turn_of : Program → (budget i : ℕ) → List Item → World Task → Outcome (World Task)
turn_of p budget i [] w = Goes (moved i gone w).world
turn_of p budget i (x ∷ r) w = slice p budget i most_executions 0 w

abbrev pub turn_by : Program → (budget i : ℕ) → Option Task → World Task → Outcome (World Task)
turn_by p budget i None w = Goes w
turn_by p budget i (Some t) w = turn_of p budget i t.items w

-- the running thread has its turn
abbrev pub turn : Program → (budget i : ℕ) → World Task → Outcome (World Task)
turn p budget i w = turn_by p budget i (running i w.threads) w

-- A pass

-- the thread of a slot is running
abbrev pub woken : ℕ → World Task → World Task
woken i w = record w { threads = on_place (λ t. record t { status = Running }) (Slot i) w.threads }

abbrev pub without_detached : World Task → World Task
without_detached w = record w { threads = record { list = w.threads.list; detached = None } }

abbrev pub is_active : Option Task → Bool
is_active None = false
is_active (Some t) = is_running t.status

-- the world, and whether a thread was active
pub record Passed : Type 0 where
  pub world : World Task
  pub active : Bool

-- a slice for the thread of this slot; it is active where it is running afterwards, in its slot or detached, and a detached
-- thread is gone then
abbrev pub visit : Program → (budget i : ℕ) → World Task → Outcome Passed
visit p budget i w =
    then_do (turn p budget i (woken i w)) (λ v. Goes (record { world = without_detached v; active = is_active (running i v.threads) }))

-- in the first pass of a frame a thread that ticks gets a slice too
abbrev pub gets_slice : (first : Bool) → Status → Bool
gets_slice first Running = true
gets_slice first Ticking = first
gets_slice first Waiting = false
gets_slice first Done = false

-- the first place from n on whose thread gets a slice
abbrev pub next_place : (first : Bool) → ℕ → List Task → Option ℕ
next_place first n [] = None
next_place first n (t ∷ ts) = if gets_slice first t.status then Some n else next_place first (suc n) ts

abbrev pub pass_on : Program → (budget : ℕ) → Option ℕ → World Task → Bool → (ℕ → World Task → Bool → Outcome Passed) → Outcome Passed
pass_on p budget None w active rest = Goes (record { world = w; active = active })
pass_on p budget (Some j) w active rest = then_do (visit p budget j w) (λ x. rest (suc j) x.world (active || x.active))

-- at most n slices from place i on, by the list as it is then
unfoldable pub pass : Program → (first : Bool) → (budget n i : ℕ) → World Task → Bool → Outcome Passed
pass p first budget zero i w active = Goes (record { world = w; active = active })
pass p first budget (suc n) i w active = pass_on p budget (next_place first i (drop i w.threads.list)) w active (pass p first budget n)

-- the most slices of a pass
abbrev pub most_slices : ℕ
most_slices = 65536

-- at the end of a pass threads that are done are gone
abbrev pub without_done : World Task → World Task
without_done w = record w { threads = record { list = filter (λ t. not (is_done t.status)) w.threads.list; detached = None } }
