-- A world during a frame.
use Rattle.std.specs.Prelude.{◌≡◌, ◌≤◌, ℕ, false, List, ◌∷◌, map, IfSome, Option, Some, None}
use Rattle.machine_spec.specs.Legal.{waits_for_promise}
use Rattle.machine_spec.specs.Places.{Places, running}
use Rattle.machine_spec.specs.Outcome.{most_levels}
use Rattle.machine_spec.specs.Program.{Program}
use Rattle.machine_spec.specs.Tasks.{Task, levels}
use Rattle.machine_spec.specs.World.{World}
use Rattle.laws_of_threads.specs.Lists.{Each}
use Rattle.laws_of_threads.specs.Promises.{Serials, askers, speakers}
use Rattle.laws_of_threads.specs.Threads.{Stays}
use Rattle.laws_of_threads.specs.Worlds.{IsSound}

-- the serials of all threads, that of the detached one first
abbrev pub with_some : Option Task → List ℕ → List ℕ
with_some None ns = ns
with_some (Some t) ns = t.serial ∷ ns

abbrev pub all_serials : Places Task → List ℕ
all_serials ts = with_some ts.detached (map (λ t. t.serial) ts.list)

-- a thread is done and has nothing to do, or is legal; the detached thread too, as if it were listed
abbrev pub IsAtWork : Program → World Task → Task → Type 0
IsAtWork p w t = Stays p w.targets w.devices.clock w.next_thread (askers w.devices) (speakers w.devices) t

-- serials differ and were given before, and no more than the most levels are open
pub record IsLegalInFrame (p : Program) (w : World Task) : Type 0 where
  pub sound : IsSound p w
  pub listed : Each (IsAtWork p w) w.threads.list
  pub detached : IfSome w.threads.detached (IsAtWork p w)
  pub serials : Serials w.next_thread (all_serials w.threads)
  pub few : levels w ≤ most_levels

-- the thread that runs while this slot is visited waits for no promise
abbrev pub MayRun : ℕ → World Task → Type 0
MayRun i w = (t : Task) → running i w.threads ≡ Some t → waits_for_promise t.items ≡ false
