-- A legal world: what the world of a run is between two lines.
use Rattle.std.specs.Prelude.{◌≡◌, ◌≤◌, false, map, None}
use Rattle.machine_spec.specs.Outcome.{most_levels}
use Rattle.machine_spec.specs.Program.{Program}
use Rattle.machine_spec.specs.Tasks.{Task, levels}
use Rattle.machine_spec.specs.Threads.{is_done}
use Rattle.machine_spec.specs.World.{World}
use Rattle.laws_of_threads.specs.Lists.{Each}
use Rattle.laws_of_threads.specs.Instances.{Inhabited}
use Rattle.laws_of_threads.specs.Promises.{Serials, askers, speakers, AskersLive, SpeakersLive}
use Rattle.laws_of_threads.specs.Threads.{IsThread}

-- all but the threads: numbers of instances and serials were given before, no thread is named twice by questions, nor by
-- timers, and their instances are live
pub record IsSound (p : Program) (w : World Task) : Type 0 where
  pub inhabited : Inhabited p.records w.next_instance w.targets
  pub asking : Serials w.next_thread (askers w.devices)
  pub speaking : Serials w.next_thread (speakers w.devices)
  pub askers_live : AskersLive w.targets w.devices
  pub speakers_live : SpeakersLive w.targets w.devices

-- a thread of this world is legal, and not done
pub record IsLegalThread (p : Program) (w : World Task) (t : Task) : Type 0 where
  pub alive : is_done t.status ≡ false
  pub thread : IsThread p w.targets w.devices.clock w.next_thread (askers w.devices) (speakers w.devices) t

-- every listed thread is legal, their serials differ and were given before, none is detached, and no more than the most
-- levels are open
pub record IsLegalWorld (p : Program) (w : World Task) : Type 0 where
  pub sound : IsSound p w
  pub threads : Each (IsLegalThread p w) w.threads.list
  pub serials : Serials w.next_thread (map (λ t. t.serial) w.threads.list)
  pub none_detached : w.threads.detached ≡ None
  pub few : levels w ≤ most_levels
