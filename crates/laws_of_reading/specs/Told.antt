-- What a run has that can be told: beside what types say, what stands in order and what is in the range of the format.
use Rattle.std.specs.Prelude.{◌≡◌, ◌≤◌, true, false, List, Some, map, unsigned_abs}
use Rattle.std.specs.List.{All}
use Rattle.machine_spec.specs.declared.instance.Instance.{Instance}
use Rattle.machine_spec.specs.declared.threads.Context.{Context}
use Rattle.machine_spec.specs.declared.threads.Context.TheVariants.{Repeat}
use Rattle.machine_spec.specs.declared.threads.Count.TheVariants.{Whole}
use Rattle.machine_spec.specs.declared.variables.Store.{Store}
use Rattle.machine_spec.specs.Line.{key_name}
use Rattle.machine_spec.specs.Pending.{Item, Held, Again}
use Rattle.machine_spec.specs.ScriptText.{key_of_rest}
use Rattle.machine_spec.specs.Stores.{store_at}
use Rattle.machine_spec.specs.Tasks.{Task}
use Rattle.machine_spec.specs.Threads.{is_done, most_turns}
use Rattle.saved_spec.specs.Ranges.{IsRun, IsTask}
use Rattle.saved_spec.specs.Saved.{Snapshot}
use Rattle.saved_spec.specs.InstanceShapes.{rises}
use Rattle.saved_spec.specs.RunShapes.{is_digest, stores_in_order}

-- the store that is told of an instance
abbrev pub store_told : List Store → Instance → Store
store_told stores i = record { of = i.number; values = (store_at i.number stores).values; lists = (store_at i.number stores).lists }

-- the turns that a loop has left are in the range of the format
abbrev pub HasFewTurns : Context → Type 0
HasFewTurns (Repeat (Whole turns)) = unsigned_abs turns ≤ most_turns
HasFewTurns c = Unit {0}

abbrev pub KeepsFewTurns : Item → Type 0
KeepsFewTurns (Held s c) = HasFewTurns c
KeepsFewTurns (Again s c warp) = HasFewTurns c
KeepsFewTurns x = Unit {0}

-- a thread that is not done
pub record IsTold (t : Task) : Type 0 where
  pub alive : is_done t.status ≡ false
  pub turns : All KeepsFewTurns t.items

pub record CanBeTold (s : Snapshot Task) : Type 0 where
  pub ranges : IsRun IsTask s
  pub project : is_digest s.project ≡ true
  pub keys : All (λ k. key_of_rest (key_name k) ≡ Some k) s.devices.keys
  pub edges : All (λ i. rises (map (λ e. e.0) i.edges) ≡ true) s.targets
  pub stores : stores_in_order (map (store_told s.variables.stores) s.targets) ≡ s.variables.stores
  pub threads : All IsTold s.threads
