-- Hats are started: their threads are legal, and the running thread goes on.
use Rattle.std.proofs.Common.{◌≡◌, ℕ, List, [], Option, refl, arith}
use Rattle.std.specs.Prelude.{◌<◌}
use Rattle.machine_spec.specs.declared.threads.Filter.{Filter}
use Rattle.machine_spec.specs.Outcome.{IfGoes}
use Rattle.machine_spec.specs.Program.{Program, Head}
use Rattle.machine_spec.specs.Starting.{Pair, Crowd, starts, start_all}
use Rattle.machine_spec.specs.Tasks.{Task, tasks, fresh, Begun, begun, begin_pairs, begin}
use Rattle.machine_spec.specs.World.{World}
use Rattle.laws_of_threads.specs.Lists.{Each}
use Rattle.laws_of_threads.specs.Promises.{askers, speakers}
use Rattle.laws_of_threads.specs.Threads.{IsThread}
use Rattle.laws_of_threads.proofs.Numbers.{each_map}
use Rattle.laws_of_threads.proofs.RowFits.{goes_then}
use Rattle.laws_of_threads.proofs.Pairs.{PairFits, fresh_thread, starts_fit}
use Rattle.laws_of_threads.proofs.Starts.{Stand, Joins, Fresh, all_stand}

module _ (p : Program) (q : Option ℕ) (t : Task) (P : Task → Type 0) (w : World Task) where
  pub record Began (b : Begun) : Type 0 where
    pub c : Crowd Task
    pub is : b ≡ begun w c
    pub joins : Joins P q t w.next_thread c

  pub pairs_began : (xs : List Pair) → Each (PairFits p w.targets) xs → ((n of : ℕ) (head : Head) → IsThread p w.targets w.devices.clock w.next_thread (askers w.devices) (speakers w.devices) (fresh n of head) → P (fresh n of head))
      → Each (λ n. n < w.next_thread) (askers w.devices) → Each (λ n. n < w.next_thread) (speakers w.devices) → Stand P q t w.next_thread w.threads → IfGoes (begin_pairs q xs w) Began
  pairs_began xs fit into a s st =
      let c : Crowd Task = record { threads = w.threads; next = w.next_thread; serials = [] } in
      goes_then (start_all tasks q xs c) _ (Joins P q t w.next_thread) Began
      (all_stand P q t w.next_thread xs c
      (each_map (PairFits p w.targets) (Fresh P q t w.next_thread) xs (λ x f n le. into n x.of x.head (fresh_thread p w.targets w.devices.clock w.next_thread (askers w.devices) (speakers w.devices) x f a s n le)) fit)
      (record { stand = st; grown = omega arith; serials = tt }))
      (λ d h. record { c = d; is = refl; joins = h })

  pub hats_began : (f : Filter) → ((n of : ℕ) (head : Head) → IsThread p w.targets w.devices.clock w.next_thread (askers w.devices) (speakers w.devices) (fresh n of head) → P (fresh n of head))
      → Each (λ n. n < w.next_thread) (askers w.devices) → Each (λ n. n < w.next_thread) (speakers w.devices) → Stand P q t w.next_thread w.threads → IfGoes (begin p q f w) Began
  hats_began f into a s st = pairs_began (starts p f w.targets) (starts_fit p w.targets f) into a s st
