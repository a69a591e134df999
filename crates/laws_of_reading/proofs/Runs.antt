-- Runs are read as they were written.
use Rattle.std.proofs.Common.{◌≡◌, ℕ, List, [], ◌∷◌, map, filter_map, true, Some, Ok, codes, refl, ap}
use Rattle.std.proofs.lemmas.List.Elements.{All-head, All-tail}
use Rattle.std.specs.Fmt.{decimal}
use Rattle.std.specs.List.{All}
use Rattle.serde_json.specs.Data.{string, boolean}
use Rattle.machine_spec.specs.declared.devices.BubbleTimer.{BubbleTimer}
use Rattle.machine_spec.specs.declared.devices.Key.{Key}
use Rattle.machine_spec.specs.declared.instance.Instance.{Instance}
use Rattle.machine_spec.specs.declared.variables.Made.{Made}
use Rattle.machine_spec.specs.declared.variables.Shown.{Shown}
use Rattle.machine_spec.specs.declared.variables.Shown.TheVariants.{Variable, List as Items}
use Rattle.machine_spec.specs.declared.variables.Store.{Store}
use Rattle.machine_spec.specs.Line.{key_name}
use Rattle.machine_spec.specs.ScriptText.{key_of_rest}
use Rattle.machine_spec.specs.Stores.{Devices, store_at}
use Rattle.machine_spec.specs.Tasks.{Task}
use Rattle.saved_spec.specs.Devices as devices
use Rattle.saved_spec.specs.Instances as instances
use Rattle.saved_spec.specs.Monitors as monitors
use Rattle.saved_spec.specs.Ranges.{IsStanding, IsTimer, AreDevices}
use Rattle.saved_spec.specs.Saved.{Snapshot, saved}
use Rattle.saved_spec.specs.InstanceShapes as instance_shapes
use Rattle.saved_spec.specs.Kept as kept
use Rattle.saved_spec.specs.Legal.{told}
use Rattle.saved_spec.specs.RunShapes as shapes
use Rattle.saved_spec.specs.Shapes.{text, truth}
use Rattle.saved_spec.specs.ThreadShapes as thread_shapes
use Rattle.laws_of_reading.specs.Told.{store_told, CanBeTold}
use Rattle.laws_of_reading.proofs.Instances.{instance_read}
use Rattle.laws_of_reading.proofs.Parts.{signed_read, num_read, each_read, each_same}
use Rattle.laws_of_reading.proofs.Threads.{IsSavedThread, thread_read, all_told}

timer_read : (at : List (List ℕ)) (t : BubbleTimer) → IsTimer t → shapes.timer at (devices.timer t) ≡ Ok t
timer_read at t h = rw (num_read (decimal 0 ∷ at) t.due h.due) refl

made_read : (at : List (List ℕ)) (m : Made) → shapes.made at (monitors.made m) ≡ Ok m
made_read at m = of_what m.what
  where
    of_what : (w : Shown) → shapes.made at (monitors.made (record m { what = w })) ≡ Ok (record m { what = w })
    of_what (Variable target index) = refl
    of_what (Items target index) = refl

mouse_read : (at : List (List ℕ)) (d : Devices) → AreDevices d → shapes.mouse at (devices.mouse d) ≡ Ok (record { x = d.mouse_x; y = d.mouse_y; down = d.button })
mouse_read at d h = rw (signed_read (decimal 0 ∷ at) d.mouse_x h.mouse_x, signed_read (decimal 1 ∷ at) d.mouse_y h.mouse_y) refl

digest_read : (at : List (List ℕ)) (t : List ℕ) → shapes.is_digest t ≡ true → shapes.digest at (string t) ≡ Ok t
digest_read at t h = rw h refl

keys_are : (ks : List Key) → All (λ k. key_of_rest (key_name k) ≡ Some k) ks → filter_map key_of_rest (map key_name ks) ≡ ks
keys_are [] h = refl
keys_are (k ∷ ks) h =
    let one : key_of_rest (key_name k) ≡ Some k = All-head (λ k. key_of_rest (key_name k) ≡ Some k) k ks h in
    rw (one, keys_are ks (All-tail (λ k. key_of_rest (key_name k) ≡ Some k) k ks h)) refl

-- an instance that can be told, with its store
standing : List Store → Instance → instance_shapes.Standing
standing stores i = record { instance = i; store = store_told stores i }

CanStand : List Store → Instance → Type 0
CanStand stores i = IsStanding stores i × (instance_shapes.rises (map (λ e. e.0) i.edges) ≡ true)

standing_read : (stores : List Store) (at : List (List ℕ)) (i : Instance) → CanStand stores i → instance_shapes.instance at (instances.instance stores i) ≡ Ok (standing stores i)
unfolding standing CanStand
standing_read stores at i h = instance_read at i (store_at i.number stores).values (store_at i.number stores).lists h.0 h.1

instances_told : (stores : List Store) (is : List Instance) → map (λ s. s.instance) (map (standing stores) is) ≡ is
unfolding standing
instances_told stores [] = refl
instances_told stores (i ∷ is) = ap (λ more. i ∷ more) (instances_told stores is)

stores_told : (stores : List Store) (is : List Instance) → map (λ s. s.store) (map (standing stores) is) ≡ map (store_told stores) is
unfolding standing
stores_told stores [] = refl
stores_told stores (i ∷ is) = ap (λ more. store_told stores i ∷ more) (stores_told stores is)

pub run_read : (s : Snapshot Task) → CanBeTold s → shapes.run [] (saved kept.thread (told s).run) ≡ Ok (told s)
unfolding saved CanStand
run_read s h =
    rw (
      each_read instance_shapes.instance (instances.instance s.variables.stores) (standing s.variables.stores) (CanStand s.variables.stores) (standing_read s.variables.stores)
          (codes "instances" ∷ []) s.targets (λ k d lt. (h.ranges.targets k d lt, h.edges k d lt)),
      each_read text devices.key key_name (λ _. Unit {0}) (λ at k _. refl) (codes "keys" ∷ []) s.devices.keys (λ k d lt. tt),
      each_same shapes.made monitors.made (λ _. Unit {0}) (λ at m _. made_read at m) (codes "made" ∷ []) s.variables.made (λ k d lt. tt),
      each_same truth boolean (λ _. Unit {0}) (λ at b _. refl) (codes "monitors" ∷ []) s.variables.file_monitors (λ k d lt. tt),
      mouse_read (codes "mouse" ∷ []) s.devices h.ranges.devices,
      digest_read (codes "project" ∷ []) s.project h.project,
      each_same shapes.question devices.question (λ _. Unit {0}) (λ at q _. refl) (codes "questions" ∷ []) s.devices.questions (λ k d lt. tt),
      each_same thread_shapes.thread kept.thread IsSavedThread thread_read (codes "threads" ∷ []) (map kept.thread_told s.threads) (all_told s.threads h.ranges.threads h.threads),
      each_same shapes.timer devices.timer IsTimer timer_read (codes "timers" ∷ []) s.devices.timers h.ranges.devices.timers,
      instances_told s.variables.stores s.targets,
      stores_told s.variables.stores s.targets,
      h.stores,
      keys_are s.devices.keys h.keys,
    )
    refl
