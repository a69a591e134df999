-- A legal world can be told.
use Rattle.std.proofs.Common.{◌≡◌, ℕ, true, List, [], ◌∷◌, map, Some, refl}
use Rattle.machine_spec.specs.declared.threads.Context.{Context}
use Rattle.machine_spec.specs.declared.threads.Context.TheVariants.{Fresh, Repeat, Wait, Glide, Started, Asked, Spoken, Called}
use Rattle.machine_spec.specs.declared.threads.Count.TheVariants.{Whole, Infinite}
use Rattle.machine_spec.specs.Line.{key_name}
use Rattle.machine_spec.specs.Pending.{Item, Do, Held, Returned, Branch, Again, Back}
use Rattle.machine_spec.specs.ScriptText.{key_of_rest}
use Rattle.machine_spec.specs.Tasks.{Task}
use Rattle.machine_spec.specs.World.{World}
use Rattle.laws_of_threads.specs.Lists.{RiseAbove, Rise}
use Rattle.laws_of_threads.specs.Worlds.{IsLegalThread}
use Rattle.laws_of_threads.proofs.Numbers.{each_map}
use Rattle.laws_of_instances.specs.Instances.{IsInstance}
use Rattle.laws_of_turns.specs.Within.{IsContextWithin, IsItemWithin, IsTaskWithin}
use Rattle.saved_spec.specs.Ranges.{IsRun, IsTask}
use Rattle.saved_spec.specs.Saved.{snapshot}
use Rattle.project_spec.specs.Basis.{Basis}
use Rattle.saved_spec.specs.InstanceShapes.{rises_above, rises}
use Rattle.laws_of_reading.specs.Told.{HasFewTurns, KeepsFewTurns, IsTold, CanBeTold}
use Rattle.laws_of_worlds.specs.Runs.{IsLegalRun}
use Rattle.laws_of_saving.specs.Good.{IsDigest}
use Rattle.laws_of_saving.proofs.Digests.{digest_written}
use Rattle.laws_of_saving.proofs.Stores.{in_order}
use Rattle.laws_of_saving.proofs.Tests.{both_true, less_true, all_of, each_both}

-- numbers rise

above_true : (n : ℕ) (ns : List ℕ) → RiseAbove n ns → rises_above n ns ≡ true
above_true n [] h = refl
above_true n (m ∷ ms) h = both_true _ _ (less_true n m h.0) (above_true m ms h.1)

rise_true : (ns : List ℕ) → Rise ns → rises ns ≡ true
rise_true [] h = refl
rise_true (n ∷ ns) h = above_true n ns h

-- turns are few

context_few : (c : Context) → IsContextWithin c → HasFewTurns c
context_few (Repeat (Whole turns)) h = h
context_few (Repeat Infinite) h = tt
context_few Fresh h = tt
context_few (Wait state) h = tt
context_few (Glide state) h = tt
context_few (Started serials) h = tt
context_few Asked h = tt
context_few Spoken h = tt
context_few Called h = tt

item_few : (x : Item) → IsItemWithin x → KeepsFewTurns x
item_few (Held s c) h = context_few c h
item_few (Again s c warp) h = context_few c h
item_few (Do s) h = tt
item_few (Returned s params) h = tt
item_few (Branch s warp) h = tt
item_few (Back s params warp) h = tt

pub can_be_told : (b : Basis) (seed : ℕ) (digest : List ℕ) (w : World Task) → IsDigest digest → IsLegalRun b.program seed w → IsRun IsTask (snapshot digest seed w) → CanBeTold (snapshot digest seed w)
can_be_told b seed digest w is h ranges = record {
  ranges = ranges;
  project = digest_written digest is;
  keys = all_of (λ k. key_of_rest (key_name k) ≡ Some k) w.devices.keys h.devices.devices.keys;
  edges = all_of (λ i. rises (map (λ e. e.0) i.edges) ≡ true) w.targets
      (each_map (IsInstance b.program w.devices.usage) (λ i. rises (map (λ e. e.0) i.edges) ≡ true) w.targets (λ i k. rise_true (map (λ e. e.0) i.edges) k.rising) h.instances.each);
  stores = in_order w.variables.stores w.targets h.threads.sound.inhabited.differ h.variables.rising h.variables.same;
  threads = all_of IsTold w.threads.list
      (each_map (λ t. IsLegalThread b.program w t × IsTaskWithin t) IsTold w.threads.list
      (λ t k. record { alive = k.0.alive; turns = all_of KeepsFewTurns t.items (each_map IsItemWithin KeepsFewTurns t.items item_few k.1) })
      (each_both (IsLegalThread b.program w) IsTaskWithin w.threads.list h.threads.threads h.numbers.listed));
}
