-- The instances of a legal world.
use Rattle.std.specs.Prelude.{map, ◌≡◌, ℕ, ◌<◌, List, [], ◌∷◌, length, ◌⊎◌}
use Rattle.machine_spec.specs.declared.instance.Instance.{Instance}
use Rattle.machine_spec.specs.Program.{Records}
use Rattle.laws_of_threads.specs.Lists.{Differ}

-- an instance of this number and this target is live
abbrev pub Hosts : (n target : ℕ) → List Instance → Type 0
Hosts n k [] = ⊥
Hosts n k (i ∷ is) = ((i.number ≡ n) × (i.of ≡ k)) ⊎ Hosts n k is

-- no two instances have one number; each was given before; the originals are live
pub record Inhabited (records : Records) (next : ℕ) (is : List Instance) : Type 0 where
  pub differ : Differ (map (λ i. i.number) is)
  pub given : (n k : ℕ) → Hosts n k is → n < next
  pub originals : (n : ℕ) → n < length records.targets → Hosts n n is
