-- Legal instances of a world, without its words.
use Rattle.std.proofs.Common.{◌≡◌, ℕ, ◌+◌, ◌≤◌, ◌==◌, true, List, length, Some, sym, ap, ◌∙◌, subst, arith}
use Rattle.std.specs.Prelude.{unwrap_or}
use Rattle.machine_spec.specs.declared.instance.Instance.{Instance}
use Rattle.machine_spec.specs.Program.{Program}
use Rattle.machine_spec.specs.Stopping.{most_clones}
use Rattle.machine_spec.specs.Stores.{no_instance, live, instance_at, on_instance, is_on_stage}
use Rattle.machine_spec.specs.Tasks.{Task}
use Rattle.machine_spec.specs.World.{World}
use Rattle.laws_of_threads.specs.Lists.{Each}
use Rattle.laws_of_threads.proofs.Numbers.{each_map}
use Rattle.laws_of_threads.proofs.Faces.{Alike}
use Rattle.laws_of_words.specs.Words.{IsOfSeed}
use Rattle.laws_of_instances.specs.Instances.{IsInstance, IsLegalCast}
use Rattle.laws_of_instances.proofs.Changes.{Heads, each_changed, head_changed, length_changed}

-- the stage is first, and clones are few
pub record IsCast (p : Program) (usage : ℕ) (is : List Instance) : Type 0 where
  pub stage : Heads (λ i. is_on_stage i p.records ≡ true) is
  pub each : Each (IsInstance p usage) is
  pub few : length is ≤ length p.records.targets + most_clones

pub cast_of : (p : Program) (seed : ℕ) (w : World Task) → IsLegalCast p seed w → IsCast p w.devices.usage w.targets
cast_of p seed w h = record { stage = h.stage; each = h.each; few = h.few }

pub legal_of : (p : Program) (seed : ℕ) (w : World Task) → IsCast p w.devices.usage w.targets → IsOfSeed seed w.words → IsLegalCast p seed w
legal_of p seed w h g = record { stage = h.stage; each = h.each; few = h.few; words = g }

-- an update of a bubble takes a number
pub later : (p : Program) (m n : ℕ) (i : Instance) → m ≤ n → IsInstance p m i → IsInstance p n i
later p m n i le h = record {
  kind = h.kind;
  costume = h.costume;
  size = h.size;
  direction = h.direction;
  effects = h.effects;
  stage = h.stage;
  updated = (let u = h.updated in omega (arith, u));
  short = h.short;
  rising = h.rising;
  edges = h.edges;
}

pub cast_later : (p : Program) (m n : ℕ) (is : List Instance) → m ≤ n → IsCast p m is → IsCast p n is
cast_later p m n is le h = record { stage = h.stage; each = each_map (IsInstance p m) (IsInstance p n) is (λ i g. later p m n i le g) h.each; few = h.few }

-- an instance of a number that is found is the one of that number
pub found_at : (n : ℕ) (is : List Instance) (x : Instance) → live n is ≡ Some x → instance_at n is ≡ x
found_at n is x e = ap (λ o. unwrap_or o no_instance) e

-- an instance changed
pub cast_changed : (p : Program) (usage n : ℕ) (f : Instance → Instance) (is : List Instance) → ((i : Instance) → Alike i (f i)) → ((i : Instance) → live n is ≡ Some i → IsInstance p usage i → IsInstance p usage (f i))
    → IsCast p usage is → IsCast p usage (on_instance n f is)
cast_changed p usage n f is alike keeps h = record {
  stage = head_changed (λ i. is_on_stage i p.records ≡ true) f (λ i e. ap (λ k. is_on_stage (record i { of = k }) p.records) (alike i).of ∙ e) (λ i. i.number == n) is h.stage;
  each = each_changed (IsInstance p usage) f (λ i. i.number == n) is keeps h.each;
  few = subst (λ l. l ≤ length p.records.targets + most_clones) (sym (length_changed f (λ i. i.number == n) is)) h.few;
}
