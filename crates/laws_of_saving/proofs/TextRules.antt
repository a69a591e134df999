-- The texts of instances and their variables are short in a legal world.
use Rattle.std.proofs.Common.{◌≡◌, ℕ, inl, inr, true, List, [], ◌∷◌, map, refl, ap, ◌∙◌, subst}
use Rattle.std.specs.Prelude.{nat_le}
use Rattle.std.specs.Fmt.{char_count}
use Rattle.std.specs.List.{All, list_all}
use Rattle.scratch_values.specs.declared.value.Value.{Value}
use Rattle.scratch_values.specs.declared.value.Value.TheVariants.{Number, Truth, Text}
use Rattle.machine_spec.specs.BubbleText.{most_characters}
use Rattle.machine_spec.specs.declared.instance.Instance.{Instance}
use Rattle.machine_spec.specs.declared.variables.Store.{Store}
use Rattle.machine_spec.specs.Stores.{store_at}
use Rattle.machine_spec.specs.Tasks.{Task}
use Rattle.machine_spec.specs.World.{World}
use Rattle.laws_of_threads.specs.Lists.{Each, Member}
use Rattle.laws_of_instances.specs.Instances.{IsInstance}
use Rattle.saved_spec.specs.Ranges.{IsValue, IsStanding, IsRun, IsTask}
use Rattle.saved_spec.specs.Saved.{snapshot}
use Rattle.project_spec.specs.Basis.{Basis}
use Rattle.saved_spec.specs.Legal.{told}
use Rattle.saved_spec.specs.Rules.{is_short, has_short_texts, instances_say_little}
use Rattle.laws_of_worlds.specs.Runs.{IsLegalRun}
use Rattle.laws_of_saving.proofs.Stores.{Own, numbers, each_own}
use Rattle.laws_of_saving.proofs.Tests.{both_true, least_true, each_of, each_both, all_true}

pub value_short : (v : Value) → IsValue v → is_short v ≡ true
value_short (Number n) h = refl
value_short (Truth b) h = refl
value_short (Text t) h = least_true _ _ h.1

pub values_short : (vs : List Value) → All IsValue vs → list_all is_short vs ≡ true
values_short vs h = all_true IsValue is_short vs value_short (each_of IsValue vs h)

lists_short : (ls : List (List Value)) → All (All IsValue) ls → list_all (list_all is_short) ls ≡ true
lists_short ls h = all_true (All IsValue) (list_all is_short) ls values_short (each_of (All IsValue) ls h)

-- an instance of a number, with its fact
record Numbered (P : Instance → Type 0) (n : ℕ) : Type 0 where
  it : Instance
  has : P it
  number : it.number ≡ n

numbered : (P : Instance → Type 0) (n : ℕ) (is : List Instance) → Each P is → Member n (map (λ i. i.number) is) → Numbered P n
numbered P n [] h m = absurd m
numbered P n (i ∷ is) h (inl e) = record { it = i; has = h.0; number = e }
numbered P n (i ∷ is) h (inr m) = numbered P n is h.1 m

each_member : (ss : List Store) → Each (λ s. Member s.of (numbers ss)) ss
each_member ss = each_in ss ss (λ n m. m)
  where
    each_in : (xs all : List Store) → ((n : ℕ) → Member n (numbers xs) → Member n (numbers all)) → Each (λ s. Member s.of (numbers all)) xs
    each_in [] all f = tt
    each_in (x ∷ xs) all f = (f x.of (inl refl), each_in xs all (λ n m. f n (inr m)))

module _ (b : Basis) (seed : ℕ) (digest : List ℕ) (w : World Task) (h : IsLegalRun b.program seed w) (ranges : IsRun IsTask (snapshot digest seed w)) where
  abbrev stores : List Store
  stores = w.variables.stores

  store_short : (s : Store) → Own stores s × Member s.of (numbers stores) → has_short_texts s ≡ true
  store_short s k =
      let i = numbered (IsStanding stores) s.of w.targets (each_of (IsStanding stores) w.targets ranges.targets) ((h.variables.same s.of).0 k.1) in
      let e : store_at i.it.number stores ≡ s = ap (λ n. store_at n stores) i.number ∙ k.0 in
      subst (λ x. has_short_texts x ≡ true) e (both_true _ _ (values_short (store_at i.it.number stores).values i.has.its_values) (lists_short (store_at i.it.number stores).lists i.has.its_lists))

  pub instances_little : instances_say_little (told (snapshot digest seed w)) ≡ true
  instances_little = both_true _ _
      (all_true (IsInstance b.program w.devices.usage) (λ i. nat_le (char_count i.bubble.text) most_characters) w.targets (λ i k. least_true _ _ k.short) h.instances.each)
      (all_true (λ s. Own stores s × Member s.of (numbers stores)) has_short_texts stores store_short
      (each_both (Own stores) (λ s. Member s.of (numbers stores)) stores (each_own stores h.variables.rising) (each_member stores)))
