-- The first world has its numbers within the limit.
use Rattle.std.proofs.Common.{ℕ, List, [], ◌∷◌}
use Rattle.std.specs.Prelude.{◌||◌}
use Rattle.std.specs.List.{enumerate_from}
use Rattle.machine_spec.specs.declared.records.TargetRecord.{TargetRecord}
use Rattle.machine_spec.specs.Program.{Program}
use Rattle.machine_spec.specs.Stores.{less}
use Rattle.machine_spec.specs.Words.{Words}
use Rattle.machine_spec.specs.First.{original, layered, in_order, store, first_world}
use Rattle.laws_of_threads.specs.Lists.{Each}
use Rattle.laws_of_turns.specs.Within.{IsValueWithin, IsInstanceWithin, IsStoreWithin, IsTargetWithin, IsProgramWithin, IsWorldWithin}
use Rattle.laws_of_turns.proofs.Lists.{if_has, each_over, each_numbered}

abbrev IsNumberedWithin : ℕ × TargetRecord → Type 0
IsNumberedWithin t = IsTargetWithin t.1

abbrev AreNumberedWithin : List (ℕ × TargetRecord) → Type 0
AreNumberedWithin ts = Each IsNumberedWithin ts

layered_within : (t : ℕ × TargetRecord) (ts : List (ℕ × TargetRecord)) → IsNumberedWithin t → AreNumberedWithin ts → AreNumberedWithin (layered t ts)
layered_within t [] g h = (g, tt)
layered_within t (x ∷ xs) g h = if_has AreNumberedWithin t.1.is_stage (t ∷ x ∷ xs) _ (g, h)
    (if_has AreNumberedWithin (x.1.is_stage || less x.1.layer_order t.1.layer_order) (x ∷ layered t xs) (t ∷ x ∷ xs) (h.0, layered_within t xs g h.1) (g, h))

ordered_within : (ts : List (ℕ × TargetRecord)) → AreNumberedWithin ts → AreNumberedWithin (in_order ts)
ordered_within [] h = tt
ordered_within (t ∷ ts) h = layered_within t (in_order ts) h.0 (ordered_within ts h.1)

original_within : (t : ℕ × TargetRecord) → IsNumberedWithin t → IsInstanceWithin (original t.0 t.1)
original_within t h = record { x = h.x; y = h.y; direction = h.direction; size = h.size }

store_within : (t : ℕ × TargetRecord) → IsNumberedWithin t → IsStoreWithin (store t.0 t.1)
store_within t h = record {
  values = each_over (λ v. IsValueWithin v.value) IsValueWithin (λ v. v.value) t.1.variables (λ v k. k) h.variables;
  lists = each_over (λ l. Each IsValueWithin l.items) (Each IsValueWithin) (λ l. l.items) t.1.lists (λ l k. k) h.lists;
}

pub first_within : (p : Program) (words : Words) → IsProgramWithin p → IsWorldWithin (first_world p words)
first_within p words h =
    let n = each_numbered IsTargetWithin 0 p.records.targets h.targets in
    record {
      instances = each_over IsNumberedWithin IsInstanceWithin (λ t. original t.0 t.1) (in_order (enumerate_from 0 p.records.targets)) original_within (ordered_within (enumerate_from 0 p.records.targets) n);
      stores = each_over IsNumberedWithin IsStoreWithin (λ t. store t.0 t.1) (enumerate_from 0 p.records.targets) store_within n;
      listed = tt;
      detached = tt;
    }
