-- The rules on instances hold of a legal world.
use Rattle.std.proofs.Common.{◌≡◌, ℕ, zero, suc, ◌<◌, ◌≤◌, ◌==◌, ◌⊎◌, inl, inr, true, false, not, ◌&&◌, ◌||◌, List, [], ◌∷◌, map, length, filter, Option, Some, None, refl, sym, subst, arith}
use Rattle.std.specs.Prelude.{nat_lt, nat_le, ℤ, pos, negsuc, slice_get, unwrap_or, IsSomeAnd}
use Rattle.std.specs.List.{list_any}
use Rattle.std.specs.Option.{option_map_or}
use Rattle.scratch_number.specs.declared.number.Num.{Num}
use Rattle.scratch_number.specs.declared.number.Num.TheVariants.{Fixed, Inf, NegInf, Nan}
use Rattle.machine_spec.specs.declared.effects.Effect.TheVariants.{Brightness, Ghost}
use Rattle.machine_spec.specs.declared.instance.Instance.{Instance}
use Rattle.machine_spec.specs.declared.records.TargetRecord.{TargetRecord}
use Rattle.machine_spec.specs.DataRows.{most_items}
use Rattle.machine_spec.specs.Effects.{effect_place}
use Rattle.machine_spec.specs.Program.{Head, scripts_at, no_target}
use Rattle.machine_spec.specs.Stores.{is_original, is_on_stage, store_at}
use Rattle.machine_spec.specs.Tasks.{Task}
use Rattle.machine_spec.specs.World.{World}
use Rattle.laws_of_threads.specs.Instances.{Hosts}
use Rattle.laws_of_threads.specs.Lists.{Each}
use Rattle.laws_of_threads.specs.Playable.{IsBetween, IsAsTheStage}
use Rattle.laws_of_threads.specs.Threads.{Holds}
use Rattle.laws_of_threads.proofs.Numbers.{equal_true}
use Rattle.laws_of_instances.specs.Instances.{IsInstance, IsOriginal, IsClone, IsEdgeHat}
use Rattle.laws_of_variables.specs.Variables.{IsStoreOf}
use Rattle.saved_spec.specs.Saved.{snapshot}
use Rattle.project_spec.specs.Basis.{Basis, records_of, is_edge, is_edge_head}
use Rattle.saved_spec.specs.Legal.{told}
use Rattle.saved_spec.specs.RunShapes.{Told}
use Rattle.saved_spec.specs.Rules as rules
use Rattle.laws_of_worlds.specs.Runs.{IsLegalRun}
use Rattle.laws_of_saving.proofs.Counting.{one_original, clones_few}
use Rattle.laws_of_saving.proofs.Tests.{both_true, left_true, right_true, not_true, unless_true, less_true, least_true, same_true, each_both, all_true, all_below_true, differ_true, some_true}

between : (low high : ℤ) (n : Num) → IsBetween low high n → rules.is_between low high n ≡ true
between low high (Fixed z) h = both_true _ _ h.0 h.1
between low high Inf h = absurd h
between low high NegInf h = absurd h
between low high Nan h = absurd h

effect_between : (low high : ℤ) (o : Option Num) → IsSomeAnd o (IsBetween low high) → option_map_or (rules.is_between low high) o false ≡ true
effect_between low high None h = absurd h
effect_between low high (Some n) h = between low high n h

as_the_stage : (i : Instance) → IsAsTheStage i.x i.y i.size i.direction i.visible → rules.is_as_the_stage i ≡ true
as_the_stage i h = both_true _ _ (both_true _ _ (both_true _ _ (both_true _ _ (between (pos 0) (pos 0) i.x h.x_is) (between (pos 0) (pos 0) i.y h.y_is)) (between (pos 100000000) (pos 100000000) i.size h.size_is)) (between (pos 90000000) (pos 90000000) i.direction h.direction_is)) h.visible_is

sprite_by : (ts : List TargetRecord) (k : ℕ) → k < length ts → (unwrap_or (slice_get ts k) no_target).is_stage ≡ false → option_map_or (λ r. not r.is_stage) (slice_get ts k) false ≡ true
sprite_by [] k l e = absurd (omega arith)
sprite_by (t ∷ ts) zero l e = not_true t.is_stage e
sprite_by (t ∷ ts) (suc k) l e = sprite_by ts k (omega arith) e

member_true : (b : Basis) (next : ℕ) (i : Instance) → i.number < next → IsOriginal (records_of b) i ⊎ IsClone (records_of b) i
    → (is_original i && nat_lt i.of (length (records_of b).targets) || (rules.is_sprite b i.of && nat_le (length (records_of b).targets) i.number && nat_lt i.number next)) ≡ true
member_true b next i given (inl h) = left_true _ _ (both_true _ _ (equal_true i.number i.of h.0) (less_true _ _ h.1))
member_true b next i given (inr h) =
    right_true (is_original i && nat_lt i.of (length (records_of b).targets)) _ (both_true _ _ (both_true _ _ (sprite_by (records_of b).targets i.of h.0 h.1) (least_true _ _ h.2)) (less_true _ _ given))

hosts_each : (is js : List Instance) → ((n k : ℕ) → Hosts n k is → Hosts n k js) → Each (λ i. Hosts i.number i.of js) is
hosts_each [] js f = tt
hosts_each (i ∷ is) js f = (f i.number i.of (inl (refl, refl)), hosts_each is js (λ n k h. f n k (inr h)))

edge_by : (block : ℕ) (h : Head) (hs : List Head) → is_edge_head block h ≡ true → Holds h hs → list_any (is_edge_head block) hs ≡ true
edge_by block h [] e m = absurd m
edge_by block h (x ∷ xs) e (inl same) = left_true _ _ (subst (λ y. is_edge_head block y ≡ true) (sym same) e)
edge_by block h (x ∷ xs) e (inr m) = right_true (is_edge_head block x) _ (edge_by block h xs e m)

edge_is : (b : Basis) (target block : ℕ) → IsEdgeHat b.program target block → is_edge target block b ≡ true
edge_is b target block h = edge_by block h.head (scripts_at target b.program).heads (both_true _ _ (equal_true _ _ h.block_is) h.edge) h.held

-- The rules

module _ (b : Basis) (seed : ℕ) (digest : List ℕ) (w : World Task) (h : IsLegalRun b.program seed w) where
  abbrev tells : Told
  tells = told (snapshot digest seed w)

  abbrev Legal : Instance → Type 0
  Legal = IsInstance b.program w.devices.usage

  pub stage_first : rules.stage_is_first b tells ≡ true
  stage_first = some_true (λ i. is_on_stage i (records_of b)) (slice_get w.targets 0) h.instances.stage

  pub originals_there : rules.originals_are_there b tells ≡ true
  originals_there = all_below_true (λ k. length (filter (λ i. i.of == k && is_original i) w.targets) == 1) 0 (length (records_of b).targets)
      (λ k f l. same_true _ _ (one_original k w.targets h.threads.sound.inhabited.differ (h.threads.sound.inhabited.originals k (omega arith))))

  pub clones_sprites : rules.clones_are_sprites b tells ≡ true
  clones_sprites = both_true _ _
      (all_true (λ i. Hosts i.number i.of w.targets × Legal i) _ w.targets
      (λ i k. member_true b w.next_instance i (h.threads.sound.inhabited.given i.number i.of k.0) k.1.kind)
      (each_both _ Legal w.targets (hosts_each w.targets w.targets (λ n k g. g)) h.instances.each))
      (differ_true (map (λ i. i.number) w.targets) h.threads.sound.inhabited.differ)

  pub clones_number : rules.clones_are_few tells ≡ true
  clones_number = least_true _ _ (clones_few (length (records_of b).targets) 300 w.targets h.threads.sound.inhabited.originals h.instances.few)

  pub costumes_there : rules.costumes_are_there b tells ≡ true
  costumes_there = all_true Legal _ w.targets (λ i k. less_true _ _ k.costume) h.instances.each

  pub sizes_in_range : rules.sizes_are_in_range tells ≡ true
  sizes_in_range = all_true Legal _ w.targets (λ i k. between (pos 0) (pos 10000000000) i.size k.size) h.instances.each

  pub directions_in_range : rules.directions_are_in_range tells ≡ true
  directions_in_range = all_true Legal _ w.targets (λ i k. between (negsuc 178999999) (pos 180999999) i.direction k.direction) h.instances.each

  pub effects_in_range : rules.effects_are_in_range tells ≡ true
  effects_in_range = all_true Legal _ w.targets
      (λ i k. both_true _ _ (effect_between (negsuc 99999999) (pos 100000000) (slice_get i.effects (effect_place Brightness)) k.effects.brightness) (effect_between (pos 0) (pos 100000000) (slice_get i.effects (effect_place Ghost)) k.effects.ghost)) h.instances.each

  pub stage_in_place : rules.stage_is_in_place b tells ≡ true
  stage_in_place = all_true Legal _ w.targets (λ i k. unless_true (is_on_stage i (records_of b)) _ (λ e. as_the_stage i (k.stage e))) h.instances.each

  pub variables_there : rules.variables_are_there b tells ≡ true
  variables_there = all_true (λ i. IsStoreOf (records_of b) i (store_at i.number w.variables.stores)) _ w.targets (λ i k. both_true _ _ (same_true _ _ k.values) (same_true _ _ k.lists)) h.variables.stores

  pub lists_short : rules.lists_are_short tells ≡ true
  lists_short = all_true (λ s. Each (λ items. length items ≤ most_items) s.lists) _ w.variables.stores
      (λ s k. all_true (λ items. length items ≤ most_items) _ s.lists (λ items l. least_true _ _ l) k) h.variables.short

  pub bubbles_updated : rules.bubbles_were_updated tells ≡ true
  bubbles_updated = all_true Legal _ w.targets (λ i k. less_true _ _ k.updated) h.instances.each

  pub edges_hats : rules.edges_are_hats b tells ≡ true
  edges_hats = all_true Legal _ w.targets (λ i k. all_true (λ e. IsEdgeHat b.program i.of e.0) _ i.edges (λ e l. edge_is b i.of e.0 l) k.edges) h.instances.each
