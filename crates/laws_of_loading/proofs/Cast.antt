-- The instances of an accepted saved run are legal.
use Rattle.std.proofs.Common.{◌≡◌, ◌⊎◌, inl, inr, ℕ, zero, suc, ◌+◌, ◌<◌, ◌≤◌, ◌==◌, ◌&&◌, ◌||◌, ℤ, pos, negsuc, int_le, Bool, true, false, cond, not, nat_lt, nat_le, List, [], ◌∷◌, map, filter, length, slice_get, unwrap_or, Option, Some, None, refl, sym, ◌∙◌, subst, arith}
use Rattle.std.specs.Prelude.{IsSomeAnd}
use Rattle.std.specs.Fmt.{char_count}
use Rattle.std.specs.List.{list_all, list_any, range_with_len}
use Rattle.std.specs.Option.{option_map_or}
use Rattle.std.proofs.lemmas.Bool.Decides.{nat_tests}
use Rattle.opcode_table.specs.Kinds.{hat_kind}
use Rattle.scratch_number.specs.declared.number.Num.{Num}
use Rattle.scratch_number.specs.declared.number.Num.TheVariants.{Fixed, Inf, NegInf, Nan}
use Rattle.machine_spec.specs.BubbleText.{most_characters}
use Rattle.machine_spec.specs.declared.effects.Effect.TheVariants.{Brightness, Ghost}
use Rattle.machine_spec.specs.declared.instance.Instance.{Instance}
use Rattle.machine_spec.specs.declared.records.TargetRecord.{TargetRecord}
use Rattle.machine_spec.specs.Effects.{effect_place}
use Rattle.machine_spec.specs.Frame.{is_edge_hat}
use Rattle.machine_spec.specs.Program.{Records, Head, hat_block, scripts_at, record_at, no_target}
use Rattle.machine_spec.specs.Script.{op_of}
use Rattle.machine_spec.specs.Stopping.{most_clones}
use Rattle.machine_spec.specs.Stores.{is_on_stage, record_of, is_original}
use Rattle.laws_of_threads.specs.Instances.{Hosts, Inhabited}
use Rattle.laws_of_threads.specs.Lists.{Each, Member, Differ, Rise}
use Rattle.laws_of_threads.specs.Playable.{IsBetween, IsAsTheStage}
use Rattle.laws_of_threads.specs.Threads.{Holds}
use Rattle.laws_of_threads.proofs.Numbers.{clash, differ_filter, each_map}
use Rattle.laws_of_instances.specs.Instances.{IsClone, IsOriginal, IsEdgeHat, IsInstance, IsLegalCast}
use Rattle.saved_spec.specs.Worlds.{world_told}
use Rattle.project_spec.specs.Basis.{Basis, records_of, is_edge, is_edge_head}
use Rattle.saved_spec.specs.Rules.{is_between, is_sprite, is_clone, is_next, effect_is_between, is_as_the_stage, has_short_texts, differ}
use Rattle.saved_spec.specs.RunShapes.{Told}
use Rattle.laws_of_loading.proofs.Shaped.{IsShaped, IsShapedStanding}
use Rattle.laws_of_loading.proofs.Accepting.{Rules}
use Rattle.laws_of_loading.proofs.Tests.{both, either, all_three, all_five, not_true, below, up_to, equal, all_have, each_mapped, Among, of_each, where_among, passes}
use Rattle.laws_of_loading.proofs.Desk.{words}
use Rattle.laws_of_loading.proofs.Stored.{apart}

-- Lists

-- what stands at a place is within
got_within : {A : Type 0} (xs : List A) (k : ℕ) (x : A) → slice_get xs k ≡ Some x → k < length xs
got_within [] k x h = absurd (cc h)
got_within (y ∷ xs) zero x h = omega arith
got_within (y ∷ xs) (suc k) x h = let less = got_within xs k x h in omega arith

-- of numbers below a bound that differ there are no more than the bound
module _ {A : Type 0} (number : A → ℕ) where
  all_left : (n : ℕ) (xs : List A) → (Member n (map number xs) → ⊥) → length (filter (λ x. not (number x == n)) xs) ≡ length xs
  all_left n [] none = refl
  all_left n (x ∷ xs) none = by_test (number x == n) refl (all_left n xs (λ m. none (inr m)))
    where
      by_test : (c : Bool) → (number x == n) ≡ c → length (filter (λ x. not (number x == n)) xs) ≡ length xs → length (cond (not c) (x ∷ filter (λ x. not (number x == n)) xs) (filter (λ x. not (number x == n)) xs)) ≡ length (x ∷ xs)
      by_test true e rest = absurd (none (inl (equal (number x) n e)))
      by_test false e rest = omega arith

  one_fewer : (n : ℕ) (xs : List A) → Differ (map number xs) → length xs ≤ length (filter (λ x. not (number x == n)) xs) + 1
  one_fewer n [] d = omega arith
  one_fewer n (x ∷ xs) d = by_test (number x == n) refl (one_fewer n xs d.1)
    where
      by_test : (c : Bool) → (number x == n) ≡ c → length xs ≤ length (filter (λ x. not (number x == n)) xs) + 1 → length (x ∷ xs) ≤ length (cond (not c) (x ∷ filter (λ x. not (number x == n)) xs) (filter (λ x. not (number x == n)) xs)) + 1
      by_test true e rest =
          let same = all_left n xs (subst (λ k. Member k (map number xs) → ⊥) (equal (number x) n e) d.0) in
          omega arith
      by_test false e rest = omega arith

  left_below : (n : ℕ) (xs : List A) → Each (λ x. number x < suc n) xs → Each (λ x. number x < n) (filter (λ x. not (number x == n)) xs)
  left_below n [] all = tt
  left_below n (x ∷ xs) all = by_test (number x == n) refl (left_below n xs all.1)
    where
      by_test : (c : Bool) → (number x == n) ≡ c → Each (λ x. number x < n) (filter (λ x. not (number x == n)) xs) → Each (λ x. number x < n) (cond (not c) (x ∷ filter (λ x. not (number x == n)) xs) (filter (λ x. not (number x == n)) xs))
      by_test true e rest = rest
      by_test false e rest = let less = all.0 in (grind (arith, nat_tests, less, e), rest)

  no_more : (n : ℕ) (xs : List A) → Differ (map number xs) → Each (λ x. number x < n) xs → length xs ≤ n
  no_more zero [] d all = omega arith
  no_more zero (x ∷ xs) d all = let less = all.0 in absurd (omega arith)
  no_more (suc n) xs d all =
      let fewer = one_fewer n xs d in
      let rest = no_more n (filter (λ x. not (number x == n)) xs) (differ_filter number (λ x. not (number x == n)) xs d) (left_below n xs all) in
      omega arith

two_parts : {A : Type 0} (test : A → Bool) (xs : List A) → length xs ≡ length (filter test xs) + length (filter (λ x. not (test x)) xs)
two_parts test [] = refl
two_parts test (x ∷ xs) = by_test (test x) (two_parts test xs)
  where
    by_test : (c : Bool) → length xs ≡ length (filter test xs) + length (filter (λ x. not (test x)) xs)
        → length (x ∷ xs) ≡ length (cond c (x ∷ filter test xs) (filter test xs)) + length (cond (not c) (x ∷ filter (λ x. not (test x)) xs) (filter (λ x. not (test x)) xs))
    by_test true e = omega arith
    by_test false e = omega arith

-- a fact of those that pass a test
each_passed : {A : Type 0} (P : A → Type 0) (test : A → Bool) (xs : List A) → Each (λ x. test x ≡ true → P x) xs → Each P (filter test xs)
each_passed P test [] all = tt
each_passed P test (x ∷ xs) all = by_test (test x) refl (each_passed P test xs all.1)
  where
    by_test : (c : Bool) → test x ≡ c → Each P (filter test xs) → Each P (cond c (x ∷ filter test xs) (filter test xs))
    by_test true e rest = (all.0 e, rest)
    by_test false e rest = rest

-- Numbers

between : (low high : ℤ) (n : Num) → is_between low high n ≡ true → IsBetween low high n
between low high (Fixed z) h = both (int_le low z) (int_le z high) h
between low high Inf h = absurd (cc h)
between low high NegInf h = absurd (cc h)
between low high Nan h = absurd (cc h)

some_between : (low high : ℤ) (o : Option Num) → option_map_or (is_between low high) o false ≡ true → IsSomeAnd o (IsBetween low high)
some_between low high (Some n) h = between low high n h
some_between low high None h = absurd (cc h)

as_the_stage : (i : Instance) → is_as_the_stage i ≡ true → IsAsTheStage i.x i.y i.size i.direction i.visible
as_the_stage i h =
    let p = all_five (is_between (pos 0) (pos 0) i.x) (is_between (pos 0) (pos 0) i.y) (is_between (pos 100000000) (pos 100000000) i.size) (is_between (pos 90000000) (pos 90000000) i.direction) i.visible h in
    record {
      x_is = between (pos 0) (pos 0) i.x p.0;
      y_is = between (pos 0) (pos 0) i.y p.1;
      size_is = between (pos 100000000) (pos 100000000) i.size p.2;
      direction_is = between (pos 90000000) (pos 90000000) i.direction p.3;
      visible_is = p.4;
    }

-- Originals and clones

sprite_by : (records : Records) (k : ℕ) (o : Option TargetRecord) → slice_get records.targets k ≡ o → option_map_or (λ r. not r.is_stage) o false ≡ true
    → (k < length records.targets) × ((unwrap_or o no_target).is_stage ≡ false)
sprite_by records k (Some r) e h = (got_within records.targets k r e, not_true r.is_stage h)
sprite_by records k None e h = absurd (cc h)

sprite : (b : Basis) (k : ℕ) → is_sprite b k ≡ true → (k < length b.program.records.targets) × ((record_at k b.program.records).is_stage ≡ false)
sprite b k h = sprite_by b.program.records k (slice_get b.program.records.targets k) refl h

-- a clone's number was given
abbrev Given : Basis → Told → Instance → Type 0
Given b t i = (IsOriginal b.program.records i ⊎ IsClone b.program.records i) × (i.number < t.run.next_instance)

given : (b : Basis) (t : Told) (i : Instance) → length b.program.records.targets ≤ t.run.next_instance
    → (is_original i && nat_lt i.of (length (records_of b).targets) || is_clone b t i) ≡ true → Given b t i
given b t i few h = elim (either (is_original i && nat_lt i.of (length (records_of b).targets)) (is_clone b t i) h) [
  | inl e ↦ original e
  | inr e ↦ clone e
]
  where
    original : (is_original i && nat_lt i.of (length (records_of b).targets)) ≡ true → Given b t i
    original e =
        let p = both (is_original i) (nat_lt i.of (length (records_of b).targets)) e in
        let same = equal i.number i.of p.0 in
        let less = below i.of (length (records_of b).targets) p.1 in
        (inl (same, less), omega arith)

    clone : is_clone b t i ≡ true → Given b t i
    clone e =
        let p = all_three (is_sprite b i.of) (nat_le (length (records_of b).targets) i.number) (nat_lt i.number t.run.next_instance) e in
        let q = sprite b i.of p.0 in
        (inr (q.0, q.1, up_to (length (records_of b).targets) i.number p.1), below i.number t.run.next_instance p.2)

-- Edge hats

record EdgeAmong (block : ℕ) (heads : List Head) : Type 0 where
  head : Head
  held : Holds head heads
  block_is : hat_block head ≡ block
  edge : is_edge_hat (hat_kind (op_of head.hat)) ≡ true

edge_among : (block : ℕ) (heads : List Head) → list_any (is_edge_head block) heads ≡ true → EdgeAmong block heads
edge_among block [] h = absurd (cc h)
edge_among block (x ∷ heads) h = elim (either (is_edge_head block x) (list_any (is_edge_head block) heads) h) [
  | inl e ↦ here e
  | inr e ↦ further (edge_among block heads e)
]
  where
    here : is_edge_head block x ≡ true → EdgeAmong block (x ∷ heads)
    here e =
        let p = both (hat_block x == block) (is_edge_hat (hat_kind (op_of x.hat))) e in
        record { head = x; held = inl refl; block_is = equal (hat_block x) block p.0; edge = p.1 }

    further : EdgeAmong block heads → EdgeAmong block (x ∷ heads)
    further m = record { head = m.head; held = inr m.held; block_is = m.block_is; edge = m.edge }

edge_hat : (b : Basis) (target block : ℕ) → is_edge target block b ≡ true → IsEdgeHat b.program target block
edge_hat b target block h =
    let m = edge_among block (scripts_at target b.program).heads h in
    record { head = m.head; held = m.held; block_is = m.block_is; edge = m.edge }

-- the instance that stands for a target
original_there : (k : ℕ) (is : List Instance) → length (filter (λ i. i.of == k && is_original i) is) ≡ 1 → Hosts k k is
original_there k [] h = absurd (omega (arith, h))
original_there k (i ∷ is) h = by_test (i.of == k && is_original i) refl h (original_there k is)
  where
    by_test : (c : Bool) → (i.of == k && is_original i) ≡ c → length (cond c (i ∷ filter (λ i. i.of == k && is_original i) is) (filter (λ i. i.of == k && is_original i) is)) ≡ 1
        → (length (filter (λ i. i.of == k && is_original i) is) ≡ 1 → Hosts k k is) → Hosts k k (i ∷ is)
    by_test true e n rest =
        let p = both (i.of == k) (is_original i) e in
        inl (equal i.number i.of p.1 ∙ equal i.of k p.0, equal i.of k p.0)
    by_test false e n rest = inr (rest n)

each_number : (P : ℕ → Type 0) (first count n : ℕ) → Each P (range_with_len first count) → first ≤ n → n < first + count → P n
each_number P first zero n all from less = absurd (omega (arith, from, less))
each_number P first (suc count) n all from less = by_test (first == n) refl (each_number P (first + 1) count n all.1)
  where
    by_test : (c : Bool) → (first == n) ≡ c → (first + 1 ≤ n → n < first + 1 + count → P n) → P n
    by_test true e rest = subst P (equal first n e) all.0
    by_test false e rest = rest (grind (arith, nat_tests, e, from)) (omega (arith, less))

hosted_given : (b : Basis) (t : Told) (is : List Instance) → Each (Given b t) is → (n k : ℕ) → Hosts n k is → n < t.run.next_instance
hosted_given b t [] all n k h = absurd h
hosted_given b t (i ∷ is) all n k (inl e) = subst (λ m. m < t.run.next_instance) e.0 all.0.1
hosted_given b t (i ∷ is) all n k (inr h) = hosted_given b t is all.1 n k h

-- of an instance alone: what its shape gives
record Shaped (i : Instance) : Type 0 where
  seven : length i.effects ≡ 7
  rising : Rise (map (λ e. e.0) i.edges)

module _ (b : Basis) (t : Told) (s : IsShaped t) (r : Rules b t) where
  few : length b.program.records.targets ≤ t.run.next_instance
  few =
      up_to (length (records_of b).targets) t.run.next_instance
      (both (is_next t.run.next_thread && is_next t.run.next_instance && is_next t.run.devices.usage) (nat_le (length (records_of b).targets) t.run.next_instance) r.next).1

  all_given : Each (Given b t) t.run.targets
  all_given =
      all_have (λ i. is_original i && nat_lt i.of (length (records_of b).targets) || is_clone b t i) (Given b t) t.run.targets (λ i e. given b t i few e)
      (both _ (differ (map (λ i. i.number) t.run.targets)) r.clones).0

  pub inhabited : Inhabited b.program.records t.run.next_instance t.run.targets
  inhabited = record {
    differ = apart b t s r;
    given = hosted_given b t t.run.targets all_given;
    originals = λ n less. original_there n t.run.targets (each_number (λ k. length (filter (λ i. i.of == k && is_original i) t.run.targets) ≡ 1) 0 (length b.program.records.targets) n
        (all_have (λ k. length (filter (λ i. i.of == k && is_original i) t.run.targets) == 1) (λ k. length (filter (λ i. i.of == k && is_original i) t.run.targets) ≡ 1)
        (range_with_len 0 (length (records_of b).targets)) (λ k e. equal _ 1 e) r.originals) (omega arith) (omega (arith, less)));
  }

  all_shaped : Each Shaped t.run.targets
  all_shaped =
      subst (Each Shaped) (sym s.targets)
      (each_mapped (λ x. x.instance) Shaped s.standings (each_map IsShapedStanding (λ x. Shaped x.instance) s.standings (λ x h. record { seven = h.seven; rising = h.rising }) s.shaped))

  brightness : Instance → Bool
  brightness i = effect_is_between (effect_place Brightness) (negsuc 99999999) (pos 100000000) i

  ghost : Instance → Bool
  ghost i = effect_is_between (effect_place Ghost) (pos 0) (pos 100000000) i

  on_stage : (i : Instance) → (not (is_on_stage i (records_of b)) || is_as_the_stage i) ≡ true → is_on_stage i b.program.records ≡ true → IsAsTheStage i.x i.y i.size i.direction i.visible
  on_stage i h e = elim (either (not (is_on_stage i (records_of b))) (is_as_the_stage i) h) [
    | inl n ↦ absurd (clash (is_on_stage i b.program.records) e (not_true (is_on_stage i b.program.records) n))
    | inr n ↦ as_the_stage i n
  ]

  instance : (i : Instance) → Among i t.run.targets → IsInstance b.program t.run.devices.usage i
  unfolding brightness ghost
  instance i m =
      let shaped = of_each Shaped t.run.targets i all_shaped m in
      let effects = both (brightness i) (ghost i) (passes (λ i. brightness i && ghost i) t.run.targets i r.effects m) in
      record {
        kind = (of_each (Given b t) t.run.targets i all_given m).0;
        costume = below i.costume (length (record_of i b.program.records).costumes) (passes (λ i. nat_lt i.costume (length (record_of i (records_of b)).costumes)) t.run.targets i r.costumes m);
        size = between (pos 0) (pos 10000000000) i.size (passes (λ i. is_between (pos 0) (pos 10000000000) i.size) t.run.targets i r.sizes m);
        direction = between (negsuc 178999999) (pos 180999999) i.direction (passes (λ i. is_between (negsuc 178999999) (pos 180999999) i.direction) t.run.targets i r.directions m);
        effects = record {
          seven = shaped.seven;
          brightness = some_between (negsuc 99999999) (pos 100000000) (slice_get i.effects (effect_place Brightness)) effects.0;
          ghost = some_between (pos 0) (pos 100000000) (slice_get i.effects (effect_place Ghost)) effects.1;
        };
        stage = on_stage i (passes (λ i. not (is_on_stage i (records_of b)) || is_as_the_stage i) t.run.targets i r.in_place m);
        updated = below i.bubble.usage t.run.devices.usage (passes (λ i. nat_lt i.bubble.usage t.run.devices.usage) t.run.targets i r.bubbles m);
        short = up_to (char_count i.bubble.text) most_characters (passes (λ i. nat_le (char_count i.bubble.text) most_characters) t.run.targets i (both _ (list_all has_short_texts t.run.variables.stores) r.little).0 m);
        rising = shaped.rising;
        edges = all_have (λ e. is_edge i.of e.0 b) (λ e. IsEdgeHat b.program i.of e.0) i.edges (λ e h. edge_hat b i.of e.0 h) (passes (λ i. list_all (λ e. is_edge i.of e.0 b) i.edges) t.run.targets i r.edges m);
      }

  -- originals have the numbers of targets, which differ
  of_target : (i : Instance) → Given b t i → is_original i ≡ true → i.number < length b.program.records.targets
  of_target i g e =
      let same : i.number ≡ i.of = equal i.number i.of e in
      elim g.0 [
        | inl o ↦ (let less = o.1 in omega arith)
        | inr c ↦ (let less = c.0 in omega arith)
      ]

  first_on_stage : (o : Option Instance) → option_map_or (λ i. is_on_stage i (records_of b)) o false ≡ true → IsSomeAnd o (λ i. is_on_stage i b.program.records ≡ true)
  first_on_stage (Some i) h = h
  first_on_stage None h = absurd (cc h)

  counted : length t.run.targets ≤ length b.program.records.targets + most_clones
  counted =
      let originals = no_more (λ (i : Instance). i.number) (length b.program.records.targets) (filter is_original t.run.targets) (differ_filter (λ (i : Instance). i.number) is_original t.run.targets (apart b t s r))
      (each_passed (λ i. i.number < length b.program.records.targets) is_original t.run.targets (each_map (Given b t) (λ i. is_original i ≡ true → i.number < length b.program.records.targets) t.run.targets of_target all_given)) in
      let clones = up_to (length (filter (λ i. not (is_original i)) t.run.targets)) 300 r.few in
      let parts = two_parts is_original t.run.targets in
      omega arith

  pub cast : IsLegalCast b.program t.run.seed (world_told b t)
  cast = record {
    stage = first_on_stage (slice_get t.run.targets 0) r.stage;
    each = where_among (IsInstance b.program t.run.devices.usage) t.run.targets instance;
    few = counted;
    words = words b t s r;
  }
