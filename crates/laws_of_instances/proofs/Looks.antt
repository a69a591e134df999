-- What the looks, the place, the bubble and the edge values of a legal instance may become.
use Rattle.std.proofs.Common.{◌≡◌, ℕ, zero, suc, ◌<◌, ◌==◌, Bool, true, false, if◌then◌else◌, List, [], ◌∷◌, map, length, Some, refl, sym, ap, ◌∙◌, subst, arith}
use Rattle.std.specs.Prelude.{slice_get, slice_set, slice_index_or, pos, negsuc, ℤ, IsSomeAnd, position, bytes_eq, nat_lt}
use Rattle.std.proofs.Math.ListN.{length-set}
use Rattle.std.proofs.lemmas.Bool.Decides.{nat_tests}
use Rattle.std.proofs.lemmas.List.Quantifiers.{position-Some}
use Rattle.scratch_number.specs.declared.number.Num.{Num}
use Rattle.scratch_number.specs.Arithmetic.{add}
use Rattle.scratch_values.specs.Casts.{zero_number}
use Rattle.scratch_values.specs.Folding.{folded}
use Rattle.machine_spec.specs.declared.bubble.Bubble.{Bubble}
use Rattle.machine_spec.specs.declared.instance.Instance.{Instance}
use Rattle.machine_spec.specs.declared.instance.Style.{Style}
use Rattle.machine_spec.specs.BubbleText.{IsShort, cut, most_characters}
use Rattle.machine_spec.specs.Effects.{effect_names, no_effects}
use Rattle.machine_spec.specs.Frame.{with_edge}
use Rattle.machine_spec.specs.Looks.{effect_named, effect_kept, size_kept}
use Rattle.machine_spec.specs.Program.{Program}
use Rattle.machine_spec.specs.Stores.{is_on_stage, record_of}
use Rattle.machine_spec.proofs.Bubbles.{char_count-nil, char_count-take_chars}
use Rattle.laws_of_threads.specs.Lists.{Each, Rise, RiseAbove}
use Rattle.laws_of_threads.specs.Playable.{IsBetween, IsSize, IsDirection}
use Rattle.laws_of_threads.proofs.Numbers.{clash, equal}
use Rattle.laws_of_instances.specs.Instances.{HasEffects, IsEdgeHat, IsInstance}
use Rattle.laws_of_instances.proofs.Bounds.{IsNumber, sum_number, kept_between}

module _ (p : Program) (usage : ℕ) (i : Instance) (h : IsInstance p usage i) where
  -- a place and a direction, not on the stage
  pub placed : (x y d : Num) → is_on_stage i p.records ≡ false → IsDirection d → IsInstance p usage (record i { x = x; y = y; direction = d })
  placed x y d e g = record {
    kind = h.kind;
    costume = h.costume;
    size = h.size;
    direction = g;
    effects = h.effects;
    stage = λ t. absurd (clash (is_on_stage i p.records) t e);
    updated = h.updated;
    short = h.short;
    rising = h.rising;
    edges = h.edges;
  }

  pub styled : (s : Style) → IsInstance p usage (record i { style = s })
  styled s = record { kind = h.kind; costume = h.costume; size = h.size; direction = h.direction; effects = h.effects; stage = h.stage; updated = h.updated; short = h.short; rising = h.rising; edges = h.edges }

  pub sized : (s : Num) → is_on_stage i p.records ≡ false → IsSize s → IsInstance p usage (record i { size = s })
  sized s e g = record {
    kind = h.kind;
    costume = h.costume;
    size = g;
    direction = h.direction;
    effects = h.effects;
    stage = λ t. absurd (clash (is_on_stage i p.records) t e);
    updated = h.updated;
    short = h.short;
    rising = h.rising;
    edges = h.edges;
  }

  pub seen : (v : Bool) → is_on_stage i p.records ≡ false → IsInstance p usage (record i { visible = v })
  seen v e = record {
    kind = h.kind;
    costume = h.costume;
    size = h.size;
    direction = h.direction;
    effects = h.effects;
    stage = λ t. absurd (clash (is_on_stage i p.records) t e);
    updated = h.updated;
    short = h.short;
    rising = h.rising;
    edges = h.edges;
  }

  pub dressed : (k : ℕ) → k < length (record_of i p.records).costumes → IsInstance p usage (record i { costume = k })
  dressed k g = record { kind = h.kind; costume = g; size = h.size; direction = h.direction; effects = h.effects; stage = h.stage; updated = h.updated; short = h.short; rising = h.rising; edges = h.edges }

  pub coloured : (es : List Num) → HasEffects es → IsInstance p usage (record i { effects = es })
  coloured es g = record { kind = h.kind; costume = h.costume; size = h.size; direction = h.direction; effects = g; stage = h.stage; updated = h.updated; short = h.short; rising = h.rising; edges = h.edges }

  pub said : (b : Bubble) → b.usage < usage → IsShort b.text → IsInstance p usage (record i { bubble = b })
  said b g k = record { kind = h.kind; costume = h.costume; size = h.size; direction = h.direction; effects = h.effects; stage = h.stage; updated = g; short = k; rising = h.rising; edges = h.edges }

  pub edged : (es : List (ℕ × Bool)) → Rise (map (λ e. e.0) es) → Each (λ e. IsEdgeHat p i.of e.0) es → IsInstance p usage (record i { edges = es })
  edged es g k = record { kind = h.kind; costume = h.costume; size = h.size; direction = h.direction; effects = h.effects; stage = h.stage; updated = h.updated; short = h.short; rising = g; edges = k }

-- Sizes

pub size_fits : (n : Num) → IsNumber n → IsSize (size_kept n)
size_fits n h = kept_between (pos 0) (pos 10000000000) n refl h

-- Texts of bubbles

pub none_short : IsShort []
none_short = rw char_count-nil (omega arith)

pub cut_short : (t : List ℕ) → IsShort (cut t)
cut_short t = char_count-take_chars most_characters t

-- Effects

pub none_set : HasEffects no_effects
none_set = record { seven = refl; brightness = (refl, refl); ghost = (refl, refl) }

named_by : (t : List ℕ) (k : ℕ) → position (bytes_eq t) effect_names ≡ Some k → k < 7
named_by t k e = (position-Some (bytes_eq t) effect_names k [] e).0

pub effect_below : (t : List ℕ) (k : ℕ) → effect_named t ≡ Some k → k < 7
effect_below t k e = named_by (folded t) k e

-- what is put at one place of a list
got_same : {A : Type 0} (P : A → Type 0) (xs : List A) (k : ℕ) (y : A) → k < length xs → P y → IsSomeAnd (slice_get (slice_set xs k y) k) P
got_same P [] k y b h = absurd (omega (arith, b))
got_same P (x ∷ xs) zero y b h = h
got_same P (x ∷ xs) (suc k) y b h = got_same P xs k y (omega (arith, b)) h

got_other : {A : Type 0} (xs : List A) (k j : ℕ) (y : A) → (k ≡ j → ⊥) → slice_get (slice_set xs k y) j ≡ slice_get xs j
got_other [] k j y n = refl
got_other (x ∷ xs) zero zero y n = absurd (n refl)
got_other (x ∷ xs) zero (suc j) y n = refl
got_other (x ∷ xs) (suc k) zero y n = refl
got_other (x ∷ xs) (suc k) (suc j) y n = got_other xs k j y (λ e. n (ap suc e))

got_by : {A : Type 0} (P : A → Type 0) (xs : List A) (k j : ℕ) (y : A) (c : Bool) → (k == j) ≡ c → j < length xs → (k ≡ j → P y) → IsSomeAnd (slice_get xs j) P → IsSomeAnd (slice_get (slice_set xs k y) j) P
got_by P xs k j y true e b g h = let s = equal k j e in subst (λ m. IsSomeAnd (slice_get (slice_set xs m y) j) P) (sym s) (got_same P xs j y b (g s))
got_by P xs k j y false e b g h = subst (λ o. IsSomeAnd o P) (sym (got_other xs k j y (grind (arith, nat_tests)))) h

pub got_set : {A : Type 0} (P : A → Type 0) (xs : List A) (k j : ℕ) (y : A) → j < length xs → (k ≡ j → P y) → IsSomeAnd (slice_get xs j) P → IsSomeAnd (slice_get (slice_set xs k y) j) P
got_set P xs k j y b g h = got_by P xs k j y (k == j) refl b g h

-- where the effect is kept in bounds, its number is one
pub record IsKeepable (k : ℕ) (n : Num) : Type 0 where
  pub brightness : k ≡ 5 → IsNumber n
  pub ghost : k ≡ 6 → IsNumber n

pub effect_fits : (es : List Num) (k : ℕ) (n : Num) → IsKeepable k n → HasEffects es → HasEffects (slice_set es k (effect_kept k n))
effect_fits es k n g h = record {
  seven = length-set es k (effect_kept k n) ∙ h.seven;
  brightness = got_set (IsBetween (negsuc 99999999) (pos 100000000)) es k 5 (effect_kept k n) (let s = h.seven in omega (arith, s))
      (λ e. subst (λ m. IsBetween (negsuc 99999999) (pos 100000000) (effect_kept m n)) (sym e) (kept_between (negsuc 99999999) (pos 100000000) n refl (g.brightness e))) h.brightness;
  ghost = got_set (IsBetween (pos 0) (pos 100000000)) es k 6 (effect_kept k n) (let s = h.seven in omega (arith, s))
      (λ e. subst (λ m. IsBetween (pos 0) (pos 100000000) (effect_kept m n)) (sym e) (kept_between (pos 0) (pos 100000000) n refl (g.ghost e))) h.ghost;
}

-- a number that is added to an effect
got_sum : (es : List Num) (k : ℕ) (n : Num) (low high : ℤ) → IsNumber n → IsSomeAnd (slice_get es k) (IsBetween low high) → IsNumber (add (slice_index_or es k zero_number) n)
got_sum [] k n low high g h = absurd h
got_sum (e ∷ es) zero n low high g h = sum_number low high e n h g
got_sum (e ∷ es) (suc k) n low high g h = got_sum es k n low high g h

pub added_keepable : (es : List Num) (k : ℕ) (n : Num) → IsNumber n → HasEffects es → IsKeepable k (add (slice_index_or es k zero_number) n)
added_keepable es k n g h = record {
  brightness = λ e. subst (λ m. IsNumber (add (slice_index_or es m zero_number) n)) (sym e) (got_sum es 5 n (negsuc 99999999) (pos 100000000) g h.brightness);
  ghost = λ e. subst (λ m. IsNumber (add (slice_index_or es m zero_number) n)) (sym e) (got_sum es 6 n (pos 0) (pos 100000000) g h.ghost);
}

pub set_keepable : (k : ℕ) (n : Num) → IsNumber n → IsKeepable k n
set_keepable k n h = record { brightness = λ e. h; ghost = λ e. h }

-- Edge values

module _ (block : ℕ) (v : Bool) where
  above_by : (c d : Bool) (n : ℕ) (x : ℕ × Bool) (xs : List (ℕ × Bool)) → (x.0 == block) ≡ c → nat_lt block x.0 ≡ d → n < block → RiseAbove n (map (λ e. e.0) (x ∷ xs)) → (x.0 < block → RiseAbove x.0 (map (λ e. e.0) (with_edge block v xs)))
      → RiseAbove n (map (λ e. e.0) (if c then (block, v) ∷ xs else (if d then (block, v) ∷ x ∷ xs else x ∷ with_edge block v xs)))
  above_by true d n x xs e f b h g = (b, subst (λ m. RiseAbove m (map (λ e. e.0) xs)) (equal x.0 block e) h.1)
  above_by false true n x xs e f b h g = (b, (grind (arith, nat_tests), h.1))
  above_by false false n x xs e f b h g = (h.0, g (grind (arith, nat_tests)))

  rise_above : (n : ℕ) (xs : List (ℕ × Bool)) → n < block → RiseAbove n (map (λ e. e.0) xs) → RiseAbove n (map (λ e. e.0) (with_edge block v xs))
  rise_above n [] b h = (b, tt)
  rise_above n (x ∷ xs) b h = above_by (x.0 == block) (nat_lt block x.0) n x xs refl refl b h (λ a. rise_above x.0 xs a h.1)

  rise_by : (c d : Bool) (x : ℕ × Bool) (xs : List (ℕ × Bool)) → (x.0 == block) ≡ c → nat_lt block x.0 ≡ d → Rise (map (λ e. e.0) (x ∷ xs))
      → Rise (map (λ e. e.0) (if c then (block, v) ∷ xs else (if d then (block, v) ∷ x ∷ xs else x ∷ with_edge block v xs)))
  rise_by true d x xs e f h = subst (λ m. RiseAbove m (map (λ e. e.0) xs)) (equal x.0 block e) h
  rise_by false true x xs e f h = (grind (arith, nat_tests), h)
  rise_by false false x xs e f h = rise_above x.0 xs (grind (arith, nat_tests)) h

  pub noted_rise : (xs : List (ℕ × Bool)) → Rise (map (λ e. e.0) xs) → Rise (map (λ e. e.0) (with_edge block v xs))
  noted_rise [] h = tt
  noted_rise (x ∷ xs) h = rise_by (x.0 == block) (nat_lt block x.0) x xs refl refl h

  each_by : (P : ℕ → Type 0) (c d : Bool) (x : ℕ × Bool) (xs : List (ℕ × Bool)) → P block → Each (λ e. P e.0) (x ∷ xs) → Each (λ e. P e.0) (with_edge block v xs)
      → Each (λ e. P e.0) (if c then (block, v) ∷ xs else (if d then (block, v) ∷ x ∷ xs else x ∷ with_edge block v xs))
  each_by P true d x xs b h g = (b, h.1)
  each_by P false true x xs b h g = (b, h)
  each_by P false false x xs b h g = (h.0, g)

  pub noted_each : (P : ℕ → Type 0) (xs : List (ℕ × Bool)) → P block → Each (λ e. P e.0) xs → Each (λ e. P e.0) (with_edge block v xs)
  noted_each P [] b h = (b, tt)
  noted_each P (x ∷ xs) b h = each_by P (x.0 == block) (nat_lt block x.0) x xs b h (noted_each P xs b h.1)
