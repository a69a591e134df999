-- Instances that are gone, new or renewed: the others stay legal, and the stage stays first.
use Rattle.std.proofs.Common.{◌≡◌, ℕ, zero, suc, ◌+◌, ◌<◌, ◌≤◌, ◌==◌, Bool, true, false, not, ◌||◌, cond, if◌then◌else◌, List, [], ◌∷◌, ◌++◌, map, filter, length, Option, Some, None, inl, inr, ◌⊎◌, refl, sym, ap, ◌∙◌, subst, arith}
use Rattle.std.specs.Prelude.{slice_get, find, position, nat_lt}
use Rattle.std.specs.List.{position_or_len}
use Rattle.std.proofs.lemmas.List.Folds.{find_at}
use Rattle.std.proofs.lemmas.List.Quantifiers.{position-Some}
use Rattle.std.proofs.lemmas.Bool.Decides.{Decides-ltb}
use Rattle.machine_spec.specs.declared.instance.Instance.{Instance}
use Rattle.machine_spec.specs.Effects.{no_effects}
use Rattle.machine_spec.specs.Frame.{with_edge}
use Rattle.machine_spec.specs.Line.{without_edges}
use Rattle.machine_spec.specs.Lists.{removed_at, first_removed}
use Rattle.machine_spec.specs.Program.{Program, Records, hat_block}
use Rattle.machine_spec.specs.Starting.{Pair}
use Rattle.machine_spec.specs.Stopping.{is_clone, cleared, most_clones, copied, inserted_behind, placed_behind}
use Rattle.machine_spec.specs.Stores.{live, instance_at, is_on_stage}
use Rattle.laws_of_threads.specs.Instances.{Hosts, Inhabited}
use Rattle.laws_of_threads.specs.Lists.{Each}
use Rattle.laws_of_threads.proofs.Disposing.{clone_not, original_not}
use Rattle.laws_of_threads.proofs.Faces.{found, hosts_right}
use Rattle.laws_of_threads.proofs.Numbers.{clash, each_append, each_filter, equal, equal_true}
use Rattle.laws_of_instances.specs.Instances.{IsOriginal, IsClone, IsEdgeHat, IsInstance}
use Rattle.laws_of_instances.proofs.Casts.{IsCast, found_at}
use Rattle.laws_of_instances.proofs.Changes.{Heads, each_found, each_removed, head_map, length_map, each_mapped, length_filter}
use Rattle.laws_of_instances.proofs.Layers.{length_remove}
use Rattle.laws_of_instances.proofs.Looks.{said, coloured, edged, none_set, none_short, noted_rise, noted_each}

-- The first of a list stays where another is taken out

module _ {A : Type 0} (P : A → Type 0) where
  head_removed_by : (test : A → Bool) (x : A) (xs : List A) (o : Option ℕ) → position test (x ∷ xs) ≡ o → (test x ≡ true → ⊥) → P x → Heads P (removed_at o (x ∷ xs))
  head_removed_by test x xs None e n h = h
  head_removed_by test x xs (Some zero) e n h = absurd (n (position-Some test (x ∷ xs) zero x e).1)
  head_removed_by test x xs (Some (suc k)) e n h = h

  head_removed : (test : A → Bool) (xs : List A) → ((x : A) → P x → test x ≡ true → ⊥) → Heads P xs → Heads P (first_removed test xs)
  head_removed test [] n h = absurd h
  head_removed test (x ∷ xs) n h = head_removed_by test x xs (position test (x ∷ xs)) refl (n x h) h

  head_filter_by : (c : Bool) (x : A) (ys : List A) → c ≡ true → P x → Heads P (cond c (x ∷ ys) ys)
  head_filter_by true x ys e h = h
  head_filter_by false x ys e h = absurd (cc e)

  head_filter : (test : A → Bool) (xs : List A) → ((x : A) → P x → test x ≡ true) → Heads P xs → Heads P (filter test xs)
  head_filter test [] g h = absurd h
  head_filter test (x ∷ xs) g h = head_filter_by (test x) x (filter test xs) (g x h) h

  head_append : (xs ys : List A) → Heads P xs → Heads P (xs ++ ys)
  head_append [] ys h = absurd h
  head_append (x ∷ xs) ys h = h

  pub heads_both : (Q : A → Type 0) (xs : List A) → Heads P xs → Each Q xs → Heads (λ x. P x × Q x) xs
  heads_both Q [] h g = absurd h
  heads_both Q (x ∷ xs) h g = (h, g.0)

  heads_weaker : (Q : A → Type 0) (xs : List A) → ((x : A) → P x → Q x) → Heads P xs → Heads Q xs
  heads_weaker Q [] f h = absurd h
  heads_weaker Q (x ∷ xs) f h = f x h

pub got_below : {A : Type 0} (xs : List A) (k : ℕ) (x : A) → slice_get xs k ≡ Some x → k < length xs
got_below [] k x e = absurd (cc e)
got_below (y ∷ ys) zero x e = omega arith
got_below (y ∷ ys) (suc k) x e = let b = got_below ys k x e in omega (arith, b)

removed_length_by : {A : Type 0} (xs : List A) (k : ℕ) (x : A) (c : Bool) → nat_lt k (length xs) ≡ c → slice_get xs k ≡ Some x → suc (length (removed_at (cond c (Some k) None) xs)) ≡ length xs
removed_length_by xs k x true e g = length_remove xs k x g
removed_length_by xs k x false e g = absurd (let t = (Decides-ltb k (length xs)).1 (got_below xs k x g) in cc)

-- what is found is taken out
removed_length : {A : Type 0} (test : A → Bool) (xs : List A) (x : A) → find test xs ≡ Some x → suc (length (first_removed test xs)) ≡ length xs
removed_length test xs x e = removed_length_by xs (position_or_len test xs) x (nat_lt (position_or_len test xs) (length xs)) refl (sym (find_at test xs) ∙ e)

none_past : {A : Type 0} (xs : List A) (k : ℕ) → k < length xs → slice_get xs k ≡ None → ⊥
none_past [] k b e = omega (arith, b)
none_past (x ∷ xs) zero b e = cc e
none_past (x ∷ xs) (suc k) b e = none_past xs k (omega (arith, b)) e

removed_most_by : {A : Type 0} (xs : List A) (k : ℕ) (c : Bool) (o : Option A) → nat_lt k (length xs) ≡ c → slice_get xs k ≡ o → length (removed_at (cond c (Some k) None) xs) ≤ length xs
removed_most_by xs k false o e g = omega arith
removed_most_by xs k true (Some x) e g = let l = length_remove xs k x g in omega (arith, l)
removed_most_by xs k true None e g = absurd (none_past xs k ((Decides-ltb k (length xs)).0 e) g)

removed_most : {A : Type 0} (test : A → Bool) (xs : List A) → length (first_removed test xs) ≤ length xs
removed_most test xs = removed_most_by xs (position_or_len test xs) (nat_lt (position_or_len test xs) (length xs)) (slice_get xs (position_or_len test xs)) refl refl

-- The stage has the number of its target

kind_below : (p : Program) (i : Instance) → IsOriginal p.records i ⊎ IsClone p.records i → is_on_stage i p.records ≡ true → i.number < length p.records.targets
kind_below p i (inl o) s = let e = o.0 in let b = o.1 in omega (arith, e, b)
kind_below p i (inr c) s = absurd (clash (is_on_stage i p.records) s c.1)

kind_of : (records : Records) (i : Instance) → IsOriginal records i ⊎ IsClone records i → i.of < length records.targets
kind_of records i (inl o) = o.1
kind_of records i (inr c) = c.0

abbrev OnStage : Program → Instance → Type 0
OnStage p i = is_on_stage i p.records ≡ true

-- the stage, which is legal
abbrev IsStage : Program → ℕ → Instance → Type 0
IsStage p usage i = OnStage p i × IsInstance p usage i

stage_below : (p : Program) (usage : ℕ) (i : Instance) → IsStage p usage i → i.number < length p.records.targets
stage_below p usage i h = kind_below p i h.1.kind h.0

module _ (p : Program) (usage : ℕ) (is : List Instance) (h : IsCast p usage is) where
  stage_heads : Heads (IsStage p usage) is
  stage_heads = heads_both (OnStage p) (IsInstance p usage) is h.stage h.each

  pub disposed_cast : (n : ℕ) → is_clone p.records n ≡ true → IsCast p usage (first_removed (λ i. i.number == n) is)
  disposed_cast n clone = record {
    stage = heads_weaker (IsStage p usage) (OnStage p) (first_removed (λ i. i.number == n) is) (λ i g. g.0)
        (head_removed (IsStage p usage) (λ i. i.number == n) is (λ i g t. clone_not p.records n clone (subst (λ m. m < length p.records.targets) (equal i.number n t) (stage_below p usage i g))) stage_heads);
    each = each_removed (IsInstance p usage) (λ i. i.number == n) is h.each;
    few = (let m = removed_most (λ (i : Instance). i.number == n) is in let f = h.few in omega (arith, m, f));
  }

  cleared_legal : (i : Instance) → IsInstance p usage i → IsInstance p usage (cleared i)
  cleared_legal i g = said p usage (record i { effects = no_effects }) (coloured p usage i g no_effects none_set) (record i.bubble { text = [] }) g.updated none_short

  pub stopped_cast : IsCast p usage (map cleared (filter (λ i. not (is_clone p.records i.number)) is))
  stopped_cast = let test : Instance → Bool = λ i. not (is_clone p.records i.number) in record {
    stage = head_map (OnStage p) cleared (λ i g. g) (filter test is) (heads_weaker (IsStage p usage) (OnStage p) (filter test is) (λ i g. g.0)
        (head_filter (IsStage p usage) test is (λ i g. ap not (original_not p.records i.number (stage_below p usage i g))) stage_heads));
    each = each_mapped cleared (IsInstance p usage) (IsInstance p usage) (filter test is) cleared_legal (each_filter (IsInstance p usage) test is h.each);
    few = (let m = length_map cleared (filter test is) in let l = length_filter test is in let f = h.few in omega (arith, m, l, f));
  }

  pub renewed_cast : IsCast p usage (map without_edges is)
  renewed_cast = record {
    stage = head_map (OnStage p) without_edges (λ i g. g) is h.stage;
    each = each_mapped without_edges (IsInstance p usage) (IsInstance p usage) is (λ i g. edged p usage i g [] tt tt) h.each;
    few = (let m = length_map without_edges is in let f = h.few in omega (arith, m, f));
  }

-- A clone

behind_by : (P : Instance → Type 0) (clone : Instance) (n : ℕ) (c : Bool) (i : Instance) (is : List Instance) → P clone → P i → Each P is → Each P (inserted_behind clone n is) → Each P (if c then clone ∷ i ∷ is else i ∷ inserted_behind clone n is)
behind_by P clone n true i is g h k r = (g, (h, k))
behind_by P clone n false i is g h k r = (h, r)

each_behind : (P : Instance → Type 0) (clone : Instance) (n : ℕ) (is : List Instance) → P clone → Each P is → Each P (inserted_behind clone n is)
each_behind P clone n [] g h = tt
each_behind P clone n (i ∷ is) g h = behind_by P clone n (i.number == n) i is g h.0 h.1 (each_behind P clone n is g h.1)

length_by : (clone : Instance) (n : ℕ) (c : Bool) (i : Instance) (is : List Instance) → length (inserted_behind clone n is) ≤ suc (length is) → length (if c then clone ∷ i ∷ is else i ∷ inserted_behind clone n is) ≤ suc (suc (length is))
length_by clone n true i is h = omega arith
length_by clone n false i is h = omega arith

length_behind : (clone : Instance) (n : ℕ) (is : List Instance) → length (inserted_behind clone n is) ≤ suc (length is)
length_behind clone n [] = omega arith
length_behind clone n (i ∷ is) = length_by clone n (i.number == n) i is (length_behind clone n is)

head_by : (P : Instance → Type 0) (clone : Instance) (n : ℕ) (c : Bool) (i : Instance) (is : List Instance) → (i.number == n) ≡ c → (i.number ≡ n → ⊥) → P i → Heads P (if c then clone ∷ i ∷ is else i ∷ inserted_behind clone n is)
head_by P clone n true i is e none h = absurd (none (equal i.number n e))
head_by P clone n false i is e none h = h

head_behind : (P : Instance → Type 0) (clone : Instance) (n : ℕ) (is : List Instance) → Heads (λ i. P i × (i.number ≡ n → ⊥)) is → Heads P (inserted_behind clone n is)
head_behind P clone n [] h = absurd h
head_behind P clone n (i ∷ is) h = head_by P clone n (i.number == n) i is refl h.1 h.0

copied_legal : (p : Program) (usage n : ℕ) (i : Instance) → length p.records.targets ≤ n → is_on_stage i p.records ≡ false → IsInstance p usage i → IsInstance p usage (copied n i)
copied_legal p usage n i above off h = record {
  kind = inr (kind_of p.records i h.kind, off, above);
  costume = h.costume;
  size = h.size;
  direction = h.direction;
  effects = h.effects;
  stage = λ t. absurd (clash (is_on_stage i p.records) t off);
  updated = (let u = h.updated in omega (arith, u));
  short = none_short;
  rising = h.rising;
  edges = h.edges;
}

next_by : (records : Records) (next l : ℕ) (is : List Instance) → length records.targets ≡ l → Inhabited records next is → l ≤ next
next_by records next zero is e h = omega arith
next_by records next (suc l) is e h = h.given l l (h.originals l (omega (arith, e)))

length_last : {A : Type 0} (xs : List A) (y : A) → length (xs ++ y ∷ []) ≡ suc (length xs)
length_last [] y = refl
length_last (x ∷ xs) y = ap suc (length_last xs y)

first_found : (n : ℕ) (i : Instance) (is : List Instance) (c : Bool) → (i.number == n) ≡ c → i.number ≡ n → cond c (Some i) (find (λ i. i.number == n) is) ≡ Some i
first_found n i is true e h = refl
first_found n i is false e h = absurd (let t = equal_true i.number n h in cc)

-- the first of those that are live was given before, and is not that of another number that is found
module _ (p : Program) (usage next original : ℕ) (x : Instance) (off : is_on_stage x p.records ≡ false) where
  abbrev IsOther : Instance → Type 0
  IsOther i = (OnStage p i × (i.number ≡ original → ⊥)) × (i.number ≡ next → ⊥)

  heads_other : (is : List Instance) → live original is ≡ Some x → Inhabited p.records next is → Heads (OnStage p) is → Heads IsOther is
  heads_other [] it h s = absurd s
  heads_other (i ∷ is) it h s = (
    (s, (λ e. let f : live original (i ∷ is) ≡ Some i = first_found original i is (i.number == original) refl e in let g : i ≡ x = cc (f, it) in clash (is_on_stage x p.records) (ap (λ y. is_on_stage y p.records) (sym g) ∙ s) off)),
    (λ e. let b = h.given i.number i.of (inl (refl, refl)) in omega (arith, b, e)),
  )

module _ (p : Program) (usage next original target : ℕ) (is : List Instance) (inhabited : Inhabited p.records next is) (hosted : Hosts original target is)
    (off : is_on_stage (instance_at original is) p.records ≡ false) (room : length is < length p.records.targets + most_clones) (h : IsCast p usage is) where
  pub cloned_cast : IsCast p usage (placed_behind next original (is ++ copied next (instance_at original is) ∷ []))
  cloned_cast =
      let js : List Instance = is ++ copied next (instance_at original is) ∷ [] in
      let r = found original target is hosted in
      let at = found_at original is r.x r.is_it in
      let x_off : is_on_stage r.x p.records ≡ false = ap (λ i. is_on_stage i p.records) (sym at) ∙ off in
      let x_legal : IsInstance p usage r.x = each_found (IsInstance p usage) (λ i. i.number == original) is r.x r.is_it h.each in
      let copy_legal : IsInstance p usage (copied next (instance_at original is)) =
      copied_legal p usage next (instance_at original is) (next_by p.records next (length p.records.targets) is refl inhabited) off (subst (IsInstance p usage) (sym at) x_legal) in
      let each : Each (IsInstance p usage) js = each_append (IsInstance p usage) is (copied next (instance_at original is) ∷ []) h.each (copy_legal, tt) in
      let c = found next (instance_at original is).of js (hosts_right next (instance_at original is).of is (copied next (instance_at original is) ∷ []) (inl (refl, refl))) in
      let rest : List Instance = first_removed (λ i. i.number == next) js in
      let heads : Heads (IsOther p usage next original r.x x_off) js = head_append (IsOther p usage next original r.x x_off) is (copied next (instance_at original is) ∷ []) (heads_other p usage next original r.x x_off is r.is_it inhabited h.stage) in
      record {
        stage = head_behind (OnStage p) (instance_at next js) original rest
            (heads_weaker (IsOther p usage next original r.x x_off) (λ i. OnStage p i × (i.number ≡ original → ⊥)) rest (λ i g. g.0) (head_removed (IsOther p usage next original r.x x_off) (λ i. i.number == next) js (λ i g t. g.1 (equal i.number next t)) heads));
        each = each_behind (IsInstance p usage) (instance_at next js) original rest
            (subst (IsInstance p usage) (sym (found_at next js c.x c.is_it)) (each_found (IsInstance p usage) (λ i. i.number == next) js c.x c.is_it each)) (each_removed (IsInstance p usage) (λ i. i.number == next) js each);
        few = (let a = length_behind (instance_at next js) original rest in let b = removed_length (λ (i : Instance). i.number == next) js c.x c.is_it in let d = length_last is (copied next (instance_at original is)) in omega (arith, a, b, d));
      }

-- room for one more, and no stage
room_by : (b c : Bool) → not b || c ≡ false → (b ≡ true) × (c ≡ false)
room_by true c e = (refl, e)
room_by false c e = absurd (cc e)

pub has_room : (n most : ℕ) (c : Bool) → not (nat_lt n most) || c ≡ false → (n < most) × (c ≡ false)
has_room n most c e = let r = room_by (nat_lt n most) c e in ((Decides-ltb n most).0 r.0, r.1)

-- An edge value that is noted

module _ (p : Program) (usage : ℕ) (x : Pair) (v : Bool) where
  pub noted_edge : (target : ℕ) (i : Instance) → i.of ≡ target → IsEdgeHat p target (hat_block x.head) → IsInstance p usage i → IsInstance p usage (record i { edges = with_edge (hat_block x.head) v i.edges })
  noted_edge target i e g h = edged p usage i h (with_edge (hat_block x.head) v i.edges) (noted_rise (hat_block x.head) v i.edges h.rising)
      (noted_each (hat_block x.head) v (IsEdgeHat p i.of) i.edges (subst (λ k. IsEdgeHat p k (hat_block x.head)) (sym e) g) h.edges)
