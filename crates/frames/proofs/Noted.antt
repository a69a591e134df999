-- Recording a value of an instance keeps its number and its target, and so who heads a script.
use Rattle.std.proofs.Common.{◌≡◌, ℕ, zero, suc, ◌<◌, Bool, List, [], ◌∷◌, length, Option, Some, None, refl, sym, ap, ◌∙◌, arith}
use Rattle.std.specs.Prelude.{Contains, slice_get, slice_set, slice_index_or, position}
use Rattle.std.proofs.lemmas.Option.{same_Some}
use Rattle.machine_spec.specs.declared.instance.Instance.{Instance}
use Rattle.machine_spec.specs.Lists.{set_some, changed_at_some, first_changed}
use Rattle.machine_spec.specs.Starting.{Pair}
use Rattle.project_check.specs.declared.project.Project.{Project}
use Rattle.hats.specs.Heads.{IsHeadOf}

-- an instance of the same number and target is listed
record IsStill (is : List Instance) (i : Instance) : Type 0 where
  instance : Instance
  listed : Contains is instance
  number : instance.number ≡ i.number
  of : instance.of ≡ i.of

still_there : (is : List Instance) (i : Instance) → Contains is i → IsStill is i
still_there is i h = record { instance = i; listed = h; number = refl; of = refl }

still_more : (j : Instance) (is : List Instance) (i : Instance) → IsStill is i → IsStill (j ∷ is) i
still_more j is i h = record { instance = h.instance; listed = (suc h.listed.0, omega (arith, h.listed.1), h.listed.2); number = h.number; of = h.of }

still_first : (j : Instance) (is : List Instance) (i : Instance) → j.number ≡ i.number → j.of ≡ i.of → IsStill (j ∷ is) i
still_first j is i n o = record { instance = j; listed = (0, omega arith, refl); number = n; of = o }

-- one of them is put in the place of another
still_set : (is : List Instance) (k : ℕ) (old new : Instance) → slice_get is k ≡ Some old → new.number ≡ old.number → new.of ≡ old.of → (j : ℕ) (i : Instance) → j < length is → slice_index_or is j i ≡ i → IsStill (slice_set is k new) i
still_set [] k old new g n o j i l e = absurd (omega (arith, l))
still_set (x ∷ is) zero old new g n o zero i l e =
    let same : old ≡ i = sym (same_Some x old g) ∙ e in
    still_first new is i (n ∙ ap (λ (y : Instance). y.number) same) (o ∙ ap (λ (y : Instance). y.of) same)
still_set (x ∷ is) zero old new g n o (suc j) i l e = record { instance = i; listed = (suc j, l, e); number = refl; of = refl }
still_set (x ∷ is) (suc k) old new g n o zero i l e = still_first x (slice_set is k new) i (ap (λ (y : Instance). y.number) e) (ap (λ (y : Instance). y.of) e)
still_set (x ∷ is) (suc k) old new g n o (suc j) i l e = still_more x (slice_set is k new) i (still_set is k old new g n o j i (omega (arith, l)) e)

module _ (f : Instance → Instance) (number : (i : Instance) → (f i).number ≡ i.number) (of : (i : Instance) → (f i).of ≡ i.of) where
  still_some : (is : List Instance) (k : ℕ) (o : Option Instance) → slice_get is k ≡ o → (i : Instance) → Contains is i → IsStill (set_some o f k is) i
  still_some is k None g i h = still_there is i h
  still_some is k (Some x) g i h = still_set is k x (f x) g (number x) (of x) h.0 i h.1 h.2

  still_at : (is : List Instance) (o : Option ℕ) (i : Instance) → Contains is i → IsStill (changed_at_some f o is) i
  still_at is None i h = still_there is i h
  still_at is (Some k) i h = still_some is k (slice_get is k) refl i h

  -- the first instance that passes a test is changed
  pub heads-changed : (p : Project) (test : Instance → Bool) (is : List Instance) (x : Pair) → IsHeadOf p is x → IsHeadOf p (first_changed test f is) x
  heads-changed p test is x h =
      let still : IsStill (first_changed test f is) h.instance = still_at is (position test is) h.instance h.listed in
      record {
        instance = still.instance;
        listed = still.listed;
        number = h.number ∙ sym still.number;
        target = h.target ∙ sym still.of;
        there = h.there;
        block = h.block;
        held = h.held;
        top = h.top;
        head = h.head;
        begins = h.begins;
      }
