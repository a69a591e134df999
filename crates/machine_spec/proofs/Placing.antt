-- A thread that was changed stands at its place, and is seen there.
use Rattle.std.proofs.Common.{◌≡◌, ℕ, zero, suc, List, [], ◌∷◌, Option, Some, None, refl, sym, ap, ◌∙◌, subst}
use Rattle.std.specs.Prelude.{slice_get, slice_set, IfSome}
use Rattle.std.specs.List.{All}
use Rattle.std.specs.Option.{option_map}
use Rattle.std.proofs.lemmas.List.{map-set}
use Rattle.std.proofs.lemmas.List.Elements.{All-head, All-tail, All-cons}
use Rattle.std.proofs.lemmas.Option.{slice_get-map}
use Rattle.machine_spec.specs.declared.threads.Which.{Which}
use Rattle.machine_spec.specs.declared.threads.Which.TheVariants.{Slot, Detached}
use Rattle.machine_spec.specs.Places.{Places, at_place, put, put_some, on_place, place_by, place, running, on_running, shown_by, Everyone}

get_set : {X : Type 0} (xs : List X) (i : ℕ) (x y : X) → slice_get xs i ≡ Some x → slice_get (slice_set xs i y) i ≡ Some y
get_set [] i x y e = absurd (cc e)
get_set (z ∷ xs) zero x y e = refl
get_set (z ∷ xs) (suc i) x y e = get_set xs i x y e

set_set : {X : Type 0} (xs : List X) (i : ℕ) (x y : X) → slice_set (slice_set xs i x) i y ≡ slice_set xs i y
set_set [] i x y = refl
set_set (z ∷ xs) zero x y = refl
set_set (z ∷ xs) (suc i) x y = ap (λ l. z ∷ l) (set_set xs i x y)

set_self : {X : Type 0} (xs : List X) (i : ℕ) (x : X) → slice_get xs i ≡ Some x → slice_set xs i x ≡ xs
set_self [] i x e = refl
set_self (z ∷ xs) zero x e = let same : x ≡ z = cc (sym e) in ap (λ y. y ∷ xs) same
set_self (z ∷ xs) (suc i) x e = ap (λ l. z ∷ l) (set_self xs i x e)

module _ {A : Type 0} where
  pub put_at : (which : Which) (ts : Places A) (t u : A) → at_place which ts ≡ Some t → at_place which (put which u ts) ≡ Some u
  put_at (Slot i) ts t u e = get_set ts.list i t u e
  put_at Detached ts t u e = refl

  pub put_put : (which : Which) (ts : Places A) (t u : A) → put which u (put which t ts) ≡ put which u ts
  put_put (Slot i) ts t u = ap (λ l. record { list = l; detached = ts.detached }) (set_set ts.list i t u)
  put_put Detached ts t u = refl

  pub put_self : (which : Which) (ts : Places A) (t : A) → at_place which ts ≡ Some t → put which t ts ≡ ts
  put_self (Slot i) ts t e = ap (λ l. record { list = l; detached = ts.detached }) (set_self ts.list i t e)
  put_self Detached ts t e = ap (λ o. record { list = ts.list; detached = o }) (sym e)

  -- a thread that is there is changed
  pub on_is : (f : A → A) (which : Which) (ts new : Places A) (t : A) → at_place which ts ≡ Some t → new ≡ on_place f which ts → new ≡ put which (f t) ts
  on_is f which ts new t found e = e ∙ ap (λ o. put_some o f which ts) found

  -- and changed again
  pub on_again : (f : A → A) (which : Which) (ts mid new : Places A) (t u : A) → at_place which ts ≡ Some t → mid ≡ put which u ts → new ≡ on_place f which mid → new ≡ put which (f u) ts
  on_again f which ts mid new t u found m e =
      let here : at_place which mid ≡ Some u = ap (at_place which) m ∙ put_at which ts t u found in
      on_is f which mid new u here e ∙ ap (put which (f u)) m ∙ put_put which ts u (f u)

  -- two changes of one thread are one change
  twice_by : (f g : A → A) (which : Which) (ts : Places A) (o : Option A) → at_place which ts ≡ o → on_place g which (put_some o f which ts) ≡ put_some o (λ t. g (f t)) which ts
  twice_by f g which ts None e = ap (λ o. put_some o g which ts) e
  twice_by f g which ts (Some t) e = on_again g which ts (put which (f t) ts) _ t (f t) e refl refl

  pub on_twice : (f g : A → A) (which : Which) (ts mid new : Places A) → mid ≡ on_place f which ts → new ≡ on_place g which mid → new ≡ on_place (λ t. g (f t)) which ts
  on_twice f g which ts mid new m e = e ∙ ap (on_place g which) m ∙ twice_by f g which ts (at_place which ts) refl

  running_put_by : (i : ℕ) (list : List A) (d : Option A) (t u : A) → running i (record { list = list; detached = d }) ≡ Some t → running i (put (place_by i d) u (record { list = list; detached = d })) ≡ Some u
  running_put_by i list None t u e = put_at (Slot i) (record { list = list; detached = None }) t u e
  running_put_by i list (Some x) t u e = refl

  pub running_put : (i : ℕ) (ts : Places A) (t u : A) → running i ts ≡ Some t → running i (put (place i ts) u ts) ≡ Some u
  running_put i ts t u e = running_put_by i ts.list ts.detached t u e

  place_put_by : (i : ℕ) (list : List A) (d : Option A) (u : A) → place i (put (place_by i d) u (record { list = list; detached = d })) ≡ place_by i d
  place_put_by i list None u = refl
  place_put_by i list (Some x) u = refl

  pub place_put : (i : ℕ) (ts : Places A) (u : A) → place i (put (place i ts) u ts) ≡ place i ts
  place_put i ts u = place_put_by i ts.list ts.detached u

  -- a fact of every thread
  all_get : (P : A → Type 0) (xs : List A) (i : ℕ) (x : A) → All P xs → slice_get xs i ≡ Some x → P x
  all_get P [] i x h e = absurd (cc e)
  all_get P (z ∷ xs) zero x h e = let same : z ≡ x = cc e in subst P same (All-head P z xs h)
  all_get P (z ∷ xs) (suc i) x h e = all_get P xs i x (All-tail P z xs h) e

  all_set : (P : A → Type 0) (xs : List A) (i : ℕ) (x : A) → All P xs → P x → All P (slice_set xs i x)
  all_set P [] i x h p = h
  all_set P (z ∷ xs) zero x h p = All-cons P x xs p (All-tail P z xs h)
  all_set P (z ∷ xs) (suc i) x h p = All-cons P z (slice_set xs i x) (All-head P z xs h) (all_set P xs i x (All-tail P z xs h) p)

  pub everyone_at : (P : A → Type 0) (which : Which) (ts : Places A) (x : A) → Everyone P ts → at_place which ts ≡ Some x → P x
  everyone_at P (Slot i) ts x h e = all_get P ts.list i x h.listed e
  everyone_at P Detached ts x h e = subst (λ o. IfSome o P) e h.detached

  pub everyone_put : (P : A → Type 0) (which : Which) (ts : Places A) (x : A) → Everyone P ts → P x → Everyone P (put which x ts)
  everyone_put P (Slot i) ts x h p = record { listed = all_set P ts.list i x h.listed p; detached = h.detached }
  everyone_put P Detached ts x h p = record { listed = h.listed; detached = p }

module _ {A B : Type 0} (f : A → B) where
  pub put_seen : (which : Which) (x : A) (ts : Places A) → shown_by f (put which x ts) ≡ put which (f x) (shown_by f ts)
  put_seen (Slot i) x ts = ap (λ l. record { list = l; detached = option_map f ts.detached }) (map-set f ts.list i x)
  put_seen Detached x ts = refl

  pub at_seen : (which : Which) (ts : Places A) → at_place which (shown_by f ts) ≡ option_map f (at_place which ts)
  at_seen (Slot i) ts = slice_get-map f ts.list i
  at_seen Detached ts = refl

  place_by_seen : (i : ℕ) (o : Option A) → place_by i (option_map f o) ≡ place_by i o
  place_by_seen i None = refl
  place_by_seen i (Some t) = refl

  pub place_seen : (i : ℕ) (ts : Places A) → place i (shown_by f ts) ≡ place i ts
  place_seen i ts = place_by_seen i ts.detached

  pub running_seen : (i : ℕ) (ts : Places A) → running i (shown_by f ts) ≡ option_map f (running i ts)
  running_seen i ts = ap (λ w. at_place w (shown_by f ts)) (place_seen i ts) ∙ at_seen (place i ts) ts

  -- the running thread was changed, and is seen so
  pub on_running_seen : (g : B → B) (i : ℕ) (old : Places A) (t u : A) → running i old ≡ Some t → g (f t) ≡ f u → on_running g i (shown_by f old) ≡ shown_by f (put (place i old) u old)
  on_running_seen g i old t u found e =
      let w : Which = place i old in
      ap (λ z. on_place g z (shown_by f old)) (place_seen i old)
      ∙ ap (λ o. put_some o g w (shown_by f old)) (at_seen w old ∙ ap (option_map f) found)
      ∙ ap (λ x. put w x (shown_by f old)) e
      ∙ sym (put_seen w u old)
