-- Facts of every thread in its place, and serials that differ.
use Rattle.std.proofs.Common.{◌≡◌, ℕ, zero, suc, ◌+◌, List, [], ◌∷◌, ◌++◌, map, Option, Some, None, inl, inr, ◌⊎◌, refl, sym, ap, ◌∙◌, subst, arith}
use Rattle.std.specs.Prelude.{◌<◌, ◌≤◌, slice_get, slice_set, IfSome}
use Rattle.machine_spec.specs.Places.{Places, put_some, running, on_running}
use Rattle.machine_spec.specs.declared.threads.Which.TheVariants.{Slot}
use Rattle.machine_spec.specs.Tasks.{Task}
pub use Rattle.laws_of_threads.specs.Frames.{with_some, all_serials}
use Rattle.laws_of_threads.specs.Lists.{Each, Member, Differ, Excused}
use Rattle.laws_of_threads.specs.Promises.{Serials}
use Rattle.laws_of_threads.proofs.Numbers.{each_map, each_append, differ_last, member_below}

same_some : {A : Type 0} (a b : A) → Some a ≡ Some b → a ≡ b
same_some a b h = cc

abbrev pub serials : List Task → List ℕ
serials ts = map (λ t. t.serial) ts

pub record Crew (P : Task → Type 0) (next : ℕ) (ts : Places Task) : Type 0 where
  pub listed : Each P ts.list
  pub detached : IfSome ts.detached P
  pub serials : Serials next (all_serials ts)

-- Lists of numbers with one changed

set_member : (ns : List ℕ) (j m y : ℕ) → Member m (slice_set ns j y) → Member m ns ⊎ (y ≡ m)
set_member [] j m y h = absurd h
set_member (n ∷ ns) zero m y (inl e) = inr e
set_member (n ∷ ns) zero m y (inr h) = inl (inr h)
set_member (n ∷ ns) (suc j) m y (inl e) = inl (inl e)
set_member (n ∷ ns) (suc j) m y (inr h) = elim (set_member ns j m y h) [ inl a ↦ inl (inr a) | inr e ↦ inr e ]

set_differ : (ns : List ℕ) (j y : ℕ) → Differ ns → (Member y ns → ⊥) → Differ (slice_set ns j y)
set_differ [] j y d none = tt
set_differ (n ∷ ns) zero y d none = ((λ h. none (inr h)), d.1)
set_differ (n ∷ ns) (suc j) y d none = (
  (λ h. elim (set_member ns j n y h) [ inl a ↦ d.0 a | inr e ↦ none (inl (sym e)) ]),
  set_differ ns j y d.1 (λ h. none (inr h)),
)

set_each : (P : ℕ → Type 0) (ns : List ℕ) (j y : ℕ) → Each P ns → P y → Each P (slice_set ns j y)
set_each P [] j y h g = tt
set_each P (n ∷ ns) zero y h g = (g, h.1)
set_each P (n ∷ ns) (suc j) y h g = (h.0, set_each P ns j y h.1 g)

get_member : (ms : List ℕ) (k z : ℕ) → slice_get ms k ≡ Some z → Member z ms
get_member [] k z g = absurd (cc g)
get_member (m ∷ ms) zero z g = inl (same_some m z g)
get_member (m ∷ ms) (suc k) z g = inr (get_member ms k z g)

-- what was taken out is there no more
set_out : (ns : List ℕ) (j x y : ℕ) → slice_get ns j ≡ Some x → Differ ns → (x ≡ y → ⊥) → Member x (slice_set ns j y) → ⊥
set_out [] j x y e d none h = h
set_out (n ∷ ns) zero x y e d none (inl f) = none (sym f)
set_out (n ∷ ns) zero x y e d none (inr h) = d.0 (subst (λ z. Member z ns) (sym (same_some n x e)) h)
set_out (n ∷ ns) (suc j) x y e d none (inl f) = d.0 (subst (λ z. Member z ns) (sym f) (get_member ns j x e))
set_out (n ∷ ns) (suc j) x y e d none (inr h) = set_out ns j x y e d.1 none h

-- Threads with one changed

serials_set : (ts : List Task) (j : ℕ) (y : Task) → serials (slice_set ts j y) ≡ slice_set (serials ts) j y.serial
serials_set [] j y = refl
serials_set (t ∷ ts) zero y = refl
serials_set (t ∷ ts) (suc j) y = ap (λ l. t.serial ∷ l) (serials_set ts j y)

serials_get : (ts : List Task) (j : ℕ) (t : Task) → slice_get ts j ≡ Some t → slice_get (serials ts) j ≡ Some t.serial
serials_get [] j t e = absurd (cc e)
serials_get (x ∷ ts) zero t e = ap (λ y. Some y.serial) (same_some x t e)
serials_get (x ∷ ts) (suc j) t e = serials_get ts j t e

serials_same : (ts : List Task) (j : ℕ) (t y : Task) → slice_get ts j ≡ Some t → y.serial ≡ t.serial → serials (slice_set ts j y) ≡ serials ts
serials_same [] j t y e s = refl
serials_same (x ∷ ts) zero t y e s = ap (λ n. n ∷ serials ts) (s ∙ ap (λ z. z.serial) (sym (same_some x t e)))
serials_same (x ∷ ts) (suc j) t y e s = ap (λ l. x.serial ∷ l) (serials_same ts j t y e s)

pub each_get : (P : Task → Type 0) (ts : List Task) (j : ℕ) (t : Task) → slice_get ts j ≡ Some t → Each P ts → P t
each_get P [] j t e h = absurd (cc e)
each_get P (x ∷ ts) zero t e h = subst P (same_some x t e) h.0
each_get P (x ∷ ts) (suc j) t e h = each_get P ts j t e h.1

pub each_set : (P : Task → Type 0) (ts : List Task) (j : ℕ) (y : Task) → Each P ts → P y → Each P (slice_set ts j y)
each_set P [] j y h g = tt
each_set P (x ∷ ts) zero y h g = (g, h.1)
each_set P (x ∷ ts) (suc j) y h g = (h.0, each_set P ts j y h.1 g)

module _ (P : Task → Type 0) where
  pub each_excused : (n : ℕ) (ts : List Task) → (Member n (serials ts) → ⊥) → Each (Excused (λ t. t.serial) n P) ts → Each P ts
  each_excused n [] none h = tt
  each_excused n (t ∷ ts) none h = (elim h.0 [ inl e ↦ absurd (none (inl e)) | inr g ↦ g ], each_excused n ts (λ m. none (inr m)) h.1)

  set_excused : (ts : List Task) (j : ℕ) (t y : Task) → slice_get ts j ≡ Some t → Differ (serials ts) → Each (Excused (λ x. x.serial) t.serial P) ts → P y → Each P (slice_set ts j y)
  set_excused [] j t y e d h g = tt
  set_excused (x ∷ ts) zero t y e d h g =
      (g, each_excused t.serial ts (λ m. d.0 (subst (λ z. Member z (serials ts)) (ap (λ z. z.serial) (sym (same_some x t e))) m)) h.1)
  set_excused (x ∷ ts) (suc j) t y e d h g = (
    elim h.0 [ inl s ↦ absurd (d.0 (subst (λ z. Member z (serials ts)) (sym s) (get_member (serials ts) j t.serial (serials_get ts j t e)))) | inr k ↦ k ],
    set_excused ts j t y e d.1 h.1 g,
  )

  excused_some : (n : ℕ) (o : Option Task) (ns : List ℕ) → (Member n (with_some o ns) → ⊥) → IfSome o (Excused (λ x. x.serial) n P) → IfSome o P
  excused_some n None ns none h = tt
  excused_some n (Some t) ns none h = elim h [ inl e ↦ absurd (none (inl e)) | inr g ↦ g ]

  -- the running thread moved, where it alone was excused
  crew_moved_by : (next i : ℕ) (list : List Task) (o : Option Task) (t : Task) (f : Task → Task) → running i (record { list = list; detached = o }) ≡ Some t → (f t).serial ≡ t.serial
      → Crew (Excused (λ x. x.serial) t.serial P) next (record { list = list; detached = o }) → P (f t) → Crew P next (on_running f i (record { list = list; detached = o }))
  crew_moved_by next i list None t f e s c g = subst (Crew P next) (ap (λ m. put_some m f (Slot i) (record { list = list; detached = None })) (sym e)) (record {
    listed = set_excused list i t (f t) e c.serials.differ c.listed g;
    detached = tt;
    serials = subst (Serials next) (sym (serials_same list i t (f t) e s)) c.serials;
  })
  crew_moved_by next i list (Some u) t f e s c g = let same : u ≡ t = same_some u t e in record {
    listed = each_excused t.serial list (λ m. c.serials.differ.0 (subst (λ z. Member z (serials list)) (ap (λ z. z.serial) (sym same)) m)) c.listed;
    detached = subst (λ z. P (f z)) (sym same) g;
    serials = subst (λ n. Serials next (n ∷ serials list)) (sym (subst (λ z. (f z).serial ≡ z.serial) (sym same) s)) c.serials;
  }

  pub crew_moved : (next i : ℕ) (ts : Places Task) (t : Task) (f : Task → Task) → running i ts ≡ Some t → (f t).serial ≡ t.serial
      → Crew (Excused (λ x. x.serial) t.serial P) next ts → P (f t) → Crew P next (on_running f i ts)
  crew_moved next i ts t f e s c g = crew_moved_by next i ts.list ts.detached t f e s c g

  -- A new thread

  serials_more : (next : ℕ) (ns : List ℕ) → Serials next ns → Serials (next + 1) ns
  serials_more next ns s = record { differ = s.differ; given = each_map (λ n. n < next) (λ n. n < next + 1) ns (λ n h. omega (arith, h)) s.given }

  pub crew_more : (next : ℕ) (ts : Places Task) → Crew P next ts → Crew P (next + 1) ts
  crew_more next ts c = record { listed = c.listed; detached = c.detached; serials = serials_more next (all_serials ts) c.serials }

  not_given : (next : ℕ) (ns : List ℕ) → Each (λ n. n < next) ns → Member next ns → ⊥
  not_given next ns h m = let below = member_below ns next next h m in omega (arith, below)

  serials_last : (next : ℕ) (ns : List ℕ) → Serials next ns → Serials (next + 1) (ns ++ next ∷ [])
  serials_last next ns s = record {
    differ = differ_last ns next s.differ (not_given next ns s.given);
    given = each_append (λ n. n < next + 1) ns (next ∷ []) (serials_more next ns s).given (omega arith, tt);
  }

  some_last : (o : Option Task) (ns : List ℕ) (n : ℕ) → with_some o (ns ++ n ∷ []) ≡ with_some o ns ++ n ∷ []
  some_last None ns n = refl
  some_last (Some t) ns n = refl

  map_last : (ts : List Task) (y : Task) → serials (ts ++ y ∷ []) ≡ serials ts ++ y.serial ∷ []
  map_last [] y = refl
  map_last (t ∷ ts) y = ap (λ l. t.serial ∷ l) (map_last ts y)

  pub crew_appended : (next : ℕ) (ts : Places Task) (y : Task) → y.serial ≡ next → Crew P next ts → P y → Crew P (next + 1) (record { list = ts.list ++ y ∷ []; detached = ts.detached })
  crew_appended next ts y e c g = record {
    listed = each_append P ts.list (y ∷ []) c.listed (g, tt);
    detached = c.detached;
    serials = subst (Serials (next + 1)) (sym (ap (with_some ts.detached) (map_last ts.list y ∙ ap (λ n. serials ts.list ++ n ∷ []) e) ∙ some_last ts.detached (serials ts.list) next)) (serials_last next (all_serials ts) c.serials);
  }

  serials_set_next : (next j : ℕ) (o : Option Task) (ns : List ℕ) → Serials next (with_some o ns) → Serials (next + 1) (with_some o (slice_set ns j next))
  serials_set_next next j None ns s = record {
    differ = set_differ ns j next s.differ (not_given next ns s.given);
    given = set_each (λ n. n < next + 1) ns j next (serials_more next ns s).given (omega arith);
  }
  serials_set_next next j (Some u) ns s = record {
    differ = (
      (λ h. elim (set_member ns j u.serial next h) [ inl a ↦ s.differ.0 a | inr e ↦ not_given next (u.serial ∷ ns) s.given (inl (sym e)) ]),
      set_differ ns j next s.differ.1 (λ h. not_given next (u.serial ∷ ns) s.given (inr h)),
    );
    given = (let g = s.given.0 in omega (arith, g), set_each (λ n. n < next + 1) ns j next (serials_more next (u.serial ∷ ns) s).given.1 (omega arith));
  }

  pub crew_replaced : (next j : ℕ) (ts : Places Task) (y : Task) → y.serial ≡ next → Crew P next ts → P y → Crew P (next + 1) (record { list = slice_set ts.list j y; detached = ts.detached })
  crew_replaced next j ts y e c g = record {
    listed = each_set P ts.list j y c.listed g;
    detached = c.detached;
    serials = subst (λ l. Serials (next + 1) (with_some ts.detached l)) (sym (serials_set ts.list j y ∙ ap (slice_set (serials ts.list) j) e)) (serials_set_next next j ts.detached (serials ts.list) c.serials);
  }

  pub crew_detached : (next j : ℕ) (list : List Task) (old y : Task) → slice_get list j ≡ Some old → y.serial ≡ next → Crew P next (record { list = list; detached = None }) → P y
      → Crew P (next + 1) (record { list = slice_set list j y; detached = Some old })
  crew_detached next j list old y at e c g =
      let ns = serials list in
      let s = serials_set_next next j None ns c.serials in
      let got : slice_get ns j ≡ Some old.serial = serials_get list j old at in
      let below : old.serial < next = member_below ns next old.serial c.serials.given (get_member ns j old.serial got) in
      record {
        listed = each_set P list j y c.listed g;
        detached = each_get P list j old at c.listed;
        serials = subst (λ l. Serials (next + 1) (old.serial ∷ l)) (sym (serials_set list j y ∙ ap (slice_set ns j) e)) (record {
          differ = (set_out ns j old.serial next got c.serials.differ (λ h. omega (arith, h, below)), s.differ);
          given = (omega (arith, below), s.given);
        });
      }

some_map : (P Q : Task → Type 0) (o : Option Task) → ((t : Task) → P t → Q t) → IfSome o P → IfSome o Q
some_map P Q None f h = h
some_map P Q (Some t) f h = f t h

pub crew_map : (P Q : Task → Type 0) (next : ℕ) (ts : Places Task) → ((t : Task) → P t → Q t) → Crew P next ts → Crew Q next ts
crew_map P Q next ts f c = record { listed = each_map P Q ts.list f c.listed; detached = some_map P Q ts.detached f c.detached; serials = c.serials }

pub excused_map : (P Q : Task → Type 0) (n : ℕ) (t : Task) → (P t → Q t) → Excused (λ x. x.serial) n P t → Excused (λ x. x.serial) n Q t
excused_map P Q n t f (inl e) = inl e
excused_map P Q n t f (inr h) = inr (f h)

pub serials_le : (n m : ℕ) (ns : List ℕ) → n ≤ m → Serials n ns → Serials m ns
serials_le n m ns le s = record { differ = s.differ; given = each_map (λ k. k < n) (λ k. k < m) ns (λ k h. omega (arith, h, le)) s.given }

pub get_serial : (ts : List Task) (j : ℕ) (t : Task) → slice_get ts j ≡ Some t → Member t.serial (serials ts)
get_serial ts j t e = get_member (serials ts) j t.serial (serials_get ts j t e)
