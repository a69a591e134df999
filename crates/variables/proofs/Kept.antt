-- What is kept where one store is changed.
use Rattle.std.proofs.Common.{◌≡◌, ℕ, ◌<◌, [], List, length, get_or, set, Some, None, inl, inr, refl, sym, subst, ap, ◌∙◌, arith}
use Rattle.std.specs.Prelude.{◌==◌, slice_get, unwrap_or}
use Rattle.std.specs.List.{position}
use Rattle.std.proofs.lemmas.List.{length-set, set-set, set-get_or, set_past}
use Rattle.std.proofs.lemmas.List.Elements.{All-set}
use Rattle.std.proofs.lemmas.Option.{get_or_from_slice_get, slice_get_within, slice_get_cases}
use Rattle.scratch_values.specs.declared.value.Value.{Value}
use Rattle.machine_spec.specs.declared.variables.Store.{Store}
use Rattle.machine_spec.specs.Stores.{Variables}
use Rattle.variables.specs.Held.{items_at}
use Rattle.variables.specs.Kept.{IsShort, HasShortLists, IsKept, IsAlike}
use Rattle.variables.proofs.Places.{position_is}
use Rattle.variables.proofs.Apart.{IsDistinct-set}

within_is : (n : ℕ) (old vs : Variables) (i : ℕ) (d : Store) → old ≡ vs → position (λ s. s.of == n) vs.stores ≡ Some i → i < length old.stores
within_is n old vs i d e p =
    let at = position_is (λ (s : Store). s.of == n) vs.stores i d p in
    omega (arith, ap (λ (v : Variables). length v.stores) e, at.1)

kept-set : (ss : List Store) (z : Value) (none : List Value) (i : ℕ) (t d : Store) → i < length ss → IsAlike (get_or ss i d) t → IsKept ss z none → IsKept (set ss i t) z none
kept-set ss z none i t d lt a k = record {
  distinct = IsDistinct-set ss i t d a.of k.distinct;
  short = All-set HasShortLists ss i t (a.short (k.short i d lt)) k.short;
  zero_is = k.zero_is;
  nothing_is = k.nothing_is;
}

-- the code's fields, where a store was changed at its place
pub kept_is : (n : ℕ) (old vs : Variables) (z : Value) (none : List Value) (i : ℕ) (s t : Store) → old ≡ vs → position (λ s. s.of == n) vs.stores ≡ Some i → s ≡ get_or old.stores i s → IsAlike s t
    → IsKept old.stores z none → IsKept (set old.stores i t) z none
kept_is n old vs z none i s t e p at a k =
    let P : Store → Type 0 = λ x. IsAlike x t in
    kept-set old.stores z none i t s (within_is n old vs i s e p) (subst P at a) k

-- no list of a store at its place is too long
pub short_is : (n : ℕ) (old vs : Variables) (z : Value) (none : List Value) (i : ℕ) (s : Store) → old ≡ vs → position (λ s. s.of == n) vs.stores ≡ Some i → s ≡ get_or old.stores i s
    → IsKept old.stores z none → HasShortLists s
short_is n old vs z none i s e p at k = subst HasShortLists (sym at) (k.short i s (within_is n old vs i s e p))

alike_list : (s : Store) (k : ℕ) (items : List Value) → (HasShortLists s → IsShort items) → IsAlike s (record s { lists = set s.lists k items })
alike_list s k items h = record {
  of = refl;
  values = refl;
  lists = length-set s.lists k items;
  short = λ a. All-set IsShort s.lists k items (h a) a;
}

-- where there is no such variable, nothing is set
pub set-none : (vs : List Value) (k : ℕ) (v : Value) → slice_get vs k ≡ None → set vs k v ≡ vs
set-none vs k v e = elim (slice_get_cases vs k).1 [
  | inl p ↦ absurd (let g = p.2 in cc)
  | inr q ↦ set_past vs k v q.0
]

-- a list is taken out, and another is put in its place
put_again : (ls ms ns : List (List Value)) (k : ℕ) (a b : List Value) → ms ≡ set ls k a → ns ≡ set ms k b → ns ≡ set ls k b
put_again ls ms ns k a b e f = f ∙ ap (λ l. set l k b) e ∙ set-set ls k a b

-- what is put was made of what was taken out
pub list_put : (s : Store) (k : ℕ) (g : List Value → List Value) (a old new : List Value) (ms ns : List (List Value))
    → slice_get s.lists k ≡ Some old → ms ≡ set s.lists k a → ns ≡ set ms k new → new ≡ g old
    → ◌≡◌ {A = Store} (record { of = s.of; values = s.values; lists = ns }) (record s { lists = set s.lists k (g (items_at k s)) })
list_put s k g a old new ms ns got e f is =
    ap (λ (l : List (List Value)). record s { lists = l })
    (put_again s.lists ms ns k a new e f ∙ ap (set s.lists k) (is ∙ ap (λ o. g (unwrap_or o [])) (sym got)))

-- what was taken out is put back
pub list_back : (s : Store) (k : ℕ) (a old new : List Value) (ms ns : List (List Value))
    → slice_get s.lists k ≡ Some old → ms ≡ set s.lists k a → ns ≡ set ms k new → new ≡ old
    → ◌≡◌ {A = Store} (record { of = s.of; values = s.values; lists = ns }) s
list_back s k a old new ms ns got e f is =
    ap (λ (l : List (List Value)). record s { lists = l })
    (put_again s.lists ms ns k a new e f ∙ ap (set s.lists k) (is ∙ sym (get_or_from_slice_get s.lists k old [] got)) ∙ set-get_or s.lists k [])

-- and either is alike
pub alike_put : (s : Store) (k : ℕ) (a old new : List Value) (ms ns : List (List Value))
    → slice_get s.lists k ≡ Some old → ms ≡ set s.lists k a → ns ≡ set ms k new → (IsShort old → IsShort new)
    → IsAlike s (record { of = s.of; values = s.values; lists = ns })
alike_put s k a old new ms ns got e f h =
    let within : k < length s.lists = slice_get_within s.lists k old got in
    let P : List (List Value) → Type 0 = λ l. IsAlike s (record s { lists = l }) in
    subst P (sym (put_again s.lists ms ns k a new e f))
    (alike_list s k new (λ all. h (subst IsShort (get_or_from_slice_get s.lists k old [] got) (all k [] within))))

-- a list that is read is not too long
pub short_read : (s : Store) (k : ℕ) (others items : List Value) → HasShortLists s → IsShort others → items ≡ unwrap_or (slice_get s.lists k) others → IsShort items
short_read s k others items all short is = subst IsShort (sym is) (elim (slice_get_cases s.lists k).1 [
  | inl p ↦ subst IsShort (ap (λ o. unwrap_or o others) (sym p.2)) (subst IsShort p.3 (all k p.0 p.1))
  | inr q ↦ subst IsShort (ap (λ o. unwrap_or o others) (sym q.1)) short
])
