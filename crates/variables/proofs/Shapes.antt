-- Stores that are found by their instance, and one of them changed.
use Rattle.std.proofs.Common.{◌≡◌, ℕ, zero, suc, List, [], ◌∷◌, length, get_or, set, Option, Some, None, IsSome, Bool, true, false, cond, refl, sym, subst, ap, ◌∙◌, arith}
use Rattle.std.specs.Prelude.{◌==◌, unwrap_or, slice_get}
use Rattle.std.proofs.lemmas.Option.{slice_get_past}
use Rattle.scratch_values.specs.Casts.{zero_number}
use Rattle.scratch_values.specs.declared.value.Value.{Value}
use Rattle.scratch_values.specs.declared.value.Value.TheVariants.{Number}
use Rattle.std.specs.List.{position, find}
use Rattle.machine_spec.specs.declared.variables.Store.{Store}
use Rattle.machine_spec.specs.Stores.{Variables, store_at, on_store, value_in, items_in}
use Rattle.machine_spec.specs.DataRows.{value_set, items_set}
use Rattle.variables.specs.Held.{HasValue, HasItems, HasSameShape, value_at, items_at}
use Rattle.variables.specs.Kept.{IsAlike}
use Rattle.variables.proofs.Places.{find_is, find_none, first_changed_is}

abbrev pub no_store : ℕ → Store
no_store n = record { of = n; values = []; lists = [] }

pub store_at_is : (n : ℕ) (ss : List Store) (i : ℕ) (d : Store) → position (λ s. s.of == n) ss ≡ Some i → store_at n ss ≡ get_or ss i d
store_at_is n ss i d e = ap (λ o. unwrap_or o (no_store n)) (find_is (λ s. s.of == n) ss i d e)

pub store_at_none : (n : ℕ) (ss : List Store) → position (λ s. s.of == n) ss ≡ None → store_at n ss ≡ no_store n
store_at_none n ss e = ap (λ o. unwrap_or o (no_store n)) (find_none (λ s. s.of == n) ss e)

pub value_is_placed : (n k : ℕ) (vs : Variables) → HasValue n k vs → position (λ s. s.of == n) vs.stores ≡ None → ⊥
value_is_placed n k vs h e =
    let l : length (store_at n vs.stores).values ≡ 0 = ap (λ (s : Store). length s.values) (store_at_none n vs.stores e) in
    omega arith

pub items_are_placed : (n k : ℕ) (vs : Variables) → HasItems n k vs → position (λ s. s.of == n) vs.stores ≡ None → ⊥
items_are_placed n k vs h e =
    let l : length (store_at n vs.stores).lists ≡ 0 = ap (λ (s : Store). length s.lists) (store_at_none n vs.stores e) in
    omega arith

pub on_store_is : (n : ℕ) (f : Store → Store) (vs : Variables) (i : ℕ) (d : Store) → position (λ s. s.of == n) vs.stores ≡ Some i → on_store n f vs ≡ record vs { stores = set vs.stores i (f (get_or vs.stores i d)) }
on_store_is n f vs i d e = ap (λ (ss : List Store). record vs { stores = ss }) (first_changed_is (λ s. s.of == n) f vs.stores i d e)

-- the code's old and new fields, where a store was changed at its place
pub changed_is : (n : ℕ) (f : Store → Store) (old vs : Variables) (i : ℕ) (s t : Store) → old ≡ vs → position (λ s. s.of == n) vs.stores ≡ Some i → s ≡ get_or old.stores i s → t ≡ f s
    → ◌≡◌ {A = Variables} (record { stores = set old.stores i t; file_monitors = old.file_monitors; made = old.made }) (on_store n f vs)
changed_is n f old vs i s t e p at is =
    ap (λ (o : Variables). record o { stores = set o.stores i t }) e
    ∙ ap (λ (x : Store). record vs { stores = set vs.stores i x }) (is ∙ ap f (at ∙ ap (λ (o : Variables). get_or o.stores i s) e))
    ∙ sym (on_store_is n f vs i s p)

same_here : (b : Bool) (g : Store → ℕ) (s t : Store) (o : Option Store) (d : Store) → g t ≡ g s → g (unwrap_or (cond b (Some t) o) d) ≡ g (unwrap_or (cond b (Some s) o) d)
same_here true g s t o d h = h
same_here false g s t o d h = refl

same_behind : (b : Bool) (g : Store → ℕ) (s : Store) (o q : Option Store) (d : Store) → g (unwrap_or o d) ≡ g (unwrap_or q d) → g (unwrap_or (cond b (Some s) o) d) ≡ g (unwrap_or (cond b (Some s) q) d)
same_behind true g s o q d h = refl
same_behind false g s o q d h = h

same-set : (m : ℕ) (g : Store → ℕ) (ss : List Store) (i : ℕ) (t d : Store) → t.of ≡ (get_or ss i d).of → g t ≡ g (get_or ss i d) → g (store_at m (set ss i t)) ≡ g (store_at m ss)
same-set m g [] zero t d e h = refl
same-set m g [] (suc i) t d e h = refl
same-set m g (s ∷ ss) zero t d e h =
    ap (λ n. g (unwrap_or (cond (n == m) (Some t) (find (λ s. s.of == m) ss)) (no_store m))) e
    ∙ same_here (s.of == m) g s t (find (λ s. s.of == m) ss) (no_store m) h
same-set m g (s ∷ ss) (suc i) t d e h =
    same_behind (s.of == m) g s (find (λ s. s.of == m) (set ss i t)) (find (λ s. s.of == m) ss) (no_store m) (same-set m g ss i t d e h)

has_here : (b : Bool) (s t : Store) (o : Option Store) → IsSome (cond b (Some s) o) → IsSome (cond b (Some t) o)
has_here true s t o h = refl
has_here false s t o h = h

has_behind : (b : Bool) (s : Store) (o q : Option Store) → (IsSome o → IsSome q) → IsSome (cond b (Some s) o) → IsSome (cond b (Some s) q)
has_behind true s o q f h = refl
has_behind false s o q f h = f h

has-set : (m : ℕ) (ss : List Store) (i : ℕ) (t d : Store) → t.of ≡ (get_or ss i d).of → IsSome (find (λ s. s.of == m) ss) → IsSome (find (λ s. s.of == m) (set ss i t))
has-set m [] zero t d e h = h
has-set m [] (suc i) t d e h = h
has-set m (s ∷ ss) zero t d e h =
    let P : ℕ → Type 0 = λ n. IsSome (cond (n == m) (Some t) (find (λ s. s.of == m) ss)) in
    subst P (sym e) (has_here (s.of == m) s t (find (λ s. s.of == m) ss) h)
has-set m (s ∷ ss) (suc i) t d e h =
    has_behind (s.of == m) s (find (λ s. s.of == m) ss) (find (λ s. s.of == m) (set ss i t)) (has-set m ss i t d e) h

-- a store alike in place of one
shape-set : (vs : Variables) (i : ℕ) (t d : Store) → IsAlike (get_or vs.stores i d) t → HasSameShape vs (record vs { stores = set vs.stores i t })
shape-set vs i t d a = record {
  stores = λ n h. has-set n vs.stores i t d a.of h;
  values = λ n. same-set n (λ s. length s.values) vs.stores i t d a.of a.values;
  lists = λ n. same-set n (λ s. length s.lists) vs.stores i t d a.of a.lists;
}

-- the code's old and new fields, where a store was changed at its place
pub shape_is : (old vs : Variables) (i : ℕ) (s t : Store) → old ≡ vs → s ≡ get_or old.stores i s → IsAlike s t → HasSameShape vs (record { stores = set old.stores i t; file_monitors = old.file_monitors; made = old.made })
shape_is old vs i s t e at a =
    let P : Variables → Type 0 = λ v. HasSameShape v (record { stores = set old.stores i t; file_monitors = old.file_monitors; made = old.made }) in
    let Q : Store → Type 0 = λ x. IsAlike x t in
    subst P e (shape-set old i t s (subst Q at a))

-- the store of an instance, as the code finds it
pub placed : (n : ℕ) (old vs : Variables) (i : ℕ) (s : Store) → old ≡ vs → position (λ s. s.of == n) vs.stores ≡ Some i → s ≡ get_or old.stores i s → s ≡ store_at n vs.stores
placed n old vs i s e p at = at ∙ ap (λ (o : Variables). get_or o.stores i s) e ∙ sym (store_at_is n vs.stores i s p)

-- a value, and a list, that is made of what was held
pub value_changed_is : (n k : ℕ) (g : Value → Value) (old vs : Variables) (i : ℕ) (s t : Store) → old ≡ vs → position (λ s. s.of == n) vs.stores ≡ Some i → s ≡ get_or old.stores i s
    → t ≡ record s { values = set s.values k (g (value_at k s)) }
    → ◌≡◌ {A = Variables} (record { stores = set old.stores i t; file_monitors = old.file_monitors; made = old.made }) (value_set n k (g (value_in n k vs)) vs)
value_changed_is n k g old vs i s t e p at is =
    changed_is n (λ (x : Store). record x { values = set x.values k (g (value_in n k vs)) }) old vs i s t e p at
    (is ∙ ap (λ (x : Store). record s { values = set s.values k (g (value_at k x)) }) (placed n old vs i s e p at))

pub list_changed_is : (n k : ℕ) (g : List Value → List Value) (old vs : Variables) (i : ℕ) (s t : Store) → old ≡ vs → position (λ s. s.of == n) vs.stores ≡ Some i → s ≡ get_or old.stores i s
    → t ≡ record s { lists = set s.lists k (g (items_at k s)) }
    → ◌≡◌ {A = Variables} (record { stores = set old.stores i t; file_monitors = old.file_monitors; made = old.made }) (items_set n k (g (items_in n k vs)) vs)
list_changed_is n k g old vs i s t e p at is =
    changed_is n (λ (x : Store). record x { lists = set x.lists k (g (items_in n k vs)) }) old vs i s t e p at
    (is ∙ ap (λ (x : Store). record s { lists = set s.lists k (g (items_at k x)) }) (placed n old vs i s e p at))

-- what is read of the store of an instance, and where it has none
pub value_read : (n k : ℕ) (old vs : Variables) (i : ℕ) (s : Store) (z v : Value) → old ≡ vs → position (λ s. s.of == n) vs.stores ≡ Some i → s ≡ get_or old.stores i s → z ≡ Number zero_number
    → v ≡ unwrap_or (slice_get s.values k) z → v ≡ value_in n k vs
value_read n k old vs i s z v e p at to is =
    is ∙ ap (unwrap_or (slice_get s.values k)) to ∙ ap (value_at k) (placed n old vs i s e p at)

pub value_unread : (n k : ℕ) (vs : Variables) (z : Value) → position (λ s. s.of == n) vs.stores ≡ None → z ≡ Number zero_number → z ≡ value_in n k vs
value_unread n k vs z p to =
    to ∙ ap (λ (o : Option Value). unwrap_or o (Number zero_number)) (sym (slice_get_past [] k (omega arith))) ∙ sym (ap (value_at k) (store_at_none n vs.stores p))

pub items_read : (n k : ℕ) (old vs : Variables) (i : ℕ) (s : Store) (z v : List Value) → old ≡ vs → position (λ s. s.of == n) vs.stores ≡ Some i → s ≡ get_or old.stores i s → z ≡ []
    → v ≡ unwrap_or (slice_get s.lists k) z → v ≡ items_in n k vs
items_read n k old vs i s z v e p at to is =
    is ∙ ap (unwrap_or (slice_get s.lists k)) to ∙ ap (items_at k) (placed n old vs i s e p at)

pub items_unread : (n k : ℕ) (vs : Variables) (z : List Value) → position (λ s. s.of == n) vs.stores ≡ None → z ≡ [] → z ≡ items_in n k vs
items_unread n k vs z p to =
    to ∙ ap (λ (o : Option (List Value)). unwrap_or o []) (sym (slice_get_past [] k (omega arith))) ∙ sym (ap (items_at k) (store_at_none n vs.stores p))
