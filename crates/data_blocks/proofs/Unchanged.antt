-- A list that is set to its own items.
use Rattle.std.proofs.Common.{◌≡◌, ℕ, List, [], get_or, set, Option, Some, None, Bool, refl, sym, ap, ◌∙◌, arith}
use Rattle.std.specs.Prelude.{◌==◌, unwrap_or}
use Rattle.std.specs.List.{position, find, slice_get}
use Rattle.std.proofs.lemmas.List.{set-get_or}
use Rattle.std.proofs.lemmas.List.Folds.{find_at}
use Rattle.std.proofs.lemmas.List.Quantifiers.{position-Some}
use Rattle.std.proofs.lemmas.List.Sums.{position_or_len_is}
use Rattle.std.proofs.lemmas.Option.{slice_get-get_or, unwrap_or-slice_get}
use Rattle.scratch_values.specs.declared.value.Value.{Value}
use Rattle.machine_spec.specs.declared.variables.Store.{Store}
use Rattle.machine_spec.specs.Lists.{first_changed, changed_at_some, set_some}
use Rattle.machine_spec.specs.Stores.{Variables, store_at, items_in}
use Rattle.machine_spec.specs.DataRows.{items_set}

found : {X : Type 0} (p : X → Bool) (xs : List X) (i : ℕ) (d : X) → position p xs ≡ Some i → find p xs ≡ Some (get_or xs i d)
found p xs i d e =
    let at = position-Some p xs i d e in
    find_at p xs ∙ ap (slice_get xs) (position_or_len_is p xs i d (omega arith) at.2 (λ _. at.1)) ∙ slice_get-get_or xs i d at.0

changed : {X : Type 0} (p : X → Bool) (f : X → X) (xs : List X) (i : ℕ) (d : X) → position p xs ≡ Some i → first_changed p f xs ≡ set xs i (f (get_or xs i d))
changed p f xs i d e =
    ap (λ o. changed_at_some f o xs) e ∙ ap (λ o. set_some o f i xs) (slice_get-get_or xs i d (position-Some p xs i d e).0)

unchanged_at : (n k : ℕ) (vs : Variables) (o : Option ℕ) → position (λ s. s.of == n) vs.stores ≡ o → items_set n k (items_in n k vs) vs ≡ vs
unchanged_at n k vs None e = ap (λ o. record vs { stores = changed_at_some (λ (s : Store). record s { lists = set s.lists k (items_in n k vs) }) o vs.stores }) e
unchanged_at n k vs (Some i) e =
    let d : Store = record { of = n; values = []; lists = [] } in
    let s : Store = get_or vs.stores i d in
    let there : store_at n vs.stores ≡ s = ap (λ o. unwrap_or o d) (found (λ (s : Store). s.of == n) vs.stores i d e) in
    let items : items_in n k vs ≡ get_or s.lists k [] = ap (λ (x : Store). unwrap_or (slice_get x.lists k) []) there ∙ unwrap_or-slice_get s.lists k [] in
    ap (λ (l : List Value). items_set n k l vs) items
    ∙ ap (λ (ss : List Store). record vs { stores = ss }) (changed (λ (s : Store). s.of == n) (λ (x : Store). record x { lists = set x.lists k (get_or s.lists k []) }) vs.stores i d e)
    ∙ ap (λ (l : List (List Value)). record vs { stores = set vs.stores i (record s { lists = l }) }) (set-get_or s.lists k [])
    ∙ ap (λ (ss : List Store). record vs { stores = ss }) (set-get_or vs.stores i d)

pub unchanged : (n k : ℕ) (vs : Variables) → vs ≡ items_set n k (items_in n k vs) vs
unchanged n k vs = sym (unchanged_at n k vs (position (λ s. s.of == n) vs.stores) refl)
